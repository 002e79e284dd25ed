-- How many bodies a supervisor has after an event, and once a body has left.
use Rattle.std.specs.Prelude.{◌≡◌, ℕ, ◌+◌, ◌++◌, ◌||◌, Bool, true, false, List, [], ◌∷◌, Option, None, Some, refl, if◌then◌else◌}
use Rattle.std.specs.List.{list_any}
use Rattle.std.proofs.Common.{◌∙◌, ap, sym, arith, cond, ⊎_elim}
use Rattle.std.proofs.lemmas.Bool.{false≢true, cases_Bool, cond_both}
use Rattle.std.proofs.lemmas.List.Sums.{sum_by-append, sum_by-cons}
use Rattle.otp_table.specs.declared.row.Row.{Row}
use Rattle.otp_bodies.specs.declared.bodies.Kept.{Kept}
use Rattle.otp_bodies.specs.declared.bodies.Origin.TheVariants as origin
use Rattle.otp_bodies.specs.declared.bodies.BodyPlace.{BodyPlace}
use Rattle.otp_bodies.specs.declared.bodies.BodyPlace.TheVariants as placed
use Rattle.otp_bodies.specs.Bodies.{bodies_in, came_for, has_body, home_or_free, is_at_home, is_away, is_away_from, is_here, is_waiting, move_first, opened, opened_place, place_among, place_of_call, place_without_line, settled, stray, taken_up}
use Rattle.otp_bodies.proofs.Keeping.{home_is_here, opened_place-here, place_among-here, waiting_is_here}

abbrev one : BodyPlace → ℕ
one at = cond (is_here at) 1 0

counted : (b : Kept) (bs : List Kept) → bodies_in (b ∷ bs) ≡ one b.place + bodies_in bs
counted b bs = sum_by-cons (λ (x : Kept). one x.place) b bs

-- one body more
pub put_count : (kept : List Kept) (b : Kept) → is_here b.place ≡ true → bodies_in (kept ++ b ∷ []) ≡ bodies_in kept + 1
put_count kept b here =
    let e : ◌≡◌ {A = ℕ} (one b.place) 1 = ap (λ (x : Bool). cond x 1 0) here in
    omega (arith, e, sum_by-append (λ (x : Kept). one x.place) kept (b ∷ []), counted b [])

-- the first that passes moves: away from here, or to here, or neither
pub moved_count : (test : Kept → Bool) (to : BodyPlace) (from : Bool) (kept : List Kept) → ((b : Kept) → test b ≡ true → is_here b.place ≡ from) → list_any test kept ≡ true
    → bodies_in (move_first test to kept) + cond from 1 0 ≡ bodies_in kept + one to
moved_count test to from [] was any = absurd (false≢true any)
moved_count test to from (b ∷ bs) was any =
    ⊎_elim
    (λ (t : test b ≡ true).
    let h : ◌≡◌ {A = ℕ} (one b.place) (cond from 1 0) = ap (λ (x : Bool). cond x 1 0) (was b t) in
    let n : bodies_in (move_first test to (b ∷ bs)) ≡ bodies_in (record b { place = to } ∷ bs) = ap (λ (x : Bool). bodies_in (if x then record b { place = to } ∷ bs else b ∷ move_first test to bs)) t in
    omega (arith, h, n, counted b bs, counted (record b { place = to }) bs))
    (λ (f : test b ≡ false).
    let n : bodies_in (move_first test to (b ∷ bs)) ≡ bodies_in (b ∷ move_first test to bs) = ap (λ (x : Bool). bodies_in (if x then record b { place = to } ∷ bs else b ∷ move_first test to bs)) f in
    let rest : list_any test bs ≡ true = sym (ap (λ (x : Bool). x || list_any test bs) f) ∙ any in
    omega (arith, n, counted b bs, counted b (move_first test to bs), moved_count test to from bs was rest))
    (cases_Bool (test b))

away_gone : (slot : ℕ) (at : BodyPlace) → is_away_from slot at ≡ true → is_here at ≡ false
away_gone slot (placed.Home k) h = absurd (false≢true h)
away_gone slot placed.Waiting h = absurd (false≢true h)
away_gone slot placed.Free h = absurd (false≢true h)
away_gone slot (placed.Away k) h = refl

without_line_here : (slot : ℕ) (kept : List Kept) → is_here (place_without_line slot kept) ≡ true
without_line_here slot kept = cond_both (has_body slot kept) placed.Free (placed.Home slot) (λ (p : BodyPlace). is_here p ≡ true) (λ _. refl) (λ _. refl)

pub came_count : (home : Option ℕ) (kept : List Kept) → bodies_in (came_for home kept) ≡ bodies_in kept + 1
came_count None kept = put_count kept stray refl
came_count (Some slot) kept =
    let b : Kept = record { origin = origin.Nobody; place = place_without_line slot kept } in
    cond_both (list_any (is_away slot) kept) (move_first (is_away slot) (placed.Home slot) kept) (kept ++ b ∷ []) (λ (l : List Kept). bodies_in l ≡ bodies_in kept + 1)
    (λ any. omega (arith, moved_count (is_away slot) (placed.Home slot) false kept (λ b t. away_gone slot b.place t) any))
    (λ _. put_count kept b (without_line_here slot kept))

free_here : (slot : Option ℕ) → is_here (home_or_free slot) ≡ true
free_here None = refl
free_here (Some slot) = refl

pub call_here : (waits : Bool) (slot : Option ℕ) → is_here (place_of_call waits slot) ≡ true
call_here true slot = refl
call_here false slot = free_here slot

-- none passes, or the one that does stays here
stays_count : (test : Kept → Bool) (to : BodyPlace) (kept : List Kept) → is_here to ≡ true → ((b : Kept) → test b ≡ true → is_here b.place ≡ true) → bodies_in (move_first test to kept) ≡ bodies_in kept
stays_count test to [] here was = refl
stays_count test to (b ∷ bs) here was =
    cond_both (test b) (record b { place = to } ∷ bs) (b ∷ move_first test to bs) (λ (l : List Kept). bodies_in l ≡ bodies_in (b ∷ bs))
    (λ t.
    let h : ◌≡◌ {A = ℕ} (one b.place) 1 = ap (λ (x : Bool). cond x 1 0) (was b t) in
    let k : ◌≡◌ {A = ℕ} (one to) 1 = ap (λ (x : Bool). cond x 1 0) here in
    omega (arith, h, k, counted b bs, counted (record b { place = to }) bs))
    (λ _. omega (arith, counted b bs, counted b (move_first test to bs), stays_count test to bs here was))

pub taken_count : (is : Bool) (slot : Option ℕ) (kept : List Kept) → bodies_in (taken_up is slot kept) ≡ bodies_in kept
taken_count true slot kept = stays_count is_waiting (home_or_free slot) kept (free_here slot) (λ b w. waiting_is_here b.origin b.place w)
taken_count false slot kept = refl

pub settled_count : (rows : List Row) (any : Bool) (kept : List Kept) → bodies_in (settled rows any kept) ≡ bodies_in kept
settled_count rows any [] = refl
settled_count rows any (b ∷ bs) =
    let h : ◌≡◌ {A = ℕ} (one (place_among rows any b.place)) (one b.place) = ap (λ (x : Bool). cond x 1 0) (place_among-here rows any b.place) in
    omega (arith, h, counted b bs, counted (record b { place = place_among rows any b.place }) (settled rows any bs), settled_count rows any bs)

pub opened_count : (n : List Row) (kept : List Kept) → bodies_in (opened n kept) ≡ bodies_in kept
opened_count n [] = refl
opened_count n (b ∷ bs) =
    let h : ◌≡◌ {A = ℕ} (one (opened_place n b.origin b.place)) (one b.place) = ap (λ (x : Bool). cond x 1 0) (opened_place-here n b.origin b.place) in
    omega (arith, h, counted b bs, counted (record b { place = opened_place n b.origin b.place }) (opened n bs), opened_count n bs)

-- the body that leaves is one less
pub left_count : (slot : ℕ) (kept : List Kept) → list_any (is_at_home slot) kept ≡ true → bodies_in (move_first (is_at_home slot) (placed.Away slot) kept) + 1 ≡ bodies_in kept
left_count slot kept any = omega (arith, moved_count (is_at_home slot) (placed.Away slot) true kept (λ b t. home_is_here slot b.place t) any)
