-- Where bodies are after one of them moved, and after all were settled.
use Rattle.std.specs.Prelude.{◌≡◌, ◌⊎◌, ℕ, ◌+◌, ◌<◌, ◌≤◌, ◌==◌, ◌++◌, ◌&&◌, ◌||◌, not, Bool, true, false, List, [], ◌∷◌, Option, None, Some, refl, if◌then◌else◌, is_some, map}
use Prim.Native.Nat.{zero, suc}
use Rattle.std.specs.List.{cons_option, list_any}
use Rattle.std.proofs.Common.{◌∙◌, ap, sym, arith, cond, rules, inl, inr, ⊎_elim}
use Rattle.std.proofs.lemmas.Bool.{false≢true, cond_both, eqb-true, eq-eqb, and_parts, and_from}
use Rattle.std.proofs.lemmas.List.Folds.{list_any-append}
use Rattle.std.proofs.lemmas.List.Sums.{sum_by-append, sum_by-cons}
use Rattle.otp_table.specs.declared.row.Row.{Row}
use Rattle.otp_table.specs.Rows.{has_slot}
use Rattle.otp_bodies.specs.declared.bodies.Kept.{Kept}
use Rattle.otp_bodies.specs.declared.bodies.Origin.{Origin}
use Rattle.otp_bodies.specs.declared.bodies.Origin.TheVariants as origin
use Rattle.otp_bodies.specs.declared.bodies.BodyPlace.{BodyPlace}
use Rattle.otp_bodies.specs.declared.bodies.BodyPlace.TheVariants as placed
use Rattle.otp_bodies.specs.Bodies.{are_given, calls_waiting, come_home, count_away, has_body, is_at_home, is_away, is_away_from, is_given, is_home_of, is_spec, is_waiting, is_waiting_place, move_first, opened, opened_place, place_among, place_without_line, settled, waiting_as, waiting_call, without_first}
use Rattle.otp_bodies.proofs.Keeping.{or_false}

pub or_right : (a b : Bool) → b ≡ true → (a || b) ≡ true
or_right true b h = refl
or_right false b h = h

pub or_left : (a b : Bool) → a ≡ true → (a || b) ≡ true
or_left a b h = ap (λ (x : Bool). x || b) h

-- one of the two is so
pub or_split : (a b : Bool) (P : Type 0) → (a || b) ≡ true → (a ≡ true → P) → (b ≡ true → P) → P
or_split true b P h left right = left refl
or_split false b P h left right = right h

pub any_before : (u : Kept → Bool) (xs ys : List Kept) → list_any u xs ≡ true → list_any u (xs ++ ys) ≡ true
any_before u xs ys h = list_any-append u xs ys ∙ or_left (list_any u xs) (list_any u ys) h

pub any_last : (u : Kept → Bool) (xs : List Kept) (b : Kept) → u b ≡ true → list_any u (xs ++ b ∷ []) ≡ true
any_last u xs b h = list_any-append u xs (b ∷ []) ∙ or_right (list_any u xs) (u b || false) (or_left (u b) false h)

-- what passes another test still does once the first that passes this one moved, if that doesn't depend on the move
pub any_moved : (t u : Kept → Bool) (to : BodyPlace) (kept : List Kept) → ((b : Kept) → t b ≡ true → u b ≡ true → u (record b { place = to }) ≡ true) → list_any u kept ≡ true → list_any u (move_first t to kept) ≡ true
any_moved t u to [] keeps h = h
any_moved t u to (b ∷ bs) keeps h =
    cond_both (t b) (record b { place = to } ∷ bs) (b ∷ move_first t to bs) (λ (l : List Kept). list_any u l ≡ true)
    (λ is. or_split (u b) (list_any u bs) (list_any u (record b { place = to } ∷ bs) ≡ true) h (λ here. or_left (u (record b { place = to })) (list_any u bs) (keeps b is here)) (λ rest. or_right (u (record b { place = to })) (list_any u bs) rest))
    (λ _. or_split (u b) (list_any u bs) (list_any u (b ∷ move_first t to bs) ≡ true) h (λ here. or_left (u b) (list_any u (move_first t to bs)) here) (λ rest. or_right (u b) (list_any u (move_first t to bs)) (any_moved t u to bs keeps rest)))

-- what moved passes the other test
pub any_to : (t u : Kept → Bool) (to : BodyPlace) (kept : List Kept) → ((b : Kept) → t b ≡ true → u (record b { place = to }) ≡ true) → list_any t kept ≡ true → list_any u (move_first t to kept) ≡ true
any_to t u to [] there h = absurd (false≢true h)
any_to t u to (b ∷ bs) there h =
    cond_both (t b) (record b { place = to } ∷ bs) (b ∷ move_first t to bs) (λ (l : List Kept). list_any u l ≡ true)
    (λ is. or_left (u (record b { place = to })) (list_any u bs) (there b is))
    (λ isnt. or_right (u b) (list_any u (move_first t to bs)) (any_to t u to bs there (sym (ap (λ (x : Bool). x || list_any t bs) isnt) ∙ h)))

pub any_mapped : (u : Kept → Bool) (f : Kept → Kept) (kept : List Kept) → ((b : Kept) → u b ≡ true → u (f b) ≡ true) → list_any u kept ≡ true → list_any u (map f kept) ≡ true
any_mapped u f [] keeps h = h
any_mapped u f (b ∷ bs) keeps h =
    or_split (u b) (list_any u bs) (list_any u (map f (b ∷ bs)) ≡ true) h (λ here. or_left (u (f b)) (list_any u (map f bs)) (keeps b here)) (λ rest. or_right (u (f b)) (list_any u (map f bs)) (any_mapped u f bs keeps rest))

pub any_left : (t u : Kept → Bool) (kept : List Kept) → ((b : Kept) → t b ≡ true → u b ≡ false) → list_any u kept ≡ true → list_any u (without_first t kept) ≡ true
any_left t u [] other h = h
any_left t u (b ∷ bs) other h =
    cond_both (t b) bs (b ∷ without_first t bs) (λ (l : List Kept). list_any u l ≡ true)
    (λ is. or_split (u b) (list_any u bs) (list_any u bs ≡ true) h (λ here. absurd (false≢true (sym (other b is) ∙ here))) (λ rest. rest))
    (λ _. or_split (u b) (list_any u bs) (list_any u (b ∷ without_first t bs) ≡ true) h (λ here. or_left (u b) (list_any u (without_first t bs)) here) (λ rest. or_right (u b) (list_any u (without_first t bs)) (any_left t u bs other rest)))

-- a body in one place isn't in another

away_or_home : (k slot : ℕ) (at : BodyPlace) → is_away_from k at ≡ true → is_home_of slot at ≡ true → ⊥
away_or_home k slot (placed.Home j) a h = false≢true a
away_or_home k slot placed.Waiting a h = false≢true a
away_or_home k slot placed.Free a h = false≢true a
away_or_home k slot (placed.Away j) a h = false≢true h

waits_there : (o : Origin) (at : BodyPlace) → is_some (waiting_as o at) ≡ true → at ≡ placed.Waiting
waits_there (origin.Spec k) at w = absurd (false≢true w)
waits_there origin.Nobody at w = absurd (false≢true w)
waits_there (origin.Call c) (placed.Home j) w = absurd (false≢true w)
waits_there (origin.Call c) placed.Waiting w = refl
waits_there (origin.Call c) placed.Free w = absurd (false≢true w)
waits_there (origin.Call c) (placed.Away j) w = absurd (false≢true w)

waiting_or_home : (slot : ℕ) (o : Origin) (at : BodyPlace) → is_some (waiting_as o at) ≡ true → is_home_of slot at ≡ true → ⊥
waiting_or_home slot o at w h = false≢true (sym (ap (λ (p : BodyPlace). is_home_of slot p) (waits_there o at w)) ∙ h)

waiting_or_away : (slot : ℕ) (o : Origin) (at : BodyPlace) → is_some (waiting_as o at) ≡ true → is_away_from slot at ≡ true → ⊥
waiting_or_away slot o at w h = false≢true (sym (ap (λ (p : BodyPlace). is_away_from slot p) (waits_there o at w)) ∙ h)

home_once : (k slot : ℕ) (at : BodyPlace) → is_home_of k at ≡ true → is_home_of slot at ≡ true → k ≡ slot
home_once k slot (placed.Home j) a h = sym (eqb-true j k a) ∙ eqb-true j slot h
home_once k slot placed.Waiting a h = absurd (false≢true a)
home_once k slot placed.Free a h = absurd (false≢true a)
home_once k slot (placed.Away j) a h = absurd (false≢true a)

same_number : (n : ℕ) → (n == n) ≡ true
same_number n = eq-eqb n n refl

-- the child's body is at home, and stays there

pub stays_when_home : (k slot : ℕ) (kept : List Kept) → has_body slot kept ≡ true → has_body slot (move_first (is_away k) (placed.Home k) kept) ≡ true
stays_when_home k slot kept h = any_moved (is_away k) (is_at_home slot) (placed.Home k) kept (λ b a home. absurd (away_or_home k slot b.place a home)) h

pub stays_when_up : (to : BodyPlace) (slot : ℕ) (kept : List Kept) → has_body slot kept ≡ true → has_body slot (move_first is_waiting to kept) ≡ true
stays_when_up to slot kept h = any_moved is_waiting (is_at_home slot) to kept (λ b w home. absurd (waiting_or_home slot b.origin b.place w home)) h

pub stays_when_left : (k slot : ℕ) (kept : List Kept) → (k ≡ slot → ⊥) → has_body slot kept ≡ true → has_body slot (move_first (is_at_home k) (placed.Away k) kept) ≡ true
stays_when_left k slot kept other h = any_moved (is_at_home k) (is_at_home slot) (placed.Away k) kept (λ b a home. absurd (other (home_once k slot b.place a home))) h

pub stays_when_come : (k slot : ℕ) (kept : List Kept) → has_body slot kept ≡ true → has_body slot (come_home k kept) ≡ true
stays_when_come k slot kept h =
    cond_both (list_any (is_away k) kept) (move_first (is_away k) (placed.Home k) kept) (kept ++ record { origin = origin.Nobody; place = place_without_line k kept } ∷ []) (λ (l : List Kept). has_body slot l ≡ true)
    (λ _. stays_when_home k slot kept h) (λ _. any_before (is_at_home slot) kept (record { origin = origin.Nobody; place = place_without_line k kept } ∷ []) h)

-- a body that comes for a child is at home, or another one was
pub comes_home : (slot : ℕ) (kept : List Kept) → has_body slot (come_home slot kept) ≡ true
comes_home slot kept =
    cond_both (list_any (is_away slot) kept) (move_first (is_away slot) (placed.Home slot) kept) (kept ++ record { origin = origin.Nobody; place = place_without_line slot kept } ∷ []) (λ (l : List Kept). has_body slot l ≡ true)
    (λ any. any_to (is_away slot) (is_at_home slot) (placed.Home slot) kept (λ b a. same_number slot) any)
    (λ _. without_line (has_body slot kept) refl)
  where
    without_line : (b : Bool) → has_body slot kept ≡ b → has_body slot (kept ++ record { origin = origin.Nobody; place = place_without_line slot kept } ∷ []) ≡ true
    without_line true h = any_before (is_at_home slot) kept (record { origin = origin.Nobody; place = place_without_line slot kept } ∷ []) h
    without_line false h =
        any_last (is_at_home slot) kept (record { origin = origin.Nobody; place = place_without_line slot kept })
        (ap (λ (b : Bool). is_home_of slot (if b then placed.Free else placed.Home slot)) h ∙ same_number slot)

among_home : (slot : ℕ) (rows : List Row) (any : Bool) (at : BodyPlace) → list_any (has_slot slot) rows ≡ true → is_home_of slot at ≡ true → is_home_of slot (place_among rows any at) ≡ true
among_home slot rows any (placed.Home k) row h =
    let is : k ≡ slot = eqb-true k slot h in
    ap (λ (b : Bool). is_home_of slot (if b then placed.Home k else placed.Free)) (ap (λ (n : ℕ). list_any (has_slot n) rows) is ∙ row) ∙ h
among_home slot rows any placed.Waiting row h = absurd (false≢true h)
among_home slot rows any placed.Free row h = absurd (false≢true h)
among_home slot rows any (placed.Away k) row h = absurd (false≢true h)

pub stays_when_settled : (slot : ℕ) (rows : List Row) (any : Bool) (kept : List Kept) → list_any (has_slot slot) rows ≡ true → has_body slot kept ≡ true → has_body slot (settled rows any kept) ≡ true
stays_when_settled slot rows any kept row h = any_mapped (is_at_home slot) (λ (b : Kept). record b { place = place_among rows any b.place }) kept (λ b home. among_home slot rows any b.place row home) h

-- how many bodies of a child are away

counted_away : (slot : ℕ) (b : Kept) (bs : List Kept) → count_away slot (b ∷ bs) ≡ cond (is_away slot b) 1 0 + count_away slot bs
counted_away slot b bs = sum_by-cons (λ (x : Kept). cond (is_away slot x) 1 0) b bs

no_count : (slot : ℕ) (b : Kept) → is_away slot b ≡ false → ◌≡◌ {A = ℕ} (cond (is_away slot b) 1 0) 0
no_count slot b h = ap (λ (x : Bool). cond x 1 0) h

-- more bodies, which aren't away
pub away_put : (slot : ℕ) (kept : List Kept) (b : Kept) → is_away slot b ≡ false → count_away slot (kept ++ b ∷ []) ≡ count_away slot kept
away_put slot kept b h = omega (arith, no_count slot b h, counted_away slot b [], sum_by-append (λ (x : Kept). cond (is_away slot x) 1 0) kept (b ∷ []))

-- a body that moves is away no more
pub away_moved : (t : Kept → Bool) (slot : ℕ) (to : BodyPlace) (kept : List Kept) → is_away_from slot to ≡ false → count_away slot (move_first t to kept) ≤ count_away slot kept
away_moved t slot to [] h = omega arith
away_moved t slot to (b ∷ bs) h =
    cond_both (t b) (record b { place = to } ∷ bs) (b ∷ move_first t to bs) (λ (l : List Kept). count_away slot l ≤ count_away slot (b ∷ bs))
    (λ _. omega (arith, no_count slot (record b { place = to }) h, counted_away slot b bs, counted_away slot (record b { place = to }) bs))
    (λ _. omega (arith, away_moved t slot to bs h, counted_away slot b bs, counted_away slot b (move_first t to bs)))

pub none_away : (slot : ℕ) (kept : List Kept) → list_any (is_away slot) kept ≡ false → count_away slot kept ≡ 0
none_away slot [] h = refl
none_away slot (b ∷ bs) h =
    let parts = or_false (is_away slot b) (list_any (is_away slot) bs) h in
    omega (arith, no_count slot b parts.0, counted_away slot b bs, none_away slot bs parts.1)

-- one of them comes
away_came : (slot : ℕ) (to : BodyPlace) (kept : List Kept) → is_away_from slot to ≡ false → list_any (is_away slot) kept ≡ true → count_away slot (move_first (is_away slot) to kept) + 1 ≡ count_away slot kept
away_came slot to [] h any = absurd (false≢true any)
away_came slot to (b ∷ bs) h any =
    cond_both (is_away slot b) (record b { place = to } ∷ bs) (b ∷ move_first (is_away slot) to bs) (λ (l : List Kept). count_away slot l + 1 ≡ count_away slot (b ∷ bs))
    (λ is. let one : ◌≡◌ {A = ℕ} (cond (is_away slot b) 1 0) 1 = ap (λ (x : Bool). cond x 1 0) is in omega (arith, one, no_count slot (record b { place = to }) h, counted_away slot b bs, counted_away slot (record b { place = to }) bs))
    (λ isnt. omega (arith, away_came slot to bs h (sym (ap (λ (x : Bool). x || list_any (is_away slot) bs) isnt) ∙ any), counted_away slot b bs, counted_away slot b (move_first (is_away slot) to bs)))

without_line_near : (slot k : ℕ) (kept : List Kept) → is_away_from slot (place_without_line k kept) ≡ false
without_line_near slot k kept = cond_both (has_body k kept) placed.Free (placed.Home k) (λ (p : BodyPlace). is_away_from slot p ≡ false) (λ _. refl) (λ _. refl)

pub away_less : (slot k : ℕ) (kept : List Kept) → count_away slot (come_home k kept) ≤ count_away slot kept
away_less slot k kept =
    let b : Kept = record { origin = origin.Nobody; place = place_without_line k kept } in
    cond_both (list_any (is_away k) kept) (move_first (is_away k) (placed.Home k) kept) (kept ++ b ∷ []) (λ (l : List Kept). count_away slot l ≤ count_away slot kept)
    (λ _. away_moved (is_away k) slot (placed.Home k) kept refl)
    (λ _. let same = away_put slot kept b (without_line_near slot k kept) in omega (arith, same))

-- a body came for the child: none of its bodies is away
pub away_no_more : (slot : ℕ) (kept : List Kept) → count_away slot kept ≤ 1 → count_away slot (come_home slot kept) ≡ 0
away_no_more slot kept one =
    let b : Kept = record { origin = origin.Nobody; place = place_without_line slot kept } in
    cond_both (list_any (is_away slot) kept) (move_first (is_away slot) (placed.Home slot) kept) (kept ++ b ∷ []) (λ (l : List Kept). count_away slot l ≡ 0)
    (λ any. omega (arith, one, away_came slot (placed.Home slot) kept refl any))
    (λ none. away_put slot kept b (without_line_near slot slot kept) ∙ none_away slot kept none)

away_mapped : (slot : ℕ) (f : Kept → Kept) (kept : List Kept) → ((b : Kept) → is_away slot (f b) ≡ is_away slot b) → count_away slot (map f kept) ≡ count_away slot kept
away_mapped slot f [] same = refl
away_mapped slot f (b ∷ bs) same =
    let e : ◌≡◌ {A = ℕ} (cond (is_away slot (f b)) 1 0) (cond (is_away slot b) 1 0) = ap (λ (x : Bool). cond x 1 0) (same b) in
    omega (arith, e, counted_away slot b bs, counted_away slot (f b) (map f bs), away_mapped slot f bs same)

among_away : (slot : ℕ) (rows : List Row) (any : Bool) (at : BodyPlace) → is_away_from slot (place_among rows any at) ≡ is_away_from slot at
among_away slot rows any (placed.Home k) = cond_both (list_any (has_slot k) rows) (placed.Home k) placed.Free (λ (p : BodyPlace). is_away_from slot p ≡ false) (λ _. refl) (λ _. refl)
among_away slot rows any placed.Waiting = cond_both any placed.Waiting placed.Free (λ (p : BodyPlace). is_away_from slot p ≡ false) (λ _. refl) (λ _. refl)
among_away slot rows any placed.Free = refl
among_away slot rows any (placed.Away k) = refl

pub away_settled : (slot : ℕ) (rows : List Row) (any : Bool) (kept : List Kept) → count_away slot (settled rows any kept) ≡ count_away slot kept
away_settled slot rows any kept = away_mapped slot (λ (b : Kept). record b { place = place_among rows any b.place }) kept (λ b. among_away slot rows any b.place)

opened_away : (slot : ℕ) (rows : List Row) (o : Origin) (at : BodyPlace) → is_away_from slot (opened_place rows o at) ≡ is_away_from slot at
opened_away slot rows (origin.Spec k) (placed.Home j) = refl
opened_away slot rows (origin.Spec k) placed.Waiting = refl
opened_away slot rows (origin.Spec k) placed.Free = cond_both (list_any (has_slot k) rows) (placed.Home k) placed.Free (λ (p : BodyPlace). is_away_from slot p ≡ false) (λ _. refl) (λ _. refl)
opened_away slot rows (origin.Spec k) (placed.Away j) = refl
opened_away slot rows (origin.Call c) at = refl
opened_away slot rows origin.Nobody at = refl

pub away_opened : (slot : ℕ) (rows : List Row) (kept : List Kept) → count_away slot (opened rows kept) ≡ count_away slot kept
away_opened slot rows kept = away_mapped slot (λ (b : Kept). record b { place = opened_place rows b.origin b.place }) kept (λ b. opened_away slot rows b.origin b.place)

-- a body that moves and wasn't away leaves those that are
pub away_same : (t : Kept → Bool) (slot : ℕ) (to : BodyPlace) (kept : List Kept) → ((b : Kept) → t b ≡ true → is_away slot b ≡ false) → count_away slot kept ≤ count_away slot (move_first t to kept)
away_same t slot to [] other = omega arith
away_same t slot to (b ∷ bs) other =
    cond_both (t b) (record b { place = to } ∷ bs) (b ∷ move_first t to bs) (λ (l : List Kept). count_away slot (b ∷ bs) ≤ count_away slot l)
    (λ is. omega (arith, no_count slot b (other b is), counted_away slot b bs, counted_away slot (record b { place = to }) bs))
    (λ _. omega (arith, away_same t slot to bs other, counted_away slot b bs, counted_away slot b (move_first t to bs)))

isnt_away : (slot : ℕ) (at : BodyPlace) → (is_away_from slot at ≡ true → ⊥) → is_away_from slot at ≡ false
isnt_away slot at never = by (is_away_from slot at) refl
  where
    by : (b : Bool) → is_away_from slot at ≡ b → is_away_from slot at ≡ false
    by false h = h
    by true h = absurd (never h)

away_twice : (k slot : ℕ) (at : BodyPlace) → is_away_from k at ≡ true → is_away_from slot at ≡ true → k ≡ slot
away_twice k slot (placed.Home j) a h = absurd (false≢true a)
away_twice k slot placed.Waiting a h = absurd (false≢true a)
away_twice k slot placed.Free a h = absurd (false≢true a)
away_twice k slot (placed.Away j) a h = sym (eqb-true j k a) ∙ eqb-true j slot h

pub away_when_home : (slot k : ℕ) (kept : List Kept) → count_away slot kept ≤ count_away slot (move_first (is_at_home k) (placed.Away k) kept)
away_when_home slot k kept = away_same (is_at_home k) slot (placed.Away k) kept (λ b home. isnt_away slot b.place (λ away. away_or_home slot k b.place away home))

pub away_when_up : (slot : ℕ) (to : BodyPlace) (kept : List Kept) → count_away slot kept ≤ count_away slot (move_first is_waiting to kept)
away_when_up slot to kept = away_same is_waiting slot to kept (λ b waits. isnt_away slot b.place (λ away. waiting_or_away slot b.origin b.place waits away))

-- another child's body comes
pub away_when_come : (slot k : ℕ) (kept : List Kept) → (k ≡ slot → ⊥) → count_away slot kept ≤ count_away slot (come_home k kept)
away_when_come slot k kept other =
    let b : Kept = record { origin = origin.Nobody; place = place_without_line k kept } in
    cond_both (list_any (is_away k) kept) (move_first (is_away k) (placed.Home k) kept) (kept ++ b ∷ []) (λ (l : List Kept). count_away slot kept ≤ count_away slot l)
    (λ _. away_same (is_away k) slot (placed.Home k) kept (λ x away. isnt_away slot x.place (λ mine. other (away_twice k slot x.place away mine))))
    (λ _. let same = away_put slot kept b (without_line_near slot k kept) in omega (arith, same))

-- the child's body leaves
pub away_leaves : (slot : ℕ) (kept : List Kept) → has_body slot kept ≡ true → 0 < count_away slot (move_first (is_at_home slot) (placed.Away slot) kept)
away_leaves slot [] h = absurd (false≢true h)
away_leaves slot (b ∷ bs) h =
    cond_both (is_at_home slot b) (record b { place = placed.Away slot } ∷ bs) (b ∷ move_first (is_at_home slot) (placed.Away slot) bs) (λ (l : List Kept). 0 < count_away slot l)
    (λ _. let one : ◌≡◌ {A = ℕ} (cond (is_away slot (record b { place = placed.Away slot })) 1 0) 1 = ap (λ (x : Bool). cond x 1 0) (same_number slot) in omega (arith, one, counted_away slot (record b { place = placed.Away slot }) bs))
    (λ isnt. omega (arith, away_leaves slot bs (sym (ap (λ (x : Bool). x || list_any (is_at_home slot) bs) isnt) ∙ h), counted_away slot b (move_first (is_at_home slot) (placed.Away slot) bs)))

-- one that is had back was free
pub away_had : (t : Kept → Bool) (slot : ℕ) (kept : List Kept) → ((b : Kept) → t b ≡ true → is_away slot b ≡ false) → count_away slot kept ≤ count_away slot (without_first t kept)
away_had t slot [] other = omega arith
away_had t slot (b ∷ bs) other =
    cond_both (t b) bs (b ∷ without_first t bs) (λ (l : List Kept). count_away slot (b ∷ bs) ≤ count_away slot l)
    (λ is. omega (arith, no_count slot b (other b is), counted_away slot b bs))
    (λ _. omega (arith, away_had t slot bs other, counted_away slot b bs, counted_away slot b (without_first t bs)))

-- a body that leaves home is away then
pub away_left : (slot k : ℕ) (kept : List Kept) → (k ≡ slot → ⊥) → count_away slot (move_first (is_at_home k) (placed.Away k) kept) ≤ count_away slot kept
away_left slot k kept other = away_moved (is_at_home k) slot (placed.Away k) kept (isnt (k == slot) refl)
  where
    isnt : (b : Bool) → (k == slot) ≡ b → (k == slot) ≡ false
    isnt false h = h
    isnt true h = absurd (other (eqb-true k slot h))

pub away_without : (t : Kept → Bool) (slot : ℕ) (kept : List Kept) → count_away slot (without_first t kept) ≤ count_away slot kept
away_without t slot [] = omega arith
away_without t slot (b ∷ bs) =
    cond_both (t b) bs (b ∷ without_first t bs) (λ (l : List Kept). count_away slot l ≤ count_away slot (b ∷ bs))
    (λ _. omega (arith, counted_away slot b bs)) (λ _. omega (arith, away_without t slot bs, counted_away slot b bs, counted_away slot b (without_first t bs)))

-- the bodies that were handed in for specifications

last_or_before : (i j : ℕ) → i < suc j → (i < j) ⊎ (i ≡ j)
last_or_before zero zero w = inr refl
last_or_before zero (suc j) w = inl (omega arith)
last_or_before (suc i) zero w = absurd (omega (arith, w))
last_or_before (suc i) (suc j) w = ⊎_elim (λ l. inl (omega (arith, l))) (λ e. inr (ap suc e)) (last_or_before i j (omega (arith, w)))

pub given_at : (n k : ℕ) (kept : List Kept) → are_given n kept ≡ true → k < n → list_any (is_given k) kept ≡ true
given_at zero k kept h within = absurd (omega (arith, within))
given_at (suc n) k kept h within =
    let parts : (are_given n kept ≡ true) × (list_any (is_given n) kept ≡ true) = and_parts (are_given n kept) (list_any (is_given n) kept) h in
    ⊎_elim (λ (l : k < n). given_at n k kept parts.0 l) (λ (e : k ≡ n). ap (λ (m : ℕ). list_any (is_given m) kept) e ∙ parts.1) (last_or_before k n within)

pub given_more : (n : ℕ) (kept later : List Kept) → ((k : ℕ) → list_any (is_given k) kept ≡ true → list_any (is_given k) later ≡ true) → are_given n kept ≡ true → are_given n later ≡ true
given_more zero kept later more h = refl
given_more (suc n) kept later more h =
    let parts : (are_given n kept ≡ true) × (list_any (is_given n) kept ≡ true) = and_parts (are_given n kept) (list_any (is_given n) kept) h in
    and_from (are_given n later) (list_any (is_given n) later) (given_more n kept later more parts.0) (more n parts.1)

-- where one lacks its body not all have theirs
pub given_not : (n k : ℕ) (kept : List Kept) → k < n → list_any (is_given k) kept ≡ false → are_given n kept ≡ false
given_not n k kept within lacks = by (are_given n kept) refl
  where
    by : (b : Bool) → are_given n kept ≡ b → are_given n kept ≡ false
    by false h = h
    by true h = absurd (false≢true (sym lacks ∙ given_at n k kept h within))

given_placed : (k : ℕ) (o : Origin) (at to : BodyPlace) → is_waiting_place to ≡ false → (is_spec k o && not (is_waiting_place at)) ≡ true → (is_spec k o && not (is_waiting_place to)) ≡ true
given_placed k o at to there h = and_from (is_spec k o) (not (is_waiting_place to)) (and_parts (is_spec k o) (not (is_waiting_place at)) h).0 (ap not there)

-- a given body moves to a place where it waits with no call
pub given_moved : (t : Kept → Bool) (to : BodyPlace) (n : ℕ) (kept : List Kept) → is_waiting_place to ≡ false → are_given n kept ≡ true → are_given n (move_first t to kept) ≡ true
given_moved t to n kept there h = given_more n kept (move_first t to kept) (λ k given. any_moved t (is_given k) to kept (λ b _ is. given_placed k b.origin b.place to there is) given) h

pub given_put : (n : ℕ) (kept : List Kept) (b : Kept) → are_given n kept ≡ true → are_given n (kept ++ b ∷ []) ≡ true
given_put n kept b h = given_more n kept (kept ++ b ∷ []) (λ k given. any_before (is_given k) kept (b ∷ []) given) h

pub given_come : (slot n : ℕ) (kept : List Kept) → are_given n kept ≡ true → are_given n (come_home slot kept) ≡ true
given_come slot n kept h =
    let b : Kept = record { origin = origin.Nobody; place = place_without_line slot kept } in
    cond_both (list_any (is_away slot) kept) (move_first (is_away slot) (placed.Home slot) kept) (kept ++ b ∷ []) (λ (l : List Kept). are_given n l ≡ true)
    (λ _. given_moved (is_away slot) (placed.Home slot) n kept refl h) (λ _. given_put n kept b h)

among_waiting : (rows : List Row) (any : Bool) (at : BodyPlace) → is_waiting_place at ≡ false → is_waiting_place (place_among rows any at) ≡ false
among_waiting rows any (placed.Home k) h = cond_both (list_any (has_slot k) rows) (placed.Home k) placed.Free (λ (p : BodyPlace). is_waiting_place p ≡ false) (λ _. refl) (λ _. refl)
among_waiting rows any placed.Waiting h = absurd (false≢true (sym h))
among_waiting rows any placed.Free h = refl
among_waiting rows any (placed.Away k) h = refl

opened_waiting : (rows : List Row) (o : Origin) (at : BodyPlace) → is_waiting_place at ≡ false → is_waiting_place (opened_place rows o at) ≡ false
opened_waiting rows (origin.Spec k) (placed.Home j) h = refl
opened_waiting rows (origin.Spec k) placed.Waiting h = absurd (false≢true (sym h))
opened_waiting rows (origin.Spec k) placed.Free h = cond_both (list_any (has_slot k) rows) (placed.Home k) placed.Free (λ (p : BodyPlace). is_waiting_place p ≡ false) (λ _. refl) (λ _. refl)
opened_waiting rows (origin.Spec k) (placed.Away j) h = refl
opened_waiting rows (origin.Call c) at h = h
opened_waiting rows origin.Nobody at h = h

not_waiting : (at : BodyPlace) → not (is_waiting_place at) ≡ true → is_waiting_place at ≡ false
not_waiting (placed.Home k) h = refl
not_waiting placed.Waiting h = absurd (false≢true h)
not_waiting placed.Free h = refl
not_waiting (placed.Away k) h = refl

given_near : (k : ℕ) (b : Kept) → is_given k b ≡ true → is_waiting_place b.place ≡ false
given_near k b h = not_waiting b.place (and_parts (is_spec k b.origin) (not (is_waiting_place b.place)) h).1

pub given_settled : (rows : List Row) (any : Bool) (n : ℕ) (kept : List Kept) → are_given n kept ≡ true → are_given n (settled rows any kept) ≡ true
given_settled rows any n kept h =
    given_more n kept (settled rows any kept) (λ k given. any_mapped (is_given k) (λ (b : Kept). record b { place = place_among rows any b.place }) kept (λ b is. given_placed k b.origin b.place (place_among rows any b.place) (among_waiting rows any b.place (given_near k b is)) is) given) h

pub given_opened : (rows : List Row) (n : ℕ) (kept : List Kept) → are_given n kept ≡ true → are_given n (opened rows kept) ≡ true
given_opened rows n kept h =
    given_more n kept (opened rows kept) (λ k given. any_mapped (is_given k) (λ (b : Kept). record b { place = opened_place rows b.origin b.place }) kept (λ b is. given_placed k b.origin b.place (opened_place rows b.origin b.place) (opened_waiting rows b.origin b.place (given_near k b is)) is) given) h

pub given_without : (t : Kept → Bool) (n : ℕ) (kept : List Kept) → ((k : ℕ) (b : Kept) → t b ≡ true → is_spec k b.origin ≡ false) → are_given n kept ≡ true → are_given n (without_first t kept) ≡ true
given_without t n kept other h =
    given_more n kept (without_first t kept) (λ k given. any_left t (is_given k) kept (λ b is. ap (λ (x : Bool). x && not (is_waiting_place b.place)) (other k b is)) given) h

-- at an opening the child in slot k has the body that was handed in for the specification at place k, as none is away
given_opens : (k : ℕ) (rows : List Row) (any : Bool) (o : Origin) (at : BodyPlace) → list_any (has_slot k) rows ≡ true → is_away_from k at ≡ false → ((j : ℕ) → is_away_from j at ≡ false) → (is_spec k o && not (is_waiting_place at)) ≡ true
    → is_home_of k (opened_place rows o (place_among [] any at)) ≡ true
given_opens k rows any (origin.Spec j) (placed.Home i) row near none h =
    let is : j ≡ k = eqb-true j k (and_parts (j == k) true h).0 in
    ap (λ (b : Bool). is_home_of k (if b then placed.Home j else placed.Free)) (ap (λ (n : ℕ). list_any (has_slot n) rows) is ∙ row) ∙ (and_parts (j == k) true h).0
given_opens k rows any (origin.Spec j) placed.Waiting row near none h = absurd (false≢true (and_parts (j == k) false h).1)
given_opens k rows any (origin.Spec j) placed.Free row near none h =
    let is : j ≡ k = eqb-true j k (and_parts (j == k) true h).0 in
    ap (λ (b : Bool). is_home_of k (if b then placed.Home j else placed.Free)) (ap (λ (n : ℕ). list_any (has_slot n) rows) is ∙ row) ∙ (and_parts (j == k) true h).0
given_opens k rows any (origin.Spec j) (placed.Away i) row near none h = absurd (false≢true (sym (none i) ∙ same_number i))
given_opens k rows any (origin.Call c) at row near none h = absurd (false≢true h)
given_opens k rows any origin.Nobody at row near none h = absurd (false≢true h)

pub none_counted : (j : ℕ) (b : Kept) (bs : List Kept) → count_away j (b ∷ bs) ≡ 0 → (is_away j b ≡ false) × (count_away j bs ≡ 0)
none_counted j b bs h = (isnt (is_away j b) refl, omega (arith, h, counted_away j b bs))
  where
    isnt : (x : Bool) → is_away j b ≡ x → is_away j b ≡ false
    isnt false e = e
    isnt true e = absurd (let one : ◌≡◌ {A = ℕ} (cond (is_away j b) 1 0) 1 = ap (λ (y : Bool). cond y 1 0) e in omega (arith, one, h, counted_away j b bs))

pub given_has_body : (k : ℕ) (rows : List Row) (any : Bool) (kept : List Kept) → list_any (has_slot k) rows ≡ true → ((j : ℕ) → count_away j kept ≡ 0) → list_any (is_given k) kept ≡ true → has_body k (opened rows (settled [] any kept)) ≡ true
given_has_body k rows any [] row none h = h
given_has_body k rows any (b ∷ bs) row none h =
    let there : Kept = record b { place = opened_place rows b.origin (place_among [] any b.place) } in
    or_split (is_given k b) (list_any (is_given k) bs) (has_body k (opened rows (settled [] any (b ∷ bs))) ≡ true) h
    (λ here. or_left (is_at_home k there) (has_body k (opened rows (settled [] any bs))) (given_opens k rows any b.origin b.place row (none_counted k b bs (none k)).0 (λ j. (none_counted j b bs (none j)).0) here))
    (λ rest. or_right (is_at_home k there) (has_body k (opened rows (settled [] any bs))) (given_has_body k rows any bs row (λ j. (none_counted j b bs (none j)).1) rest))

-- a body waits where a start call does
pub some_waits : (kept : List Kept) (c : ℕ) (rest : List ℕ) → calls_waiting kept ≡ c ∷ rest → list_any is_waiting kept ≡ true
some_waits [] c rest h = let e : ◌≡◌ {A = List ℕ} [] (c ∷ rest) = h in absurd (search (rules, e))
some_waits (b ∷ bs) c rest h = by (waiting_call b) refl (λ e. some_waits bs c rest (sym (ap (λ (x : Option ℕ). cons_option x (calls_waiting bs)) e) ∙ h))
  where
    by : (x : Option ℕ) → waiting_call b ≡ x → (waiting_call b ≡ None → list_any is_waiting bs ≡ true) → list_any is_waiting (b ∷ bs) ≡ true
    by (Some d) e others = or_left (is_waiting b) (list_any is_waiting bs) (ap (λ (x : Option ℕ). is_some x) e)
    by None e others = or_right (is_waiting b) (list_any is_waiting bs) (others e)
