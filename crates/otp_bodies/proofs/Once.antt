-- Of each child there is one body, at home and away together; of each specification one was handed in.
use Rattle.std.specs.Prelude.{◌≡◌, ℕ, ◌+◌, ◌<◌, ◌≤◌, ◌==◌, ◌++◌, ◌||◌, Bool, true, false, List, [], ◌∷◌, Option, None, Some, refl, if◌then◌else◌, map}
use Prim.Native.Nat.{zero, suc}
use Rattle.std.specs.List.{list_any}
use Rattle.std.proofs.Common.{◌∙◌, ap, sym, subst, arith, cond, ⊎_elim}
use Rattle.std.proofs.lemmas.Bool.{false≢true, cases_Bool, cond_both, eqb-true, eq-eqb}
use Rattle.std.proofs.lemmas.List.Sums.{sum_by-append, sum_by-cons}
use Rattle.otp_table.specs.declared.row.Row.{Row}
use Rattle.otp_table.specs.Rows.{has_slot}
use Rattle.otp_bodies.specs.declared.bodies.Kept.{Kept}
use Rattle.otp_bodies.specs.declared.bodies.Origin.{Origin}
use Rattle.otp_bodies.specs.declared.bodies.Origin.TheVariants as origin
use Rattle.otp_bodies.specs.declared.bodies.BodyPlace.{BodyPlace}
use Rattle.otp_bodies.specs.declared.bodies.BodyPlace.TheVariants as placed
use Rattle.otp_bodies.specs.Bodies.{came_for, count_away, count_given, count_home, has_body, home_or_free, is_at_home, is_away, is_away_from, is_from, is_home_of, is_spec, is_waiting, move_first, opened, opened_place, place_among, place_without_line, settled, stray, taken_up, without_first}
use Rattle.otp_bodies.proofs.Keeping.{or_false}
use Rattle.otp_bodies.proofs.Placed.{none_away, none_counted, or_left, or_right, or_split}

-- how many bodies of the child in this slot there are, at home and away
abbrev pub both : ℕ → List Kept → ℕ
both slot kept = count_home slot kept + count_away slot kept

-- the same of one place
abbrev pub there_or_away : ℕ → BodyPlace → ℕ
there_or_away slot at = cond (is_home_of slot at) 1 0 + cond (is_away_from slot at) 1 0

both_counted : (slot : ℕ) (b : Kept) (bs : List Kept) → both slot (b ∷ bs) ≡ there_or_away slot b.place + both slot bs
both_counted slot b bs = omega (arith, sum_by-cons (λ (x : Kept). cond (is_at_home slot x) 1 0) b bs, sum_by-cons (λ (x : Kept). cond (is_away slot x) 1 0) b bs)

pub counted_if : (b c : Bool) → b ≡ c → ◌≡◌ {A = ℕ} (cond b 1 0) (cond c 1 0)
counted_if b c e = ap (λ (x : Bool). cond x 1 0) e

pub at_most_one : (b : Bool) → cond b 1 0 ≤ 1
at_most_one true = omega arith
at_most_one false = omega arith

-- one body more, put last
pub both_put : (slot : ℕ) (kept : List Kept) (b : Kept) → both slot (kept ++ b ∷ []) ≡ both slot kept + there_or_away slot b.place
both_put slot kept b =
    omega (
      arith,
      sum_by-append (λ (x : Kept). cond (is_at_home slot x) 1 0) kept (b ∷ []),
      sum_by-append (λ (x : Kept). cond (is_away slot x) 1 0) kept (b ∷ []),
      sum_by-cons (λ (x : Kept). cond (is_at_home slot x) 1 0) b [],
      sum_by-cons (λ (x : Kept). cond (is_away slot x) 1 0) b [],
    )

-- the first that passes moves to where it counts no more than before
pub both_moved : (t : Kept → Bool) (to : BodyPlace) (slot : ℕ) (kept : List Kept) → ((b : Kept) → t b ≡ true → there_or_away slot to ≤ there_or_away slot b.place) → both slot (move_first t to kept) ≤ both slot kept
both_moved t to slot [] less = omega arith
both_moved t to slot (b ∷ bs) less =
    cond_both (t b) (record b { place = to } ∷ bs) (b ∷ move_first t to bs) (λ (l : List Kept). both slot l ≤ both slot (b ∷ bs))
    (λ is. omega (arith, less b is, both_counted slot b bs, both_counted slot (record b { place = to }) bs))
    (λ _. omega (arith, both_moved t to slot bs less, both_counted slot b bs, both_counted slot b (move_first t to bs)))

-- or to any place
pub both_once : (t : Kept → Bool) (to : BodyPlace) (slot : ℕ) (kept : List Kept) → there_or_away slot to ≤ 1 → both slot (move_first t to kept) ≤ both slot kept + 1
both_once t to slot [] few = omega arith
both_once t to slot (b ∷ bs) few =
    cond_both (t b) (record b { place = to } ∷ bs) (b ∷ move_first t to bs) (λ (l : List Kept). both slot l ≤ both slot (b ∷ bs) + 1)
    (λ _. omega (arith, few, both_counted slot b bs, both_counted slot (record b { place = to }) bs))
    (λ _. omega (arith, both_once t to slot bs few, both_counted slot b bs, both_counted slot b (move_first t to bs)))

pub both_without : (t : Kept → Bool) (slot : ℕ) (kept : List Kept) → both slot (without_first t kept) ≤ both slot kept
both_without t slot [] = omega arith
both_without t slot (b ∷ bs) =
    cond_both (t b) bs (b ∷ without_first t bs) (λ (l : List Kept). both slot l ≤ both slot (b ∷ bs))
    (λ _. omega (arith, both_counted slot b bs))
    (λ _. omega (arith, both_without t slot bs, both_counted slot b bs, both_counted slot b (without_first t bs)))

both_mapped : (slot : ℕ) (f : Kept → Kept) (kept : List Kept) → ((b : Kept) → there_or_away slot (f b).place ≤ there_or_away slot b.place) → both slot (map f kept) ≤ both slot kept
both_mapped slot f [] less = omega arith
both_mapped slot f (b ∷ bs) less = omega (arith, less b, both_mapped slot f bs less, both_counted slot b bs, both_counted slot (f b) (map f bs))

-- a child's body goes from its home, or comes home: it is one body before and after

away_counts : (k slot : ℕ) (at : BodyPlace) → is_home_of k at ≡ true → there_or_away slot (placed.Away k) ≤ there_or_away slot at
away_counts k slot (placed.Home j) h = let e = counted_if (j == slot) (k == slot) (ap (λ (n : ℕ). n == slot) (eqb-true j k h)) in omega (arith, e)
away_counts k slot placed.Waiting h = absurd (false≢true h)
away_counts k slot placed.Free h = absurd (false≢true h)
away_counts k slot (placed.Away j) h = absurd (false≢true h)

home_counts : (k slot : ℕ) (at : BodyPlace) → is_away_from k at ≡ true → there_or_away slot (placed.Home k) ≤ there_or_away slot at
home_counts k slot (placed.Home j) h = absurd (false≢true h)
home_counts k slot placed.Waiting h = absurd (false≢true h)
home_counts k slot placed.Free h = absurd (false≢true h)
home_counts k slot (placed.Away j) h = let e = counted_if (j == slot) (k == slot) (ap (λ (n : ℕ). n == slot) (eqb-true j k h)) in omega (arith, e)

pub both_when_left : (k slot : ℕ) (kept : List Kept) → both slot (move_first (is_at_home k) (placed.Away k) kept) ≤ both slot kept
both_when_left k slot kept = both_moved (is_at_home k) (placed.Away k) slot kept (λ b home. away_counts k slot b.place home)

-- the list has none in the slot

pub none_home : (slot : ℕ) (kept : List Kept) → has_body slot kept ≡ false → count_home slot kept ≡ 0
none_home slot [] h = refl
none_home slot (b ∷ bs) h =
    let parts = or_false (is_at_home slot b) (has_body slot bs) h in
    omega (arith, counted_if (is_at_home slot b) false parts.0, sum_by-cons (λ (x : Kept). cond (is_at_home slot x) 1 0) b bs, none_home slot bs parts.1)

pub some_home : (slot : ℕ) (kept : List Kept) → has_body slot kept ≡ true → 0 < count_home slot kept
some_home slot [] h = absurd (false≢true h)
some_home slot (b ∷ bs) h =
    or_split (is_at_home slot b) (has_body slot bs) (0 < count_home slot (b ∷ bs)) h
    (λ here. omega (arith, counted_if (is_at_home slot b) true here, sum_by-cons (λ (x : Kept). cond (is_at_home slot x) 1 0) b bs))
    (λ rest. omega (arith, some_home slot bs rest, sum_by-cons (λ (x : Kept). cond (is_at_home slot x) 1 0) b bs))

pub isnt : (b : Bool) → (b ≡ true → ⊥) → b ≡ false
isnt false never = refl
isnt true never = absurd (never refl)

none_more : (n : ℕ) → (0 < n → ⊥) → n ≡ 0
none_more zero never = refl
none_more (suc n) never = absurd (never (omega arith))

-- what an event does to the count

without_line_few : (slot k : ℕ) (kept : List Kept) → list_any (is_away k) kept ≡ false → both slot kept ≤ 1 → both slot kept + there_or_away slot (place_without_line k kept) ≤ 1
without_line_few slot k kept none few =
    cond_both (has_body k kept) placed.Free (placed.Home k) (λ (p : BodyPlace). both slot kept + there_or_away slot p ≤ 1)
    (λ _. omega (arith, few))
    (λ bare. ⊎_elim
    (λ (is : (k == slot) ≡ true).
    let empty : both k kept ≡ 0 = omega (arith, none_home k kept bare, none_away k kept none) in
    let here : both slot kept ≡ 0 = subst (λ (n : ℕ). both n kept ≡ 0) (eqb-true k slot is) empty in
    omega (arith, here, at_most_one (k == slot)))
    (λ (no : (k == slot) ≡ false). omega (arith, few, counted_if (k == slot) false no))
    (cases_Bool (k == slot)))

pub came_few : (slot : ℕ) (home : Option ℕ) (kept : List Kept) → both slot kept ≤ 1 → both slot (came_for home kept) ≤ 1
came_few slot None kept few = omega (arith, few, both_put slot kept stray)
came_few slot (Some k) kept few =
    let b : Kept = record { origin = origin.Nobody; place = place_without_line k kept } in
    cond_both (list_any (is_away k) kept) (move_first (is_away k) (placed.Home k) kept) (kept ++ b ∷ []) (λ (l : List Kept). both slot l ≤ 1)
    (λ _. omega (arith, few, both_moved (is_away k) (placed.Home k) slot kept (λ x away. home_counts k slot x.place away)))
    (λ none. omega (arith, without_line_few slot k kept none few, both_put slot kept b))

among_counts : (slot : ℕ) (rows : List Row) (any : Bool) (at : BodyPlace) → there_or_away slot (place_among rows any at) ≤ there_or_away slot at
among_counts slot rows any (placed.Home k) = cond_both (list_any (has_slot k) rows) (placed.Home k) placed.Free (λ (p : BodyPlace). there_or_away slot p ≤ there_or_away slot (placed.Home k)) (λ _. omega arith) (λ _. omega arith)
among_counts slot rows any placed.Waiting = cond_both any placed.Waiting placed.Free (λ (p : BodyPlace). there_or_away slot p ≤ there_or_away slot placed.Waiting) (λ _. omega arith) (λ _. omega arith)
among_counts slot rows any placed.Free = omega arith
among_counts slot rows any (placed.Away k) = omega arith

pub both_settled : (slot : ℕ) (rows : List Row) (any : Bool) (kept : List Kept) → both slot (settled rows any kept) ≤ both slot kept
both_settled slot rows any kept = both_mapped slot (λ (b : Kept). record b { place = place_among rows any b.place }) kept (λ b. among_counts slot rows any b.place)

-- at an opening, where none is away, each child has at most the bodies that were handed in for its specification

spec_counts : (slot k : ℕ) (rows : List Row) → there_or_away slot (if list_any (has_slot k) rows then placed.Home k else placed.Free) ≤ cond (k == slot) 1 0
spec_counts slot k rows = cond_both (list_any (has_slot k) rows) (placed.Home k) placed.Free (λ (p : BodyPlace). there_or_away slot p ≤ cond (k == slot) 1 0) (λ _. omega arith) (λ _. omega arith)

opened_counts : (slot : ℕ) (rows : List Row) (any : Bool) (o : Origin) (at : BodyPlace) → ((j : ℕ) → is_away_from j at ≡ false) → there_or_away slot (opened_place rows o (place_among [] any at)) ≤ cond (is_spec slot o) 1 0
opened_counts slot rows any (origin.Spec k) (placed.Home j) none = spec_counts slot k rows
opened_counts slot rows true (origin.Spec k) placed.Waiting none = omega arith
opened_counts slot rows false (origin.Spec k) placed.Waiting none = spec_counts slot k rows
opened_counts slot rows any (origin.Spec k) placed.Free none = spec_counts slot k rows
opened_counts slot rows any o (placed.Away j) none = absurd (false≢true (sym (none j) ∙ eq-eqb j j refl))
opened_counts slot rows any (origin.Call c) (placed.Home j) none = omega arith
opened_counts slot rows true (origin.Call c) placed.Waiting none = omega arith
opened_counts slot rows false (origin.Call c) placed.Waiting none = omega arith
opened_counts slot rows any (origin.Call c) placed.Free none = omega arith
opened_counts slot rows any origin.Nobody (placed.Home j) none = omega arith
opened_counts slot rows true origin.Nobody placed.Waiting none = omega arith
opened_counts slot rows false origin.Nobody placed.Waiting none = omega arith
opened_counts slot rows any origin.Nobody placed.Free none = omega arith

pub both_opened : (slot : ℕ) (rows : List Row) (any : Bool) (kept : List Kept) → ((j : ℕ) → count_away j kept ≡ 0) → both slot (opened rows (settled [] any kept)) ≤ count_given slot kept
both_opened slot rows any [] none = omega arith
both_opened slot rows any (b ∷ bs) none =
    let there : Kept = record b { place = opened_place rows b.origin (place_among [] any b.place) } in
    omega (
      arith,
      opened_counts slot rows any b.origin b.place (λ j. (none_counted j b bs (none j)).0),
      both_opened slot rows any bs (λ j. (none_counted j b bs (none j)).1),
      both_counted slot there (opened rows (settled [] any bs)),
      sum_by-cons (λ (x : Kept). cond (is_from slot x) 1 0) b bs,
    )

-- a body at home is that of a child that there is

among_row : (slot : ℕ) (rows : List Row) (any : Bool) (at : BodyPlace) → is_home_of slot (place_among rows any at) ≡ true → list_any (has_slot slot) rows ≡ true
among_row slot rows any (placed.Home k) h = by (list_any (has_slot k) rows) refl
  where
    by : (b : Bool) → list_any (has_slot k) rows ≡ b → list_any (has_slot slot) rows ≡ true
    by false e = absurd (false≢true (ap (λ (b : Bool). is_home_of slot (if b then placed.Home k else placed.Free)) (sym e) ∙ h))
    by true e = ap (λ (n : ℕ). list_any (has_slot n) rows) (sym (eqb-true k slot (ap (λ (b : Bool). is_home_of slot (if b then placed.Home k else placed.Free)) (sym e) ∙ h))) ∙ e
among_row slot rows true placed.Waiting h = absurd (false≢true h)
among_row slot rows false placed.Waiting h = absurd (false≢true h)
among_row slot rows any placed.Free h = absurd (false≢true h)
among_row slot rows any (placed.Away k) h = absurd (false≢true h)

pub home_has_row : (slot : ℕ) (rows : List Row) (any : Bool) (kept : List Kept) → has_body slot (settled rows any kept) ≡ true → list_any (has_slot slot) rows ≡ true
home_has_row slot rows any [] h = absurd (false≢true h)
home_has_row slot rows any (b ∷ bs) h =
    or_split (is_home_of slot (place_among rows any b.place)) (has_body slot (settled rows any bs)) (list_any (has_slot slot) rows ≡ true) h
    (λ here. among_row slot rows any b.place here) (λ rest. home_has_row slot rows any bs rest)

-- a place that no row has is no home
none_among : (slot : ℕ) (any : Bool) (at : BodyPlace) → is_home_of slot (place_among [] any at) ≡ false
none_among slot any at = isnt (is_home_of slot (place_among [] any at)) (λ h. false≢true (among_row slot [] any at h))

-- at an opening as where all are settled
free_row : (slot k : ℕ) (rows : List Row) → is_home_of slot (if list_any (has_slot k) rows then placed.Home k else placed.Free) ≡ true → list_any (has_slot slot) rows ≡ true
free_row slot k rows h = among_row slot rows true (placed.Home k) h

opened_row : (slot : ℕ) (rows : List Row) (o : Origin) (at : BodyPlace) → is_home_of slot at ≡ false → is_home_of slot (opened_place rows o at) ≡ true → list_any (has_slot slot) rows ≡ true
opened_row slot rows (origin.Spec k) (placed.Home j) none h = absurd (false≢true (sym none ∙ h))
opened_row slot rows (origin.Spec k) placed.Waiting none h = absurd (false≢true h)
opened_row slot rows (origin.Spec k) placed.Free none h = free_row slot k rows h
opened_row slot rows (origin.Spec k) (placed.Away j) none h = absurd (false≢true h)
opened_row slot rows (origin.Call c) at none h = absurd (false≢true (sym none ∙ h))
opened_row slot rows origin.Nobody at none h = absurd (false≢true (sym none ∙ h))

pub opened_has_row : (slot : ℕ) (rows : List Row) (any : Bool) (kept : List Kept) → has_body slot (opened rows (settled [] any kept)) ≡ true → list_any (has_slot slot) rows ≡ true
opened_has_row slot rows any [] h = absurd (false≢true h)
opened_has_row slot rows any (b ∷ bs) h =
    or_split (is_home_of slot (opened_place rows b.origin (place_among [] any b.place))) (has_body slot (opened rows (settled [] any bs))) (list_any (has_slot slot) rows ≡ true) h
    (λ here. opened_row slot rows b.origin (place_among [] any b.place) (none_among slot any b.place) here) (λ rest. opened_has_row slot rows any bs rest)

-- what passes after the first that passes another test moved did so before, if what moved doesn't pass
pub any_unmoved : (t u : Kept → Bool) (to : BodyPlace) (kept : List Kept) → ((b : Kept) → u (record b { place = to }) ≡ false) → list_any u (move_first t to kept) ≡ true → list_any u kept ≡ true
any_unmoved t u to [] other h = h
any_unmoved t u to (b ∷ bs) other h = by (t b) refl (any_unmoved t u to bs other)
  where
    by : (x : Bool) → t b ≡ x → (list_any u (move_first t to bs) ≡ true → list_any u bs ≡ true) → list_any u (b ∷ bs) ≡ true
    by true e rest =
        let moved : list_any u (record b { place = to } ∷ bs) ≡ true = sym (ap (λ (x : Bool). list_any u (if x then record b { place = to } ∷ bs else b ∷ move_first t to bs)) e) ∙ h in
        or_right (u b) (list_any u bs) (sym (ap (λ (x : Bool). x || list_any u bs) (other b)) ∙ moved)
    by false e rest =
        let still : list_any u (b ∷ move_first t to bs) ≡ true = sym (ap (λ (x : Bool). list_any u (if x then record b { place = to } ∷ bs else b ∷ move_first t to bs)) e) ∙ h in
        or_split (u b) (list_any u (move_first t to bs)) (list_any u (b ∷ bs) ≡ true) still (λ here. or_left (u b) (list_any u bs) here) (λ more. or_right (u b) (list_any u bs) (rest more))

pub any_unleft : (t u : Kept → Bool) (kept : List Kept) → list_any u (without_first t kept) ≡ true → list_any u kept ≡ true
any_unleft t u [] h = h
any_unleft t u (b ∷ bs) h = by (t b) refl (any_unleft t u bs)
  where
    by : (x : Bool) → t b ≡ x → (list_any u (without_first t bs) ≡ true → list_any u bs ≡ true) → list_any u (b ∷ bs) ≡ true
    by true e rest = or_right (u b) (list_any u bs) (sym (ap (λ (x : Bool). list_any u (if x then bs else b ∷ without_first t bs)) e) ∙ h)
    by false e rest =
        let still : list_any u (b ∷ without_first t bs) ≡ true = sym (ap (λ (x : Bool). list_any u (if x then bs else b ∷ without_first t bs)) e) ∙ h in
        or_split (u b) (list_any u (without_first t bs)) (list_any u (b ∷ bs) ≡ true) still (λ here. or_left (u b) (list_any u bs) here) (λ more. or_right (u b) (list_any u bs) (rest more))

-- how many bodies of a specification there are

given_counted : (k : ℕ) (b : Kept) (bs : List Kept) → count_given k (b ∷ bs) ≡ cond (is_spec k b.origin) 1 0 + count_given k bs
given_counted k b bs = sum_by-cons (λ (x : Kept). cond (is_from k x) 1 0) b bs

pub count_put : (k : ℕ) (kept : List Kept) (b : Kept) → count_given k (kept ++ b ∷ []) ≡ count_given k kept + cond (is_spec k b.origin) 1 0
count_put k kept b = omega (arith, sum_by-append (λ (x : Kept). cond (is_from k x) 1 0) kept (b ∷ []), given_counted k b [])

pub count_moved : (k : ℕ) (t : Kept → Bool) (to : BodyPlace) (kept : List Kept) → count_given k (move_first t to kept) ≡ count_given k kept
count_moved k t to [] = refl
count_moved k t to (b ∷ bs) =
    cond_both (t b) (record b { place = to } ∷ bs) (b ∷ move_first t to bs) (λ (l : List Kept). count_given k l ≡ count_given k (b ∷ bs))
    (λ _. omega (arith, given_counted k b bs, given_counted k (record b { place = to }) bs))
    (λ _. omega (arith, count_moved k t to bs, given_counted k b bs, given_counted k b (move_first t to bs)))

pub count_settled : (k : ℕ) (rows : List Row) (any : Bool) (kept : List Kept) → count_given k (settled rows any kept) ≡ count_given k kept
count_settled k rows any [] = refl
count_settled k rows any (b ∷ bs) =
    omega (arith, count_settled k rows any bs, given_counted k b bs, given_counted k (record b { place = place_among rows any b.place }) (settled rows any bs))

pub count_opened : (k : ℕ) (rows : List Row) (kept : List Kept) → count_given k (opened rows kept) ≡ count_given k kept
count_opened k rows [] = refl
count_opened k rows (b ∷ bs) =
    omega (arith, count_opened k rows bs, given_counted k b bs, given_counted k (record b { place = opened_place rows b.origin b.place }) (opened rows bs))

pub count_without : (k : ℕ) (t : Kept → Bool) (kept : List Kept) → count_given k (without_first t kept) ≤ count_given k kept
count_without k t [] = omega arith
count_without k t (b ∷ bs) =
    cond_both (t b) bs (b ∷ without_first t bs) (λ (l : List Kept). count_given k l ≤ count_given k (b ∷ bs))
    (λ _. omega (arith, given_counted k b bs))
    (λ _. omega (arith, count_without k t bs, given_counted k b bs, given_counted k b (without_first t bs)))

pub came_given : (k : ℕ) (home : Option ℕ) (kept : List Kept) → count_given k (came_for home kept) ≡ count_given k kept
came_given k None kept = omega (arith, count_put k kept stray)
came_given k (Some slot) kept =
    let b : Kept = record { origin = origin.Nobody; place = place_without_line slot kept } in
    cond_both (list_any (is_away slot) kept) (move_first (is_away slot) (placed.Home slot) kept) (kept ++ b ∷ []) (λ (l : List Kept). count_given k l ≡ count_given k kept)
    (λ _. count_moved k (is_away slot) (placed.Home slot) kept) (λ _. omega (arith, count_put k kept b))

pub up_given : (k : ℕ) (is : Bool) (slot : Option ℕ) (kept : List Kept) → count_given k (taken_up is slot kept) ≡ count_given k kept
up_given k true slot kept = count_moved k is_waiting (home_or_free slot) kept
up_given k false slot kept = refl
