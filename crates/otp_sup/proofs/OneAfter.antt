-- An event leaves one body of each child, and of each specification as many as before.
use Rattle.std.specs.Prelude.{◌≡◌, ℕ, ◌+◌, ◌<◌, ◌≤◌, ◌==◌, ◌++◌, ◌||◌, Bool, true, false, List, [], ◌∷◌, Option, None, Some, refl, count_by}
use Prim.Native.Nat.{zero, suc}
use Rattle.std.specs.List.{list_any}
use Rattle.std.proofs.Common.{◌∙◌, ap, sym, subst, arith, cond, ⊎_elim}
use Rattle.std.proofs.lemmas.Bool.{false≢true, cases_Bool, cond_both, eqb-true}
use Rattle.std.proofs.lemmas.List.Sums.{sum_by-cons}
use Rattle.otp_table.specs.declared.row.Row.{Row}
use Rattle.otp_table.specs.Rows.{free_slot, has_slot}
use Rattle.otp_rules.specs.declared.event.Item.TheVariants as item
use Rattle.otp_rules.specs.declared.event.Kind.{Kind}
use Rattle.otp_rules.specs.declared.event.Kind.TheVariants as kind
use Rattle.otp_rules.specs.Homes.{is_start_call}
use Rattle.otp_rules.specs.State.{State}
use Rattle.otp_rules.proofs.Slots.{free_slot-free}
use Rattle.otp_bodies.specs.declared.bodies.Kept.{Kept}
use Rattle.otp_bodies.specs.declared.bodies.Origin.TheVariants as origin
use Rattle.otp_bodies.specs.Letters.{is_end_note}
use Rattle.otp_sup.specs.Moves.{bodies_after, home_of, is_taken_up, is_waited_for, received, slot_given}
use Rattle.otp_bodies.specs.Bodies.{came_for, count_away, count_given, has_body, home_or_free, is_waiting, move_first, place_of_call, settled, taken_up}
use Rattle.otp_bodies.specs.Events.{is_any_waiting}
use Rattle.otp_bodies.specs.declared.bodies.Origin.TheVariants as origin
use Rattle.otp_bodies.proofs.Once.{at_most_one, both, both_moved, both_once, both_opened, both_put, both_settled, came_few, came_given, count_opened, count_put, count_settled, counted_if, home_has_row, isnt, opened_has_row, there_or_away, up_given}

-- no row has the slot that a new child gets
rows_counted : (slot : ℕ) (rows : List Row) → list_any (has_slot slot) rows ≡ true → 0 < count_by (has_slot slot) rows
rows_counted slot [] h = absurd (false≢true h)
rows_counted slot (r ∷ rows) h = by (has_slot slot r) refl (rows_counted slot rows)
  where
    by : (b : Bool) → has_slot slot r ≡ b → (list_any (has_slot slot) rows ≡ true → 0 < count_by (has_slot slot) rows) → 0 < count_by (has_slot slot) (r ∷ rows)
    by true e rest = omega (arith, counted_if (has_slot slot r) true e, sum_by-cons (λ (x : Row). cond (has_slot slot x) 1 0) r rows)
    by false e rest = omega (arith, rest (sym (ap (λ (x : Bool). x || list_any (has_slot slot) rows) e) ∙ h), sum_by-cons (λ (x : Row). cond (has_slot slot x) 1 0) r rows)

pub free_has_none : (rows : List Row) → list_any (has_slot (free_slot rows)) rows ≡ false
free_has_none rows = isnt (list_any (has_slot (free_slot rows)) rows) (λ is. omega (arith, rows_counted (free_slot rows) rows is, free_slot-free rows))

-- a slot that no row has has no body: so it is of the list that is kept before an event
abbrev pub AreOfRows : List Row → List Kept → Type 0
AreOfRows rows kept = (slot : ℕ) → list_any (has_slot slot) rows ≡ false → both slot kept ≡ 0

-- a new child's slot had no body
given_few : (slot : ℕ) (before rows : List Row) (kept : List Kept) → AreOfRows before kept → both slot kept ≤ 1 → both slot kept + there_or_away slot (home_or_free (slot_given before rows)) ≤ 1
given_few slot before rows kept bare few =
    let k : ℕ = free_slot before in
    cond_both (list_any (has_slot k) rows) (Some k) None (λ (o : Option ℕ). both slot kept + there_or_away slot (home_or_free o) ≤ 1)
    (λ _. ⊎_elim
    (λ (is : (k == slot) ≡ true).
    let here : both slot kept ≡ 0 = subst (λ (n : ℕ). both n kept ≡ 0) (eqb-true k slot is) (bare k (free_has_none before)) in
    omega (arith, here, at_most_one (k == slot)))
    (λ (no : (k == slot) ≡ false). omega (arith, few, counted_if (k == slot) false no))
    (cases_Bool (k == slot)))
    (λ _. omega (arith, few))

call_few : (slot : ℕ) (waits : Bool) (before rows : List Row) (kept : List Kept) → AreOfRows before kept → both slot kept ≤ 1 → both slot kept + there_or_away slot (place_of_call waits (slot_given before rows)) ≤ 1
call_few slot true before rows kept bare few = omega (arith, few)
call_few slot false before rows kept bare few = given_few slot before rows kept bare few

up_few : (slot : ℕ) (is : Bool) (before rows : List Row) (kept : List Kept) → AreOfRows before kept → both slot kept ≤ 1 → both slot (taken_up is (slot_given before rows) kept) ≤ 1
up_few slot false before rows kept bare few = few
up_few slot true before rows kept bare few = by (there_or_away slot (home_or_free (slot_given before rows))) refl
  where
    by : (n : ℕ) → there_or_away slot (home_or_free (slot_given before rows)) ≡ n → both slot (move_first is_waiting (home_or_free (slot_given before rows)) kept) ≤ 1
    by zero e = omega (arith, few, both_moved is_waiting (home_or_free (slot_given before rows)) slot kept (λ b _. omega (arith, e)))
    by (suc n) e =
        let sum = given_few slot before rows kept bare few in
        omega (arith, sum, e, both_once is_waiting (home_or_free (slot_given before rows)) slot kept (omega (arith, sum)))

-- of no child there are two bodies after an event
pub one_after : (slot : ℕ) (s later : State) (k : Kind) (kept : List Kept) → AreOfRows s.rows kept → both slot kept ≤ 1 → ((own : ℕ) → k ≡ kind.Opened own → (j : ℕ) → count_away j kept ≡ 0) → count_given slot kept ≤ 1
    → both slot (bodies_after s later k kept) ≤ 1
one_after slot s later (kind.Opened own) kept bare few none given = omega (arith, given, both_opened slot later.rows (is_any_waiting later) kept (none own refl))
one_after slot s later (kind.Took (item.Note x)) kept bare few none given =
    let came : both slot (received s later.rows (item.Note x) kept) ≤ 1 =
    cond_both (is_end_note x) (came_for (home_of s x) kept) kept (λ (l : List Kept). both slot l ≤ 1) (λ _. came_few slot (home_of s x) kept few) (λ _. few) in
    omega (arith, came, both_settled slot later.rows (is_any_waiting later) (received s later.rows (item.Note x) kept))
one_after slot s later (kind.Took (item.Call c x)) kept bare few none given =
    let b : Kept = record { origin = origin.Call c; place = place_of_call (is_waited_for s) (slot_given s.rows later.rows) } in
    let came : both slot (received s later.rows (item.Call c x) kept) ≤ 1 =
    cond_both (is_start_call x) (kept ++ b ∷ []) kept (λ (l : List Kept). both slot l ≤ 1)
    (λ _. omega (arith, call_few slot (is_waited_for s) s.rows later.rows kept bare few, both_put slot kept b)) (λ _. few) in
    omega (arith, came, both_settled slot later.rows (is_any_waiting later) (received s later.rows (item.Call c x) kept))
one_after slot s later kind.Resumed kept bare few none given =
    omega (arith, up_few slot (is_taken_up s) s.rows later.rows kept bare few, both_settled slot later.rows (is_any_waiting later) (taken_up (is_taken_up s) (slot_given s.rows later.rows) kept))
one_after slot s later kind.Ticked kept bare few none given = omega (arith, few, both_settled slot later.rows (is_any_waiting later) kept)
one_after slot s later kind.Stopped kept bare few none given = omega (arith, few, both_settled slot later.rows (is_any_waiting later) kept)

pub there_after : (slot : ℕ) (s later : State) (k : Kind) (kept : List Kept) → has_body slot (bodies_after s later k kept) ≡ true → list_any (has_slot slot) later.rows ≡ true
there_after slot s later (kind.Opened own) kept h = opened_has_row slot later.rows (is_any_waiting later) kept h
there_after slot s later (kind.Took x) kept h = home_has_row slot later.rows (is_any_waiting later) (received s later.rows x kept) h
there_after slot s later kind.Resumed kept h = home_has_row slot later.rows (is_any_waiting later) (taken_up (is_taken_up s) (slot_given s.rows later.rows) kept) h
there_after slot s later kind.Ticked kept h = home_has_row slot later.rows (is_any_waiting later) kept h
there_after slot s later kind.Stopped kept h = home_has_row slot later.rows (is_any_waiting later) kept h

-- no event hands one in
pub count_after : (n : ℕ) (s later : State) (k : Kind) (kept : List Kept) → count_given n (bodies_after s later k kept) ≡ count_given n kept
count_after n s later (kind.Opened own) kept = count_opened n later.rows (settled [] (is_any_waiting later) kept) ∙ count_settled n [] (is_any_waiting later) kept
count_after n s later (kind.Took (item.Note x)) kept =
    count_settled n later.rows (is_any_waiting later) (received s later.rows (item.Note x) kept)
    ∙ cond_both (is_end_note x) (came_for (home_of s x) kept) kept (λ (l : List Kept). count_given n l ≡ count_given n kept) (λ _. came_given n (home_of s x) kept) (λ _. refl)
count_after n s later (kind.Took (item.Call c x)) kept =
    let b : Kept = record { origin = origin.Call c; place = place_of_call (is_waited_for s) (slot_given s.rows later.rows) } in
    count_settled n later.rows (is_any_waiting later) (received s later.rows (item.Call c x) kept)
    ∙ cond_both (is_start_call x) (kept ++ b ∷ []) kept (λ (l : List Kept). count_given n l ≡ count_given n kept) (λ _. omega (arith, count_put n kept b)) (λ _. refl)
count_after n s later kind.Resumed kept =
    count_settled n later.rows (is_any_waiting later) (taken_up (is_taken_up s) (slot_given s.rows later.rows) kept) ∙ up_given n (is_taken_up s) (slot_given s.rows later.rows) kept
count_after n s later kind.Ticked kept = count_settled n later.rows (is_any_waiting later) kept
count_after n s later kind.Stopped kept = count_settled n later.rows (is_any_waiting later) kept
