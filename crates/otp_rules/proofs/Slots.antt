-- No two rows have one slot, and each lies below MAX_CHILDREN.
use Rattle.std.specs.Prelude.{Contains, ◌&&◌, not, ◌≡◌, ◌⊎◌, ℕ, ◌==◌, ◌+◌, ◌≤◌, ◌<◌, ◌++◌, ◌||◌, Bool, true, false, List, [], ◌∷◌, Option, None, Some, All, refl, if◌then◌else◌, position, slice_get, slice_set, slice_range, nat_lt, nat_le, length, remove, unwrap_or, map, take, drop, count_by}
use Rattle.std.specs.List.{list_any}
use Rattle.std.proofs.Common.{◌∙◌, ap, sym, subst, inl, inr, arith, ⊎_elim, cond, get_or, rules}
use Rattle.std.proofs.lemmas.Bool.{false≢true, cases_Bool, eqb-true, eq-eqb, leb-false, cond_both, lt-ltb, ltb-true, ltb-false}
use Rattle.std.proofs.lemmas.List.Sums.{sum_by-cons, sum_by-append, sum_by-take-drop}
use Rattle.std.proofs.lemmas.List.Folds.{drop_split}
use Rattle.std.proofs.lemmas.List.Elements.{All-head, All-tail}
use Prim.Native.Nat.{zero, suc}
use Rattle.otp_spec.specs.declared.child.ChildSpec.{ChildSpec}
use Rattle.otp_spec.specs.declared.limits.TheConstants.{MAX_CHILDREN}
use Rattle.otp_table.specs.declared.row.Row.{Row}
use Rattle.otp_table.specs.declared.row.RowState.{RowState}
use Rattle.otp_table.specs.declared.row.RowState.TheVariants.{Undefined, Starting, Up, Asked, Killed, Restarting}
use Rattle.otp_table.specs.Rows.{free_from, free_slot, has_process, has_slot, row_has, with_state, calm_rows, calmed}
use Rattle.otp_rules.specs.declared.call.Reply.{Reply}
use Rattle.otp_rules.specs.declared.ending.Ending.{Ending}
use Rattle.otp_rules.specs.declared.ending.Ending.TheVariants as ending
use Rattle.otp_rules.specs.declared.event.Event.{Event}
use Rattle.otp_rules.specs.declared.event.Item.{Item}
use Rattle.otp_rules.specs.declared.event.Kind.{Kind}
use Rattle.otp_rules.specs.declared.work.Sequel.TheVariants as sequel
use Rattle.otp_spec.specs.Flags.{is_simple}
use Rattle.otp_rules.specs.State.{Outcome, State, answer, with_rows, with_waiting, with_work}
use Rattle.otp_rules.specs.Places.{end_row, end_process, set_row, is_removed}
use Rattle.otp_rules.specs.Restarts.{running}
use Rattle.otp_rules.specs.Stops.{calm_all, is_exit, without, told, tell_row, tell, use_exit, stop_each, terminate}
use Rattle.otp_rules.specs.Starts.{is_due, start_row, start}
use Rattle.otp_rules.specs.Ends.{refuse_all, end_all}
use Rattle.otp_rules.specs.Deaths.{restart_rows, restart}
use Rattle.otp_rules.specs.Calls.{new_row}
use Rattle.otp_rules.specs.Step.{tick, decide, stamped, step, step_on, killed, late_number}
use Rattle.otp_rules.specs.Run.{empty_state, state_after}
use Rattle.otp_spec.specs.Supervisor.{supervisor_fault}
use Rattle.otp_spec.specs.declared.fault.SpecFault.{SpecFault}
use Rattle.otp_spec.specs.declared.fault.SpecFault.TheVariants.{BadFlag, SimpleNeedsOne, TooManyChildren}
use Rattle.otp_spec.specs.declared.flags.SupFlags.{SupFlags}
use Rattle.otp_spec.specs.Flags.{are_lawful_flags}
use Rattle.otp_spec.specs.Lawful.{first_fault}
use Rattle.otp_rules.specs.Slots.{SlotsOwned, SlotsStayOwned, SlotsTellProcesses}
use Rattle.otp_rules.specs.Step.{rows_from, open_with, open_rows, opening_specs}
use Rattle.otp_rules.proofs.GoesOn.{GoesOn, advance-on}
use Rattle.otp_rules.proofs.Bits.{at_most_1}
use Rattle.otp_rules.proofs.States.{one_process}
use Rattle.otp_rules.proofs.Walks.{stop_each-by, terminate-by, with_stops, counted_restart}
use Rattle.otp_rules.proofs.Keeps.{step_keeps_plan_law}
use Rattle.otp_rules.proofs.Numbers.{restart-within}
use Rattle.otp_rules.proofs.Counting.{set_count, remove_count}
use Rattle.otp_rules.proofs.Decisions.{StandsAt, SurvivesEvent, at_row-survives, at_number-survives, by_test, decide-survives_event}

-- how many rows have the slot
abbrev pub holding : ℕ → List Row → ℕ
holding k rows = count_by (has_slot k) rows

holding-cons : (k : ℕ) (row : Row) (rows : List Row) → holding k (row ∷ rows) ≡ cond (row.slot == k) 1 0 + holding k rows
holding-cons k row rows = sum_by-cons (λ (r : Row). cond (has_slot k r) 1 0) row rows

holding-append : (k : ℕ) (xs ys : List Row) → holding k (xs ++ ys) ≡ holding k xs + holding k ys
holding-append k xs ys = sum_by-append (λ (r : Row). cond (has_slot k r) 1 0) xs ys

below-cons : (m : ℕ) (row : Row) (rows : List Row) → count_by (λ (r : Row). nat_lt r.slot m) (row ∷ rows) ≡ cond (nat_lt row.slot m) 1 0 + count_by (λ (r : Row). nat_lt r.slot m) rows
below-cons m row rows = sum_by-cons (λ (r : Row). cond (nat_lt r.slot m) 1 0) row rows

parts : (a b c : Bool) → (a ≡ true → c ≡ true) → (b ≡ true → c ≡ true) → (a ≡ true → b ≡ false) → cond a 1 0 + cond b 1 0 ≤ cond c 1 0
parts true true c f g h = absurd (false≢true (sym (h refl)))
parts true false c f g h = let e : ◌≡◌ {A = ℕ} (cond c 1 0) 1 = ap (λ (x : Bool). cond x 1 0) (f refl) in omega (arith, e)
parts false true c f g h = let e : ◌≡◌ {A = ℕ} (cond c 1 0) 1 = ap (λ (x : Bool). cond x 1 0) (g refl) in omega (arith, e)
parts false false c f g h = omega arith

one_more : (x m : ℕ) → cond (nat_lt x m) 1 0 + cond (x == m) 1 0 ≤ cond (nat_lt x (suc m)) 1 0
one_more x m =
    parts (nat_lt x m) (x == m) (nat_lt x (suc m))
    (λ less. lt-ltb x (suc m) (omega (arith, ltb-true x m less)))
    (λ same. lt-ltb x (suc m) (let z : x ≡ m = eqb-true x m same in omega (arith, z)))
    (λ less. ⊎_elim (λ same. absurd (let z : x ≡ m = eqb-true x m same in omega (arith, z, ltb-true x m less))) (λ other. other) (cases_Bool (x == m)))

below-more : (m : ℕ) (rows : List Row) → count_by (λ (r : Row). nat_lt r.slot m) rows + holding m rows ≤ count_by (λ (r : Row). nat_lt r.slot (suc m)) rows
below-more m [] = omega arith
below-more m (row ∷ rows) = omega (arith, below-cons (suc m) row rows, below-cons m row rows, holding-cons m row rows, below-more m rows, one_more row.slot m)

below-length : (m : ℕ) (rows : List Row) → count_by (λ (r : Row). nat_lt r.slot m) rows ≤ length rows
below-length m [] = omega arith
below-length m (row ∷ rows) = omega (arith, below-cons m row rows, below-length m rows, at_most_1 (nat_lt row.slot m))

-- so many slots are taken, so many rows are there
taken : (m : ℕ) (rows : List Row) → ((j : ℕ) → j < m → 1 ≤ holding j rows) → m ≤ count_by (λ (r : Row). nat_lt r.slot m) rows
taken zero rows h = omega arith
taken (suc m) rows h = omega (arith, taken m rows (λ j less. h j (omega (arith, less))), below-more m rows, h m (omega arith))

some_at : (k : ℕ) (row : Row) (rows : List Row) (b : Bool) → (row.slot == k) ≡ b → (list_any (has_slot k) rows ≡ true → 1 ≤ holding k rows) → (b || list_any (has_slot k) rows) ≡ true → 1 ≤ holding k (row ∷ rows)
some_at k row rows true is rest e = let one : ◌≡◌ {A = ℕ} (cond (row.slot == k) 1 0) 1 = ap (λ (x : Bool). cond x 1 0) is in omega (arith, holding-cons k row rows, one)
some_at k row rows false is rest e = omega (arith, holding-cons k row rows, rest e)

some_holds : (k : ℕ) (rows : List Row) → list_any (has_slot k) rows ≡ true → 1 ≤ holding k rows
some_holds k [] h = absurd (false≢true h)
some_holds k (row ∷ rows) h = some_at k row rows (row.slot == k) refl (λ e. some_holds k rows e) h

none_at : (k : ℕ) (row : Row) (rows : List Row) (b : Bool) → (row.slot == k) ≡ b → (list_any (has_slot k) rows ≡ false → holding k rows ≡ 0) → (b || list_any (has_slot k) rows) ≡ false → holding k (row ∷ rows) ≡ 0
none_at k row rows true is rest e = absurd (false≢true (sym e))
none_at k row rows false is rest e =
    let zero_here : ◌≡◌ {A = ℕ} (cond (row.slot == k) 1 0) 0 = ap (λ (x : Bool). cond x 1 0) is in
    let none : holding k rows ≡ 0 = rest e in omega (arith, holding-cons k row rows, zero_here, none)

none_holds : (k : ℕ) (rows : List Row) → list_any (has_slot k) rows ≡ false → holding k rows ≡ 0
none_holds k [] h = refl
none_holds k (row ∷ rows) h = none_at k row rows (row.slot == k) refl (λ e. none_holds k rows e) h

or_same : (j slot : ℕ) → j < slot + 1 → (j < slot) ⊎ (j ≡ slot)
or_same j slot less =
    ⊎_elim (λ yes. inl (ltb-true j slot yes)) (λ no. inr (let ge = ltb-false j slot no in omega (arith, ge, less))) (cases_Bool (nat_lt j slot))

-- the slot that the search finds is free
free_from-free : (more slot : ℕ) (rows : List Row) → slot + more ≡ length rows → ((j : ℕ) → j < slot → 1 ≤ holding j rows) → holding (free_from more slot rows) rows ≡ 0
unfolding free_from
free_from-free zero slot rows all before =
    let none : holding slot rows ≡ 0 =
    omega (arith, all, taken slot rows before, below-more slot rows, below-length (suc slot) rows) in none
free_from-free (suc more) slot rows all before =
    cond_both (list_any (has_slot slot) rows) (free_from more (slot + 1) rows) slot (λ (k : ℕ). holding k rows ≡ 0)
    (λ some. free_from-free more (slot + 1) rows (omega (arith, all))
    (λ j less. ⊎_elim (λ h. before j h) (λ (z : j ≡ slot). subst (λ (n : ℕ). 1 ≤ holding n rows) (sym z) (some_holds slot rows some)) (or_same j slot less)))
    (λ none. none_holds slot rows none)

pub free_slot-free : (rows : List Row) → holding (free_slot rows) rows ≡ 0
unfolding free_slot
free_slot-free rows = free_from-free (length rows) 0 rows (omega arith) (λ j less. absurd (omega (arith, less)))

free_from-within : (more slot : ℕ) (rows : List Row) → free_from more slot rows ≤ slot + more
unfolding free_from
free_from-within zero slot rows = omega arith
free_from-within (suc more) slot rows =
    cond_both (list_any (has_slot slot) rows) (free_from more (slot + 1) rows) slot (λ (k : ℕ). k ≤ slot + suc more)
    (λ _. omega (arith, free_from-within more (slot + 1) rows)) (λ _. omega arith)

pub free_slot-within : (rows : List Row) → free_slot rows ≤ length rows
unfolding free_slot
free_slot-within rows = omega (arith, free_from-within (length rows) 0 rows)

-- each slot has one row at most, and none from MAX_CHILDREN on has one
abbrev pub Slotted : List Row → Type 0
Slotted rows = ((k : ℕ) → holding k rows ≤ 1) × ((k : ℕ) → MAX_CHILDREN ≤ k → holding k rows ≡ 0)

abbrev pub AllSlotted : Outcome → Type 0
AllSlotted o = Slotted o.state.rows

fewer : (xs ys : List Row) → ((k : ℕ) → holding k ys ≤ holding k xs) → Slotted xs → Slotted ys
fewer xs ys less h = (λ k. omega (arith, less k, h.0 k), λ k high. omega (arith, less k, h.1 k high))

set-slots : (place : ℕ) (row : Row) (state : RowState) (rows : List Row) → slice_get rows place ≡ Some row → (k : ℕ) → holding k (slice_set rows place (with_state state row)) ≤ holding k rows
set-slots place row state rows at k =
    let e : holding k (slice_set rows place (with_state state row)) + cond (row.slot == k) 1 0 ≡ holding k rows + cond (row.slot == k) 1 0 = set_count (has_slot k) rows place row (with_state state row) at in
    omega (arith, e)

remove-slots : (place : ℕ) (row : Row) (rows : List Row) → slice_get rows place ≡ Some row → (k : ℕ) → holding k (remove rows place) ≤ holding k rows
remove-slots place row rows at k =
    let e : holding k (remove rows place) + cond (row.slot == k) 1 0 ≡ holding k rows = remove_count (has_slot k) rows place row at in omega (arith, e)

set-slotted : (place : ℕ) (row : Row) (state : RowState) (rows : List Row) → slice_get rows place ≡ Some row → Slotted rows → Slotted (slice_set rows place (with_state state row))
set-slotted place row state rows at h = fewer rows (slice_set rows place (with_state state row)) (set-slots place row state rows at) h

remove-slotted : (place : ℕ) (row : Row) (rows : List Row) → slice_get rows place ≡ Some row → Slotted rows → Slotted (remove rows place)
remove-slotted place row rows at h = fewer rows (remove rows place) (remove-slots place row rows at) h

map-slots : (f : Row → Row) → ((row : Row) → (f row).slot ≡ row.slot) → (rows : List Row) (k : ℕ) → holding k (map f rows) ≡ holding k rows
map-slots f same [] k = refl
map-slots f same (row ∷ rows) k =
    let e : ◌≡◌ {A = ℕ} (cond ((f row).slot == k) 1 0) (cond (row.slot == k) 1 0) = ap (λ (x : ℕ). cond {A = ℕ} (x == k) 1 0) (same row) in
    omega (arith, holding-cons k row rows, holding-cons k (f row) (map f rows), map-slots f same rows k, e)

end-slots : (place : ℕ) (row : Row) (o : Outcome) → StandsAt place row o → AllSlotted o → AllSlotted (end_row place row o)
unfolding end_row
end-slots place row o at h =
    by_test AllSlotted (is_removed row) (with_rows (remove o.state.rows place) o) (set_row place row Undefined o)
    (λ _. fewer o.state.rows (remove o.state.rows place) (remove-slots place row o.state.rows at) h)
    (λ _. fewer o.state.rows (slice_set o.state.rows place (with_state Undefined row)) (set-slots place row Undefined o.state.rows at) h)

tell-slots : (p : ℕ) (o : Outcome) → AllSlotted o → AllSlotted (tell p o)
unfolding tell tell_row
tell-slots p o h =
    at_number-survives AllSlotted p (tell_row p) o h
    (λ i row at has. set-slotted i row (told o.state.last p row.spec.shutdown) o.state.rows at h)

use_exit-slots : (p : ℕ) (place : Option ℕ) (o : Outcome) → AllSlotted o → AllSlotted (use_exit p place o)
unfolding use_exit end_process
use_exit-slots p place o h =
    at_number-survives AllSlotted p end_row (with_waiting (without o.state.waiting place) o) h (λ i row at has. end-slots i row (with_waiting (without o.state.waiting place) o) at h)

stop_each-slots : (ps : List ℕ) (o : Outcome) → AllSlotted o → AllSlotted (stop_each ps o)
stop_each-slots = stop_each-by AllSlotted (λ p o _ h. use_exit-slots p (position (is_exit p) o.state.waiting) o h) (λ p o _ h. tell-slots p o h)

calm-slots : (rows : List Row) (k : ℕ) → holding k (calm_rows rows) ≡ holding k rows
calm-slots rows k = map-slots (λ (row : Row). with_state (calmed row.state) row) (λ row. refl) rows k

calmed-slots : (rows : List Row) → Slotted rows → Slotted (calm_rows rows)
calmed-slots rows h = fewer rows (calm_rows rows) (λ k. omega (arith, calm-slots rows k)) h

terminate-slots : (e : Ending) (o : Outcome) → AllSlotted o → AllSlotted (terminate e o)
terminate-slots e o h =
    terminate-by AllSlotted e o
    (λ _. stop_each-slots (running o.state.rows) (calm_all (with_work [] [] (Some (sequel.End e)) o)) (calmed-slots o.state.rows h))
    (λ _. calmed-slots o.state.rows h)

restart_rows-slots : (from to place k : ℕ) (o : Outcome) → from ≤ to → AllSlotted o → AllSlotted (restart_rows from to place k o)
unfolding restart_rows
restart_rows-slots from to place n o le h =
    let rows : List Row = o.state.rows in
    let part : List Row = slice_range rows from to in
    fewer rows (take from rows ++ calm_rows part ++ drop to rows)
    (λ k.
    let split : holding k (drop from rows) ≡ holding k part + holding k (drop to rows) = ap (λ (xs : List Row). holding k xs) (drop_split rows from to le) ∙ holding-append k part (drop to rows) in
    let all : holding k (take from rows) + holding k (drop from rows) ≡ holding k rows = sum_by-take-drop (λ (r : Row). cond (has_slot k r) 1 0) rows from in
    omega (arith, holding-append k (take from rows ++ calm_rows part) (drop to rows), holding-append k (take from rows) (calm_rows part), calm-slots part k, split, all)) h

restart-slots : (p place : ℕ) (row : Row) (o : Outcome) → StandsAt place row o → AllSlotted o → AllSlotted (restart p place row o)
restart-slots p place row o at h =
    let counted : Outcome = counted_restart place row o in
    let down : AllSlotted counted = fewer o.state.rows counted.state.rows (set-slots place row Undefined o.state.rows at) h in
    restart-within AllSlotted p place row o at (terminate-slots ending.Intensity counted down) (λ from to le. restart_rows-slots from to place p counted le down)

answer-slots : (c : ℕ) (r : Reply) (o : Outcome) → AllSlotted o → AllSlotted (answer c r o)
unfolding answer
answer-slots c r o h = h

killed-slot : (now : ℕ) (row : Row) (state : RowState) → (killed row (late_number now state)).slot ≡ row.slot
killed-slot now row Undefined = refl
killed-slot now row (Starting _ _) = refl
killed-slot now row (Up _) = refl
killed-slot now row (Asked p None) = refl
killed-slot now row (Asked p (Some d)) = cond_both (nat_le d now) (Some p) None (λ (x : Option ℕ). (killed row x).slot ≡ row.slot) (λ _. refl) (λ _. refl)
killed-slot now row (Killed _) = refl
killed-slot now row (Restarting _) = refl

tick-slots : (o : Outcome) → AllSlotted o → AllSlotted (tick o)
unfolding tick
tick-slots o h =
    fewer o.state.rows (map (λ (row : Row). killed row (late_number o.state.last row.state)) o.state.rows)
    (λ k. omega (arith, map-slots (λ (row : Row). killed row (late_number o.state.last row.state)) (λ row. killed-slot o.state.last row row.state) o.state.rows k)) h

-- a new row takes a slot that no row has
added-slots : (rows : List Row) (new : Row) → nat_le MAX_CHILDREN (length rows) ≡ false → new.slot ≡ free_slot rows → Slotted rows → Slotted (rows ++ new ∷ [])
added-slots rows new few is h = (
  λ k. ⊎_elim
      (λ same. let z : new.slot ≡ k = eqb-true new.slot k same in
      let free : holding k rows ≡ 0 = subst (λ (n : ℕ). holding n rows ≡ 0) (sym is ∙ z) (free_slot-free rows) in
      omega (arith, all k, free, at_most_1 (new.slot == k)))
      (λ other. let none : ◌≡◌ {A = ℕ} (cond (new.slot == k) 1 0) 0 = ap (λ (b : Bool). cond b 1 0) other in omega (arith, all k, none, h.0 k))
      (cases_Bool (new.slot == k)),
  λ k high. ⊎_elim
      (λ same. absurd (let z : new.slot ≡ k = eqb-true new.slot k same in omega (arith, z, is, free_slot-within rows, within, high)))
      (λ other. let none : ◌≡◌ {A = ℕ} (cond (new.slot == k) 1 0) 0 = ap (λ (b : Bool). cond b 1 0) other in omega (arith, all k, none, h.1 k high))
      (cases_Bool (new.slot == k)),
)
  where
    all : (k : ℕ) → holding k (rows ++ new ∷ []) ≡ holding k rows + cond (new.slot == k) 1 0
    all k = omega (arith, holding-append k rows (new ∷ []), holding-cons k new [])

    within : length rows < MAX_CHILDREN
    within = leb-false MAX_CHILDREN (length rows) few

-- the rows of an opening
opened-holding : (slot : ℕ) (specs : List ChildSpec) (k : ℕ) → (k < slot → holding k (rows_from slot specs) ≡ 0) × (slot + length specs ≤ k → holding k (rows_from slot specs) ≡ 0) × (holding k (rows_from slot specs) ≤ 1)
opened-holding slot [] k = (λ _. refl, λ _. refl, omega arith)
opened-holding slot (spec ∷ specs) k =
    let rest = opened-holding (slot + 1) specs k in
    let new : Row = new_row slot (Some spec.id) spec in
    let all : holding k (rows_from slot (spec ∷ specs)) ≡ cond (slot == k) 1 0 + holding k (rows_from (slot + 1) specs) = holding-cons k new (rows_from (slot + 1) specs) in
    ⊎_elim
    (λ same. let z : slot ≡ k = eqb-true slot k same in
    let none : holding k (rows_from (slot + 1) specs) ≡ 0 = rest.0 (omega (arith, z)) in
    (λ less. absurd (omega (arith, less, z)), λ more. absurd (omega (arith, more, z)), omega (arith, all, none, at_most_1 (slot == k))))
    (λ other. let none : ◌≡◌ {A = ℕ} (cond (slot == k) 1 0) 0 = ap (λ (b : Bool). cond b 1 0) other in (
      λ less. let r : holding k (rows_from (slot + 1) specs) ≡ 0 = rest.0 (omega (arith, less)) in omega (arith, all, none, r),
      λ more. let r : holding k (rows_from (slot + 1) specs) ≡ 0 = rest.1 (omega (arith, more)) in omega (arith, all, none, r),
      omega (arith, all, none, rest.2),
    ))
    (cases_Bool (slot == k))

opening-length : (b : Bool) (specs : List ChildSpec) → length (opening_specs b specs) ≤ length specs
opening-length true specs = omega arith
opening-length false specs = omega arith

open-slots : (own : ℕ) (o : Outcome) → length o.state.specs ≤ MAX_CHILDREN → AllSlotted (open_rows own o)
unfolding open_rows open_with
open-slots own o few =
    let specs : List ChildSpec = opening_specs (is_simple o.state.flags.strategy) o.state.specs in
    (λ k. (opened-holding 0 specs k).2, λ k high. (opened-holding 0 specs k).1 (omega (arith, opening-length (is_simple o.state.flags.strategy) o.state.specs, few, high)))

slots-survive : (k : Kind) (G : Item → Type 0) (old : Outcome) → length old.state.specs ≤ MAX_CHILDREN → SurvivesEvent k G old AllSlotted
slots-survive k G old few =
    record {
      answered = λ c r o quiet h. answer-slots c r o h;
      taken = λ w ws resumed idle runs is h. h;
      call_waits = λ c call o u busy g h. h;
      exit_waits = λ p r place row o u at has got h. h;
      up = λ p place row q kept o u at is same noted h. set-slotted place row (Up p) o.state.rows at h;
      up_closed = λ p place row q kept c o u at is same follows noted h. set-slotted place row (Up p) o.state.rows at h;
      ignored = λ p place row q kept o u at is same noted h. end-slots place row o at h;
      opening_failed = λ place row q kept o u runs at is follows noted h.
          terminate-slots (ending.InitFailed row.spec.id) (set_row place row Undefined o) (set-slotted place row Undefined o.state.rows at h);
      restart_failed = λ place row q kept o u at is follows noted h. set-slotted place row (Restarting kept) o.state.rows at h;
      added_failed = λ place row q kept c o u at is follows noted h. remove-slotted place row o.state.rows at h;
      restarted_failed = λ place row q kept c o u at is follows noted h. set-slotted place row Undefined o.state.rows at h;
      stopped = λ p r place row o u at told noted h. end-slots place row o at h;
      died = λ p place row o u idle runs at is noted h. end-slots place row o at h;
      restarts = λ p place row o u idle runs at is h. restart-slots p place row o at h;
      ends = λ e o u other idle runs h. terminate-slots e o h;
      ticks = λ is h. tick-slots old h;
      opens = λ own is over h. open-slots own old few;
      adds = λ c id spec o u idle runs named room got h. added-slots o.state.rows (new_row (free_slot o.state.rows) id spec) room refl h;
      starts_again = λ c id place row o u idle runs at has is noted found h. h;
      removed = λ place row o u idle runs at down h. remove-slotted place row o.state.rows at h;
      given_up = λ place row o u idle runs at down h. set-slotted place row Undefined o.state.rows at h;
      stops_child = λ c p place row o u idle runs at up has got h. h;
    }

going-slots : (n : ℕ) → GoesOn n (λ _. AllSlotted) AllSlotted
unfolding start start_row answer end_all refuse_all
going-slots n =
    record {
      uses = λ p rest o _ h. use_exit-slots p (position (is_exit p) o.state.waiting) (with_stops rest o) h;
      tells = λ p rest o _ h. tell-slots p (with_stops rest o) h;
      starts = λ due dues o _ h.
          let left : Outcome = with_work o.state.to_stop dues o.state.follows o in
          at_row-survives AllSlotted (is_due due) left (start_row due n) left h h (λ i row at has. set-slotted i row (Starting n (unwrap_or due.kept n)) o.state.rows at h);
      closes = λ f o _ _ h. h;
      answers = λ c r f o _ _ h. h;
      ready = λ o _ h. h;
      ends = λ e o _ h. (λ k. omega arith, λ k high. refl);
    }

step-slots : (s : State) (e : Event) → length s.specs ≤ MAX_CHILDREN → Slotted s.rows → Slotted (step s e).state.rows
unfolding step step_on
step-slots s e few h =
    let start : Outcome = record { state = stamped e.reading s; orders = [] } in
    let n : ℕ = unwrap_or e.number 0 in
    let d : AllSlotted (decide e.kind start) = decide-survives_event e.kind (λ (i : Item). Unit {0}) start AllSlotted (slots-survive e.kind (λ (i : Item). Unit {0}) start few) (λ i b idle. tt) h in
    advance-on n (λ _. AllSlotted) AllSlotted (going-slots n) (decide e.kind start) (λ _. d) (λ _ _. d)

pub run-slots : (s : State) (es : List Event) → length s.specs ≤ MAX_CHILDREN → Slotted s.rows → Slotted (state_after s es).rows
run-slots s [] few h = h
run-slots s (e ∷ es) few h =
    run-slots (step s e).state es (subst (λ (l : List ChildSpec). length l ≤ MAX_CHILDREN) (sym (step_keeps_plan_law s e).1) few) (step-slots s e few h)

pub each-below : (rows : List Row) → ((k : ℕ) → MAX_CHILDREN ≤ k → holding k rows ≡ 0) → (i : ℕ) (d : Row) → i < length rows → (get_or rows i d).slot < MAX_CHILDREN
each-below [] h i d less = absurd (omega (arith, less))
each-below (row ∷ rows) h zero d less =
    ⊎_elim (λ yes. ltb-true row.slot MAX_CHILDREN yes)
    (λ no. absurd (let high = ltb-false row.slot MAX_CHILDREN no in
    let one : ◌≡◌ {A = ℕ} (cond (row.slot == row.slot) 1 0) 1 = ap (λ (b : Bool). cond b 1 0) (eq-eqb row.slot row.slot refl) in
    let none : holding row.slot (row ∷ rows) ≡ 0 = h row.slot (omega (arith, high)) in
    omega (arith, holding-cons row.slot row rows, one, none)))
    (cases_Bool (nat_lt row.slot MAX_CHILDREN))
each-below (row ∷ rows) h (suc i) d less =
    each-below rows (λ k high. let none : holding k (row ∷ rows) ≡ 0 = h k high in omega (arith, holding-cons k row rows, none)) i d (omega (arith, less))

below-none : (rows : List Row) → All (λ row. row.slot < MAX_CHILDREN) rows → (k : ℕ) → MAX_CHILDREN ≤ k → holding k rows ≡ 0
below-none [] h k high = refl
below-none (row ∷ rows) h k high =
    let none : ◌≡◌ {A = ℕ} (cond (row.slot == k) 1 0) 0 =
    ⊎_elim (λ same. absurd (let z : row.slot ≡ k = eqb-true row.slot k same in omega (arith, z, high, All-head (λ (r : Row). r.slot < MAX_CHILDREN) row rows h)))
    (λ other. ap (λ (b : Bool). cond b 1 0) other) (cases_Bool (row.slot == k)) in
    omega (arith, holding-cons k row rows, none, below-none rows (All-tail (λ (r : Row). r.slot < MAX_CHILDREN) row rows h) k high)

pub slots_stay_owned_law : SlotsStayOwned
slots_stay_owned_law s events few h =
    let end : Slotted (state_after s events).rows = run-slots s events few (h.one, below-none s.rows h.below) in
    record { one = end.0; below = λ i d less. each-below (state_after s events).rows end.1 i d less }

-- more than MAX_CHILDREN specifications are a fault
opened_few : (flags : SupFlags) (specs : List ChildSpec) → supervisor_fault flags specs ≡ None → length specs ≤ MAX_CHILDREN
unfolding supervisor_fault
opened_few flags specs =
    let P : Option SpecFault → Type 0 = λ fault. fault ≡ None → length specs ≤ MAX_CHILDREN in
    let last : Option SpecFault = if nat_lt MAX_CHILDREN (length specs) then Some TooManyChildren else first_fault specs (Some flags.auto_shutdown) in
    cond_both (not (are_lawful_flags flags)) (Some BadFlag) (if is_simple flags.strategy && not (length specs == 1) then Some SimpleNeedsOne else last) P
    (λ _ e. absurd (search (rules, e)))
    (λ _. cond_both (is_simple flags.strategy && not (length specs == 1)) (Some SimpleNeedsOne) last P
    (λ _ e. absurd (search (rules, e)))
    (λ _. cond_both (nat_lt MAX_CHILDREN (length specs)) (Some TooManyChildren) (first_fault specs (Some flags.auto_shutdown)) P
    (λ _ e. absurd (search (rules, e)))
    (λ few _. ltb-false MAX_CHILDREN (length specs) few)))

pub slots_owned_law : SlotsOwned
slots_owned_law flags specs events opens =
    slots_stay_owned_law (empty_state flags specs) events (opened_few flags specs opens) (record { one = λ k. omega arith; below = λ i d less. absurd (omega (arith, less)) })

-- where one row at most passes a test, two that do are one
passes : (test : Row → Bool) (rows : List Row) (a : Row) → Contains rows a → test a ≡ true → 1 ≤ count_by test rows
passes test [] a c h = absurd (omega (arith, c.1))
passes test (x ∷ xs) a (zero, within, is) h =
    let one : ◌≡◌ {A = ℕ} (cond (test x) 1 0) 1 = ap (λ (b : Bool). cond b 1 0) (ap (λ (r : Row). test r) is ∙ h) in
    omega (arith, one, sum_by-cons (λ (r : Row). cond (test r) 1 0) x xs)
passes test (x ∷ xs) a (suc k, within, is) h = omega (arith, passes test xs a (k, omega (arith, within), is) h, sum_by-cons (λ (r : Row). cond (test r) 1 0) x xs)

twice : (test : Row → Bool) (rows : List Row) (a b : Row) → count_by test (a ∷ rows) ≤ 1 → Contains rows b → test a ≡ true → test b ≡ true → ⊥
twice test rows a b one c h k =
    let first : ◌≡◌ {A = ℕ} (cond (test a) 1 0) 1 = ap (λ (x : Bool). cond x 1 0) h in
    omega (arith, one, first, passes test rows b c k, sum_by-cons (λ (r : Row). cond (test r) 1 0) a rows)

same_row : (test : Row → Bool) (rows : List Row) (a b : Row) → count_by test rows ≤ 1 → Contains rows a → Contains rows b → test a ≡ true → test b ≡ true → a ≡ b
same_row test [] a b one c d h k = absurd (omega (arith, c.1))
same_row test (x ∷ xs) a b one (zero, c, is) (zero, d, it) h k = sym is ∙ it
same_row test (x ∷ xs) a b one (zero, c, is) (suc j, d, it) h k = absurd (twice test xs x b one (j, omega (arith, d), it) (ap (λ (r : Row). test r) is ∙ h) k)
same_row test (x ∷ xs) a b one (suc i, c, is) (zero, d, it) h k = absurd (twice test xs x a one (i, omega (arith, c), is) (ap (λ (r : Row). test r) it ∙ k) h)
same_row test (x ∷ xs) a b one (suc i, c, is) (suc j, d, it) h k =
    same_row test xs a b (omega (arith, one, sum_by-cons (λ (r : Row). cond (test r) 1 0) x xs)) (i, omega (arith, c), is) (j, omega (arith, d), it) h k

pub slots_tell_processes_law : SlotsTellProcesses
slots_tell_processes_law s next slotted owned a b p q in_a in_b has_p has_q = (
  λ same.
      let row : a ≡ b = same_row (has_slot b.slot) s.rows a b (slotted.one b.slot) in_a in_b (eq-eqb a.slot b.slot same) (eq-eqb b.slot b.slot refl) in
      one_process q p b.state has_q (subst (λ (r : Row). has_process p r.state ≡ true) row has_p),
  λ same.
      let here : has_process q a.state ≡ true = subst (λ (n : ℕ). has_process n a.state ≡ true) same has_p in
      ap (λ (r : Row). r.slot) (same_row (row_has (has_process q)) s.rows a b (owned.0 q) in_a in_b here has_q),
)
