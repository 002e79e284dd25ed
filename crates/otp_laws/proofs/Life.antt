-- A child's process, from its start on: until the note of its end is taken its child has it, in one slot and under one id.
use Rattle.std.specs.Prelude.{◌≡◌, ◌⊎◌, ℕ, ◌==◌, ◌+◌, ◌≤◌, ◌<◌, ◌++◌, ◌&&◌, not, Bool, true, false, List, [], ◌∷◌, Some, Contains, refl, unwrap_or, count_by}
use Rattle.std.specs.List.{list_any}
use Rattle.std.proofs.Common.{◌∙◌, ap, sym, subst, inl, inr, arith, ⊎_elim, cond}
use Rattle.std.proofs.lemmas.Bool.{and_from, cases_Bool, eq-eqb, eqb-true, false≢true}
use Rattle.std.proofs.lemmas.List.{append_assoc}
use Rattle.std.proofs.lemmas.List.Elements.{filter_map-append}
use Rattle.std.proofs.lemmas.List.Sums.{sum_by-cons}
use Prim.Native.Nat.{suc}
use Rattle.otp_reason.specs.declared.name.Name.{Name}
use Rattle.otp_table.specs.declared.row.Row.{Row}
use Rattle.otp_table.specs.Rows.{free_slot, has_id, has_process, has_slot, row_has}
use Rattle.otp_rules.specs.declared.event.Event.{Event}
use Rattle.otp_rules.specs.State.{Outcome, State}
use Rattle.otp_rules.specs.Calls.{new_row}
use Rattle.otp_rules.specs.Step.{decide, stamped, step, step_on}
use Rattle.otp_rules.specs.Run.{empty_state, state_after}
use Rattle.otp_rules.specs.Needs.{numbers_of}
use Rattle.otp_rules.specs.Homes.{Brings, is_ended}
use Rattle.otp_rules.specs.Fit.{next_number, IsLawfulFrom}
use Rattle.otp_rules.specs.InOrder.{IsInOrder}
use Rattle.otp_rules.specs.Lives.{HasEnded, IsHeld, IsHeldIn, TakesEnd}
use Rattle.otp_rules.specs.Slots.{AreSlotted}
use Rattle.otp_rules.proofs.Decisions.{decide-survives_event}
use Rattle.otp_rules.proofs.Heard.{ends_are_heard_law}
use Rattle.otp_rules.proofs.Lasting.{contains_counts, empty_in_order, stays_from, stays_in_order}
use Rattle.otp_rules.proofs.Runs.{run_goes_on_law, runs_joined_law}
use Rattle.otp_rules.proofs.Slots.{free_slot-free, holding, slots_stay_owned_law, slots_tell_processes_law}
use Rattle.otp_rules.proofs.States.{one_process}
use Rattle.otp_laws.specs.Life.{EndIsTaken, EndsAfterAll, EndsAfterAllFrom, IdsStartAnew, IdsStartAnewFrom, IsHeldAs, RowsStartAnew, RowsStartAnewFrom, StartsIn, IsUnended}
use Rattle.otp_laws.proofs.Basis.{lawful_from_0, next_more, next_one, number_above, split_lawful}
use Rattle.otp_laws.proofs.Ids.{ids_stay_apart_law, still_id}
use Rattle.otp_laws.proofs.Specs.{few_specs, specs_apart}
use Rattle.otp_laws.proofs.Still.{Few, IsStill, advance-few, apart, few-survives, split}

-- a row in this slot that passes another test than this one
abbrev pub is_other : ℕ → (Row → Bool) → Row → Bool
is_other slot t row = has_slot slot row && not (t row)

-- the process is that of a child in the slot, which passes the test as do all in that slot; no end of it waits
abbrev pub Keeps : ℕ → ℕ → (Row → Bool) → State → Type 0
Keeps slot p t s = IsHeldIn s.rows slot p × (list_any (is_ended p) s.waiting ≡ false) × (count_by (is_other slot t) s.rows ≤ 0)

holds_slot : (slot p : ℕ) (rows : List Row) → IsHeldIn rows slot p → 0 < count_by (has_slot slot) rows
holds_slot slot p rows h = contains_counts (has_slot slot) rows h.0 h.1 (eq-eqb h.0.slot slot h.2)

and_false : (b : Bool) → (false && b) ≡ false
and_false true = refl
and_false false = refl

-- a child that is added comes into a slot that is free
kept-apart : (slot p : ℕ) (t : Row → Bool) → IsStill t → (m : ℕ) (s : State) (e : Event) → IsInOrder m s → IsHeldIn s.rows slot p → count_by (is_other slot t) s.rows ≤ 0 → count_by (is_other slot t) (step s e).state.rows ≤ 0
unfolding step step_on
kept-apart slot p t still m s e order held none =
    let start : Outcome = record { state = stamped e.reading s; orders = [] } in
    let u : Row → Bool = is_other slot t in
    let still_other : IsStill u = λ state row. ap (λ (b : Bool). has_slot slot row && not b) (still state row) in
    advance-few u still_other 0 (unwrap_or e.number 0) (decide e.kind start)
    (decide-survives_event e.kind (Brings e.kind s.waiting) start (Few u 0)
    (few-survives u still_other 0 e.kind (Brings e.kind s.waiting) start
    (λ n id spec o unmoved got noted few.
    let new : Row = new_row (free_slot o.state.rows) id spec in
    let same : o.state.rows ≡ s.rows = ap (λ (x : Outcome). x.state.rows) unmoved in
    let free : holding (free_slot o.state.rows) o.state.rows ≡ 0 = free_slot-free o.state.rows in
    let some : 0 < count_by (has_slot slot) o.state.rows = subst (λ (rows : List Row). 0 < count_by (has_slot slot) rows) (sym same) (holds_slot slot p s.rows held) in
    let other : (free_slot o.state.rows == slot) ≡ false =
    ⊎_elim (λ (holds_so : (free_slot o.state.rows == slot) ≡ true). absurd (let z : holding slot o.state.rows ≡ 0 = subst (λ (k : ℕ). holding k o.state.rows ≡ 0) (eqb-true (free_slot o.state.rows) slot holds_so) free in omega (arith, z, some)))
    (λ (isnt : (free_slot o.state.rows == slot) ≡ false). isnt) (cases_Bool (free_slot o.state.rows == slot)) in
    let zero : ◌≡◌ {A = ℕ} (cond (u new) 1 0) 0 = ap (λ (b : Bool). cond {A = ℕ} (b && not (t new)) 1 0) other ∙ ap (λ (b : Bool). cond b 1 0) (and_false (not (t new))) in
    omega (arith, few, zero))
    (λ own is over. absurd (let c : Contains [] held.0 = subst (λ (rows : List Row). Contains rows held.0) (order.3 over) held.1 in omega (arith, c.1)))) (λ i b idle. b) none)

-- an event takes the note of its end, or keeps it
step-keeps : (slot p : ℕ) (t : Row → Bool) → IsStill t → (m : ℕ) (s : State) (e : Event) → IsInOrder m s → Keeps slot p t s → TakesEnd e.kind p ⊎ Keeps slot p t (step s e).state
step-keeps slot p t still m s e order h =
    let row : Row = h.0.0 in
    ⊎_elim
    (λ (ended : HasEnded s e.kind p). ⊎_elim (λ (waits : list_any (is_ended p) s.waiting ≡ true). absurd (false≢true (sym h.1 ∙ waits))) (λ (takes : TakesEnd e.kind p). inl takes) ended)
    (λ (held : IsHeldIn (step s e).state.rows row.slot p).
    ⊎_elim
    (λ (waits : list_any (is_ended p) (step s e).state.waiting ≡ true).
    ⊎_elim (λ (waited : list_any (is_ended p) s.waiting ≡ true). absurd (false≢true (sym h.1 ∙ waited))) (λ (takes : TakesEnd e.kind p × IsHeld s.rows p). inl takes.0) (ends_are_heard_law s e p waits))
    (λ (none : list_any (is_ended p) (step s e).state.waiting ≡ false).
    inr (subst (λ (k : ℕ). IsHeldIn (step s e).state.rows k p) h.0.2 held, none, kept-apart slot p t still m s e order h.0 h.2))
    (cases_Bool (list_any (is_ended p) (step s e).state.waiting)))
    (stays_from m s e order row p h.0.1 h.0.3)

later-taken : (e : Event) (events : List Event) (p : ℕ) → EndIsTaken events p → EndIsTaken (e ∷ events) p
later-taken e events p h = (h.0, (suc h.1.0, omega (arith, h.1.1), h.1.2), h.2)

-- and so does a lawful history
run-keeps : (slot p : ℕ) (t : Row → Bool) → IsStill t → (m : ℕ) (s : State) (events : List Event) → IsInOrder m s → IsLawfulFrom m s events → Keeps slot p t s → EndIsTaken events p ⊎ Keeps slot p t (state_after s events)
run-keeps slot p t still m s [] order lawful h = inr h
run-keeps slot p t still m s (e ∷ events) order lawful h =
    let parts = split_lawful m s (e ∷ []) events lawful in
    let mid : IsInOrder (next_number m (numbers_of (e ∷ []))) (step s e).state = stays_in_order m s (e ∷ []) order parts.0 in
    ⊎_elim
    (λ (takes : TakesEnd e.kind p). inl (e, (0, omega arith, refl), takes))
    (λ (kept : Keeps slot p t (step s e).state).
    ⊎_elim (λ (taken : EndIsTaken events p). inl (later-taken e events p taken)) (λ (last : Keeps slot p t (state_after s (e ∷ events))). inr last)
    (run-keeps slot p t still (next_number m (numbers_of (e ∷ []))) (step s e).state events mid parts.1 kept))
    (step-keeps slot p t still m s e order h)

-- no end waits of a process that an event starts: its number is new
fresh : (k : ℕ) (a : State) (e : Event) (p : ℕ) → IsInOrder k a → k ≤ p → (list_any (is_ended p) a.waiting ≡ true → ⊥) → list_any (is_ended p) (step a e).state.waiting ≡ false
fresh k a e p order above unwaited =
    ⊎_elim
    (λ (waits : list_any (is_ended p) (step a e).state.waiting ≡ true).
    absurd (⊎_elim unwaited
    (λ (takes : TakesEnd e.kind p × IsHeld a.rows p).
    let held : IsHeld a.rows p = takes.1 in
    omega (arith, order.1.1 p above, contains_counts (row_has (has_process p)) a.rows held.0 held.1 held.2))
    (ends_are_heard_law a e p waits)))
    (λ (none : list_any (is_ended p) (step a e).state.waiting ≡ false). none)
    (cases_Bool (list_any (is_ended p) (step a e).state.waiting))

-- along a lawful history no end waits of a process whose number is still to come
run-unended : (m : ℕ) (s : State) (events : List Event) → IsInOrder m s → IsUnended m s → IsLawfulFrom m s events → IsUnended (next_number m (numbers_of events)) (state_after s events)
run-unended m s [] order unended lawful = unended
run-unended m s (e ∷ events) order unended lawful =
    let parts = split_lawful m s (e ∷ []) events lawful in
    let k : ℕ = next_number m (numbers_of (e ∷ [])) in
    let low : m ≤ k = next_more m (numbers_of (e ∷ [])) (parts.0.0.1, parts.0.1) in
    let joined : numbers_of (e ∷ events) ≡ numbers_of (e ∷ []) ++ numbers_of events = filter_map-append (λ (x : Event). x.number) (e ∷ []) events in
    let one : next_number m (numbers_of (e ∷ events)) ≡ next_number k (numbers_of events) = ap (λ (ns : List ℕ). next_number m ns) joined ∙ next_joined m (numbers_of (e ∷ [])) (numbers_of events) in
    subst (λ (n : ℕ). IsUnended n (state_after (step s e).state events)) (sym one)
    (run-unended k (step s e).state events (stays_in_order m s (e ∷ []) order parts.0)
    (λ p above. fresh m s e p order (omega (arith, low, above)) (λ waited. false≢true (sym (unended p (omega (arith, low, above))) ∙ waited))) parts.1)
  where
    next_joined : (m : ℕ) (xs ys : List ℕ) → next_number m (xs ++ ys) ≡ next_number (next_number m xs) ys
    next_joined m [] ys = refl
    next_joined m (x ∷ xs) ys = next_joined (x + 1) xs ys

-- from a start on a lawful history takes the note of the end, or keeps the process
kept_from : (m : ℕ) (s : State) (events rest : List Event) (e : Event) (slot p : ℕ) (t : Row → Bool) → IsStill t → IsInOrder m s → IsUnended m s → IsLawfulFrom m s (events ++ e ∷ rest)
    → StartsIn (state_after s events) e slot p → count_by (is_other slot t) (step (state_after s events) e).state.rows ≤ 0
    → EndIsTaken rest p ⊎ Keeps slot p t (state_after s (events ++ e ∷ rest))
kept_from m s events rest e slot p t still order unended lawful starts none =
    let a : State = state_after s events in
    let k : ℕ = next_number m (numbers_of events) in
    let parts : IsLawfulFrom m s events × IsLawfulFrom k a (e ∷ rest) = split_lawful m s events (e ∷ rest) lawful in
    let now : IsInOrder k a = stays_in_order m s events order parts.0 in
    let above : k ≤ p = number_above k p a e rest starts.0 parts.1 in
    let mid : IsLawfulFrom k a (e ∷ []) × IsLawfulFrom (next_number k (numbers_of (e ∷ []))) (step a e).state rest = split_lawful k a (e ∷ []) rest parts.1 in
    let new : list_any (is_ended p) (step a e).state.waiting ≡ false = fresh k a e p now above (λ waited. false≢true (sym (run-unended m s events order unended parts.0 p above) ∙ waited)) in
    let joined : state_after s (events ++ e ∷ rest) ≡ state_after (step a e).state rest = (runs_joined_law s events (e ∷ rest)).0 in
    ⊎_elim (λ (taken : EndIsTaken rest p). inl taken) (λ (kept : Keeps slot p t (state_after (step a e).state rest)). inr (subst (λ (x : State). Keeps slot p t x) (sym joined) kept))
    (run-keeps slot p t still (next_number k (numbers_of (e ∷ []))) (step a e).state rest (stays_in_order k a (e ∷ []) now mid.0) mid.1 (starts.1, new, none))

pub in_two : (events between : List Event) (e f : Event) → events ++ e ∷ between ++ f ∷ [] ≡ events ++ e ∷ (between ++ f ∷ [])
in_two events between e f = append_assoc events (e ∷ between) (f ∷ [])

-- a later number is greater
numbers_rise : (m : ℕ) (s : State) (events between : List Event) (e f : Event) (p q : ℕ) → IsLawfulFrom m s (events ++ e ∷ between ++ f ∷ []) → e.number ≡ Some p → f.number ≡ Some q → p < q
numbers_rise m s events between e f p q lawful first second =
    let a : State = state_after s events in
    let k : ℕ = next_number m (numbers_of events) in
    let one : ℕ = next_number k (numbers_of (e ∷ [])) in
    let parts = split_lawful m s events (e ∷ (between ++ f ∷ [])) (subst (λ (l : List Event). IsLawfulFrom m s l) (in_two events between e f) lawful) in
    let mid : IsLawfulFrom k a (e ∷ []) × IsLawfulFrom one (step a e).state (between ++ f ∷ []) = split_lawful k a (e ∷ []) (between ++ f ∷ []) parts.1 in
    let last : IsLawfulFrom one (step a e).state between × IsLawfulFrom (next_number one (numbers_of between)) (state_after (step a e).state between) (f ∷ []) = split_lawful one (step a e).state between (f ∷ []) mid.1 in
    omega (arith, next_one k p e first, next_more one (numbers_of between) (last.0.0.1, last.0.1), number_above (next_number one (numbers_of between)) q (state_after (step a e).state between) f [] second last.1)

-- the history with its last event
last_state : (s : State) (events between : List Event) (e f : Event) → state_after s (events ++ e ∷ between ++ f ∷ []) ≡ (step (state_after s (events ++ e ∷ between)) f).state
last_state s events between e f = (run_goes_on_law s (events ++ e ∷ between) f).0

-- what is kept to the last event
kept_to : (m : ℕ) (s : State) (events between : List Event) (e f : Event) (slot p : ℕ) (t : Row → Bool) → IsStill t → IsInOrder m s → IsUnended m s → IsLawfulFrom m s (events ++ e ∷ between ++ f ∷ [])
    → StartsIn (state_after s events) e slot p → count_by (is_other slot t) (step (state_after s events) e).state.rows ≤ 0
    → EndIsTaken (between ++ f ∷ []) p ⊎ Keeps slot p t (state_after s (events ++ e ∷ between ++ f ∷ []))
kept_to m s events between e f slot p t still order unended lawful starts none =
    ⊎_elim (λ (taken : EndIsTaken (between ++ f ∷ []) p). inl taken)
    (λ (kept : Keeps slot p t (state_after s (events ++ e ∷ (between ++ f ∷ [])))). inr (subst (λ (l : List Event). Keeps slot p t (state_after s l)) (sym (in_two events between e f)) kept))
    (kept_from m s events (between ++ f ∷ []) e slot p t still order unended (subst (λ (l : List Event). IsLawfulFrom m s l) (in_two events between e f) lawful) starts none)

-- no row passes a test that none passes
none_pass : (u : Row → Bool) → ((row : Row) → u row ≡ false) → (rows : List Row) → count_by u rows ≤ 0
none_pass u none [] = omega arith
none_pass u none (row ∷ rows) =
    let zero : ◌≡◌ {A = ℕ} (cond (u row) 1 0) 0 = ap (λ (b : Bool). cond b 1 0) (none row) in
    omega (arith, zero, none_pass u none rows, sum_by-cons (λ (r : Row). cond (u r) 1 0) row rows)

-- rows that pass one of two tests pass the third
never : (b : Bool) → (b && not true) ≡ false
never true = refl
never false = refl

pub rows_start_anew_from_law : RowsStartAnewFrom
rows_start_anew_from_law m s events between e f slot p q order unended few slotted lawful first second =
    let all : List Event = events ++ e ∷ between ++ f ∷ [] in
    let w : State = state_after s all in
    let t : Row → Bool = λ row. true in
    let last : IsInOrder (next_number m (numbers_of all)) w = stays_in_order m s all order lawful in
    let later : IsHeldIn w.rows slot q = subst (λ (x : State). IsHeldIn x.rows slot q) (sym (last_state s events between e f)) second.1 in
    ⊎_elim (λ (taken : EndIsTaken (between ++ f ∷ []) p). taken)
    (λ (kept : Keeps slot p t w).
    let held : IsHeldIn w.rows slot p = kept.0 in
    let same : p ≡ q = (slots_tell_processes_law w (next_number m (numbers_of all)) (slots_stay_owned_law s all few slotted) last.1 held.0 later.0 p q held.1 later.1 held.3 later.3).0 (held.2 ∙ sym later.2) in
    absurd (omega (arith, same, numbers_rise m s events between e f p q lawful first.0 second.0)))
    (kept_to m s events between e f slot p t (λ state row. refl) order unended lawful first
    (none_pass (is_other slot t) (λ row. never (has_slot slot row)) (step (state_after s events) e).state.rows))

-- where one row at most has the slot, and a row in it passes the test, no other is there
one_slot : (slot : ℕ) (t : Row → Bool) (rows : List Row) (row : Row) → count_by (has_slot slot) rows ≤ 1 → Contains rows row → row.slot ≡ slot → t row ≡ true → count_by (is_other slot t) rows ≤ 0
one_slot slot t rows row one among is passes =
    let u : Row → Bool = λ r. has_slot slot r && t r in
    let here : 0 < count_by u rows = contains_counts u rows row among (and_from (has_slot slot row) (t row) (eq-eqb row.slot slot is) passes) in
    omega (arith, one, here, apart u (is_other slot t) (has_slot slot) (λ r. split (has_slot slot r) (t r)) rows)

-- one id isn't that of two processes
two_processes : (id : Name) (p q : ℕ) (rows : List Row) → (p ≡ q → ⊥) → count_by (has_id id) rows ≤ 1 → IsHeldAs rows id p → IsHeldAs rows id q → ⊥
two_processes id p q rows other one first second =
    let t : Row → Bool = λ r. has_id id r && has_process p r.state in
    let u : Row → Bool = λ r. has_id id r && has_process q r.state in
    let here : 0 < count_by t rows = contains_counts t rows first.0 first.1 (and_from (has_id id first.0) (has_process p first.0.state) first.2 first.3) in
    let there : 0 < count_by u rows = contains_counts u rows second.0 second.1 (and_from (has_id id second.0) (has_process q second.0.state) second.2 second.3) in
    omega (arith, one, here, there, apart t u (has_id id) (λ r. split (has_id id r) (has_process p r.state) (has_process q r.state) (λ x y. other (sym (one_process p q r.state x y)))) rows)
  where
    split : (a b c : Bool) → (b ≡ true → c ≡ true → ⊥) → cond (a && b) 1 0 + cond (a && c) 1 0 ≤ cond a 1 0
    split true true true h = absurd (h refl refl)
    split true true false h = omega arith
    split true false true h = omega arith
    split true false false h = omega arith
    split false b c h = omega arith

pub ids_start_anew_from_law : IdsStartAnewFrom
ids_start_anew_from_law m s events between e f id p q order unended few slotted specs apart_now lawful first second =
    let a : State = state_after s events in
    let all : List Event = events ++ e ∷ between ++ f ∷ [] in
    let w : State = state_after s all in
    let held : IsHeldAs (step a e).state.rows id p = first.1 in
    let slot : ℕ = held.0.slot in
    let slots : AreSlotted (step a e).state.rows = subst (λ (x : State). AreSlotted x.rows) (run_goes_on_law s events e).0 (slots_stay_owned_law s (events ++ e ∷ []) few slotted) in
    let later : IsHeldAs w.rows id q = subst (λ (x : State). IsHeldAs x.rows id q) (sym (last_state s events between e f)) second.1 in
    ⊎_elim (λ (taken : EndIsTaken (between ++ f ∷ []) p). taken)
    (λ (kept : Keeps slot p (has_id id) w).
    let row : Row = kept.0.0 in
    let named : has_id id row ≡ true =
    ⊎_elim (λ (holds_so : has_id id row ≡ true). holds_so)
    (λ (isnt : has_id id row ≡ false).
    absurd (omega (arith, kept.2, contains_counts (is_other slot (has_id id)) w.rows row kept.0.1 (and_from (has_slot slot row) (not (has_id id row)) (eq-eqb row.slot slot kept.0.2) (ap not isnt)))))
    (cases_Bool (has_id id row)) in
    absurd (two_processes id p q w.rows (λ same. omega (arith, same, numbers_rise m s events between e f p q lawful first.0 second.0)) (ids_stay_apart_law s all specs apart_now id) (row, kept.0.1, named, kept.0.3) later))
    (kept_to m s events between e f slot p (has_id id) (still_id id) order unended lawful (first.0, (held.0, held.1, refl, held.3))
    (one_slot slot (has_id id) (step a e).state.rows held.0 (slots.one slot) held.1 refl held.2))

pub ends_after_all_from_law : EndsAfterAllFrom
ends_after_all_from_law m s events between e slot p order unended lawful first over =
    let w : State = state_after s (events ++ e ∷ between) in
    let t : Row → Bool = λ row. true in
    let last : IsInOrder (next_number m (numbers_of (events ++ e ∷ between))) w = stays_in_order m s (events ++ e ∷ between) order lawful in
    ⊎_elim (λ (taken : EndIsTaken between p). taken)
    (λ (kept : Keeps slot p t w). absurd (let c : Contains [] kept.0.0 = subst (λ (rows : List Row). Contains rows kept.0.0) (last.3 over) kept.0.1 in omega (arith, c.1)))
    (kept_from m s events between e slot p t (λ state row. refl) order unended lawful first
    (none_pass (is_other slot t) (λ row. never (has_slot slot row)) (step (state_after s events) e).state.rows))

-- from the state that was never opened

no_slots : AreSlotted []
no_slots = record { one = λ k. omega arith; below = λ i d less. absurd (omega (arith, less)) }

pub rows_start_anew_law : RowsStartAnew
rows_start_anew_law flags specs events between e f slot p q opens lawful =
    let base : State = empty_state flags specs in
    rows_start_anew_from_law 0 base events between e f slot p q (empty_in_order flags specs) (λ n above. refl) (few_specs flags specs opens) no_slots (lawful_from_0 base (events ++ e ∷ between ++ f ∷ []) lawful)

pub ids_start_anew_law : IdsStartAnew
ids_start_anew_law flags specs events between e f id p q opens lawful =
    let base : State = empty_state flags specs in
    ids_start_anew_from_law 0 base events between e f id p q (empty_in_order flags specs) (λ n above. refl) (few_specs flags specs opens) no_slots (specs_apart flags specs opens) (λ x. omega arith) (lawful_from_0 base (events ++ e ∷ between ++ f ∷ []) lawful)

pub ends_after_all_law : EndsAfterAll
ends_after_all_law flags specs events between e slot p lawful =
    let base : State = empty_state flags specs in
    ends_after_all_from_law 0 base events between e slot p (empty_in_order flags specs) (λ n above. refl) (lawful_from_0 base (events ++ e ∷ between) lawful)
