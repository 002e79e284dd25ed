-- A call to delete or to stop a child that is answered ok at once is done.
use Rattle.std.specs.Prelude.{◌≡◌, ◌⊎◌, ℕ, ◌+◌, ◌≤◌, ◌<◌, ◌++◌, Bool, true, false, List, [], Some, Contains, refl, get_or, length, position, slice_get, slice_set, remove, count_by}
use Rattle.std.proofs.Common.{◌∙◌, ap, sym, subst, inl, inr, arith, ⊎_elim, cond}
use Rattle.std.proofs.lemmas.Bool.{cases_Bool, false≢true}
use Rattle.std.proofs.lemmas.List.{append-nil, append_cancel_left}
use Rattle.std.proofs.lemmas.List.Elements.{All-nil}
use Rattle.otp_reason.specs.declared.name.Name.{Name}
use Rattle.otp_spec.specs.Flags.{is_simple}
use Rattle.otp_table.specs.declared.row.Row.{Row}
use Rattle.otp_table.specs.declared.row.RowState.{RowState}
use Rattle.otp_table.specs.declared.row.RowState.TheVariants.{Undefined, Starting, Up, Asked, Killed, Restarting}
use Rattle.otp_table.specs.Rows.{has_id, has_number, has_slot, row_has, with_state}
use Rattle.otp_rules.specs.declared.call.Answered.{Answered}
use Rattle.otp_rules.specs.declared.call.Call.{Call}
use Rattle.otp_rules.specs.declared.call.Call.TheVariants as call
use Rattle.otp_rules.specs.declared.call.CallFault.{CallFault}
use Rattle.otp_rules.specs.declared.call.CallFault.TheVariants as fault
use Rattle.otp_rules.specs.declared.call.Reply.TheVariants as reply
use Rattle.otp_rules.specs.declared.event.Event.{Event}
use Rattle.otp_rules.specs.declared.event.Item.TheVariants as item
use Rattle.otp_rules.specs.declared.event.Waiting.TheVariants as waiting
use Rattle.otp_rules.specs.State.{Outcome, State, answer, is_busy, is_over, put_last, with_rows, with_waiting}
use Rattle.otp_rules.specs.Places.{set_row}
use Rattle.otp_rules.specs.Calls.{call_at, call_child, carry_out, fault_at, stop_child, stop_process, take_call, terminate_process, unless_refused}
use Rattle.otp_rules.specs.Step.{ask, decide, stamped, take_item}
use Rattle.otp_rules.proofs.Decisions.{StandsAt, at_row-finds, by_test, first_passes}
use Rattle.otp_rules.proofs.Counting.{remove_count, set_count}
use Rattle.otp_rules.proofs.Homes.{same_number}
use Rattle.otp_rules.proofs.Lasting.{contains_counts}
use Rattle.otp_laws.specs.Ids.{AreNamedApart}
use Rattle.otp_laws.specs.Down.{AreDown, LeavesDown}
use Rattle.otp_laws.specs.Oks.{IsDownAlready, Names}
use Rattle.otp_laws.proofs.Heeded.{brings-item}
use Rattle.otp_laws.proofs.Ids.{still_id}
use Rattle.otp_laws.proofs.Oks.{Told, answer-told, first_found, set-among}
use Rattle.otp_laws.proofs.Sinks.{one_down}
use Rattle.otp_laws.proofs.Still.{IsStill}

-- none of the answers since is ok

abbrev pub NotOk : Answered → Type 0
NotOk a = a.reply ≡ reply.Ok → ⊥

abbrev pub Silent : List Answered → Outcome → Type 0
Silent old o = Told NotOk old o

pub as_before : (old : List Answered) (o : Outcome) → o.state.replies ≡ old → Silent old o
as_before old o same = ([], same ∙ sym (append-nil old), All-nil NotOk)

refused-silent : (old : List Answered) (c : ℕ) (why : CallFault) (o : Outcome) → Silent old o → Silent old (answer c (reply.Refused why) o)
refused-silent old c why o h = answer-told NotOk old c (reply.Refused why) o (λ is. cc) h

-- no two rows have one id, nor one slot
pub record Apart (rows : List Row) : Type 0 where
  pub ids : AreNamedApart rows
  pub slots : (slot : ℕ) → count_by (has_slot slot) rows ≤ 1

-- no answer is ok; or no work is open, and the call is done
abbrev pub DoneOrNot : List Answered → Call → List Row → Outcome → Type 0
DoneOrNot old x rows o = Silent old o ⊎ ((is_busy o ≡ false) × LeavesDown x rows o.state.rows)

-- rows that go

removed_none : (u : Row → Bool) (place : ℕ) (row : Row) (rows : List Row) → count_by u rows ≤ 1 → slice_get rows place ≡ Some row → u row ≡ true → (other : Row) → Contains (remove rows place) other → u other ≡ false
removed_none u place row rows few at named other among =
    let e : count_by u (remove rows place) + cond (u row) 1 0 ≡ count_by u rows = remove_count u rows place row at in
    let one : ◌≡◌ {A = ℕ} (cond (u row) 1 0) 1 = ap (λ (b : Bool). cond b 1 0) named in
    ⊎_elim (λ (passes : u other ≡ true). absurd (omega (arith, few, e, one, contains_counts u (remove rows place) other among passes))) (λ (isnt : u other ≡ false). isnt) (cases_Bool (u other))

removed_down : (u : Row → Bool) (place : ℕ) (row : Row) (rows : List Row) → count_by u rows ≤ 1 → slice_get rows place ≡ Some row → u row ≡ true → AreDown u (remove rows place)
removed_down u place row rows few at named other among passes = absurd (false≢true (sym (removed_none u place row rows few at named other among) ∙ passes))

set_down : (u : Row → Bool) → IsStill u → (place : ℕ) (row : Row) (rows : List Row) → count_by u rows ≤ 1 → slice_get rows place ≡ Some row → u row ≡ true → AreDown u (slice_set rows place (with_state Undefined row))
set_down u still place row rows few at named =
    let new : Row = with_state Undefined row in
    let all : List Row = slice_set rows place new in
    let e : count_by u all + cond (u row) 1 0 ≡ count_by u rows + cond (u new) 1 0 = set_count u rows place row new at in
    let same : ◌≡◌ {A = ℕ} (cond (u new) 1 0) (cond (u row) 1 0) = ap (λ (b : Bool). cond b 1 0) (still Undefined row) in
    one_down u all new (omega (arith, e, same, few)) (set-among place row new rows at) (still Undefined row ∙ named) refl

-- the child that the call names

deleted-done : (old : List Answered) (id : Name) (c place : ℕ) (row : Row) (o : Outcome) → Silent old o → is_busy o ≡ false → count_by (has_id id) o.state.rows ≤ 1 → StandsAt place row o → has_id id row ≡ true
    → DoneOrNot old (call.DeleteChild id) o.state.rows (call_at c (call.DeleteChild id) place row o)
unfolding call_at answer
deleted-done old id c place row o h idle few at named = by row.state
  where
    by : (state : RowState) → DoneOrNot old (call.DeleteChild id) o.state.rows (unless_refused c (fault_at (call.DeleteChild id) state) (carry_out c (call.DeleteChild id) place row o) o)
    by Undefined = inr (idle, λ other among. removed_none (has_id id) place row o.state.rows few at named other among)
    by (Starting _ _) = inl (refused-silent old c fault.Running o h)
    by (Up _) = inl (refused-silent old c fault.Running o h)
    by (Asked _ _) = inl (refused-silent old c fault.Running o h)
    by (Killed _) = inl (refused-silent old c fault.Running o h)
    by (Restarting _) = inl (refused-silent old c fault.Restarting o h)

-- it is stopped, or is gone at once
stopped-done : (old : List Answered) (x : Call) (c : ℕ) (state : RowState) (gone o : Outcome) → Silent old o → is_busy gone ≡ false → LeavesDown x o.state.rows gone.state.rows → DoneOrNot old x o.state.rows (stop_child c state gone o)
unfolding stop_process answer
stopped-done old x c Undefined gone o h idle down = inr (idle, down)
stopped-done old x c (Starting _ _) gone o h idle down = inl h
stopped-done old x c (Up _) gone o h idle down = inl h
stopped-done old x c (Asked _ _) gone o h idle down = inl h
stopped-done old x c (Killed _) gone o h idle down = inl h
stopped-done old x c (Restarting _) gone o h idle down = inr (idle, down)

terminated-done : (old : List Answered) (id : Name) (c place : ℕ) (row : Row) (o : Outcome) → Silent old o → is_busy o ≡ false → count_by (has_id id) o.state.rows ≤ 1 → StandsAt place row o → has_id id row ≡ true
    → DoneOrNot old (call.TerminateChild id) o.state.rows (call_at c (call.TerminateChild id) place row o)
unfolding call_at
terminated-done old id c place row o h idle few at named =
    stopped-done old (call.TerminateChild id) c row.state (set_row place row Undefined o) o h idle (set_down (has_id id) (still_id id) place row o.state.rows few at named)

ended-done : (old : List Answered) (p c place : ℕ) (row : Row) (o : Outcome) → Silent old o → is_busy o ≡ false → count_by (has_slot row.slot) o.state.rows ≤ 1 → StandsAt place row o → position (row_has (has_number p)) o.state.rows ≡ Some place
    → DoneOrNot old (call.TerminateProcess p) o.state.rows (call_at c (call.TerminateProcess p) place row o)
unfolding call_at
ended-done old p c place row o h idle few at found = by row.state
  where
    done : Outcome
    done = stop_child c row.state (with_rows (remove o.state.rows place) o) o

    goes : DoneOrNot old (call.TerminateProcess p) o.state.rows done
    goes =
        stopped-done old (call.TerminateProcess p) c row.state (with_rows (remove o.state.rows place) o) o h idle
        (place, row, first_found (row_has (has_number p)) place row o at found, removed_down (has_slot row.slot) place row o.state.rows few at (same_number row.slot))

    by : (state : RowState) → DoneOrNot old (call.TerminateProcess p) o.state.rows (unless_refused c (fault_at (call.TerminateProcess p) state) (stop_child c row.state (with_rows (remove o.state.rows place) o) o) o)
    by Undefined = inl (refused-silent old c fault.NotFound o h)
    by (Starting _ _) = goes
    by (Up _) = goes
    by (Asked _ _) = goes
    by (Killed _) = goes
    by (Restarting _) = goes

-- a call by id
child-done : (old : List Answered) (c : ℕ) (id : Name) (x : Call) (rows : List Row) (o : Outcome) → Silent old o → ((place : ℕ) (row : Row) → StandsAt place row o → has_id id row ≡ true → DoneOrNot old x rows (call_at c x place row o)) → DoneOrNot old x rows (call_child c id x o)
unfolding call_child
child-done old c id x rows o h each =
    by_test (DoneOrNot old x rows) (is_simple o.state.flags.strategy) _ _ (λ _. inl (refused-silent old c fault.SimpleOneForOne o h))
    (λ _. at_row-finds (DoneOrNot old x rows) (has_id id) _ (call_at c x) o (inl (refused-silent old c fault.NotFound o h)) (inl h)
    (λ place row at found. each place row at (first_passes (has_id id) place row o found at)))

process-done : (old : List Answered) (c p : ℕ) (o : Outcome) → Silent old o → is_busy o ≡ false → Apart o.state.rows → DoneOrNot old (call.TerminateProcess p) o.state.rows (terminate_process c p o)
unfolding terminate_process
process-done old c p o h idle apart =
    by_test (DoneOrNot old (call.TerminateProcess p) o.state.rows) (is_simple o.state.flags.strategy) _ _
    (λ _. at_row-finds (DoneOrNot old (call.TerminateProcess p) o.state.rows) (row_has (has_number p)) _ (call_at c (call.TerminateProcess p)) o (inl (refused-silent old c fault.NotFound o h)) (inl h)
    (λ place row at found. ended-done old p c place row o h idle (apart.slots row.slot) at found))
    (λ _. inl (refused-silent old c fault.NotFound o h))

-- the call, where it names a child to delete or to stop
call-done : (old : List Answered) (c : ℕ) (x : Call) (place : ℕ) (row : Row) (rows : List Row) (o : Outcome) → Names x rows place row → Silent old o → is_busy o ≡ false → Apart o.state.rows → DoneOrNot old x o.state.rows (take_call c x o)
unfolding take_call
call-done old c (call.DeleteChild id) place row rows o named h idle apart =
    child-done old c id (call.DeleteChild id) o.state.rows o h (λ i r at has. deleted-done old id c i r o h idle (apart.ids id) at has)
call-done old c (call.TerminateChild id) place row rows o named h idle apart =
    child-done old c id (call.TerminateChild id) o.state.rows o h (λ i r at has. terminated-done old id c i r o h idle (apart.ids id) at has)
call-done old c (call.TerminateProcess p) place row rows o named h idle apart = process-done old c p o h idle apart
call-done old c (call.StartChild _) place row rows o named h idle apart = absurd named
call-done old c call.StartDynamic place row rows o named h idle apart = absurd named
call-done old c (call.RestartChild _) place row rows o named h idle apart = absurd named
call-done old c call.WhichChildren place row rows o named h idle apart = absurd named
call-done old c call.CountChildren place row rows o named h idle apart = absurd named
call-done old c (call.GetChildspec _) place row rows o named h idle apart = absurd named

taken-done : (old : List Answered) (c : ℕ) (x : Call) (place : ℕ) (row : Row) (rows : List Row) (o : Outcome) → Names x rows place row → Silent old o → Apart o.state.rows → DoneOrNot old x o.state.rows (take_item (item.Call c x) o)
unfolding take_item ask
taken-done old c x place row rows o named h apart =
    by_test (DoneOrNot old x o.state.rows) (is_over o.state.phase) _ _ (λ _. inl (answer-told NotOk old c reply.NoProc o (λ is. cc) h))
    (λ _. by_test (DoneOrNot old x o.state.rows) (is_busy o) (put_last (waiting.Item (item.Call c x)) o) (take_call c x o) (λ _. inl h) (λ idle. call-done old c x place row rows o named h idle apart))

-- an event that takes such a call
pub at_once-done : (s : State) (e : Event) (c : ℕ) → Apart s.rows → (h : IsDownAlready s e.kind c) → DoneOrNot s.replies h.asked s.rows (decide e.kind (record { state = stamped e.reading s; orders = [] }))
at_once-done s e c apart h =
    let start : Outcome = record { state = stamped e.reading s; orders = [] } in
    brings-item (DoneOrNot s.replies h.asked s.rows) e.kind (item.Call c h.asked) start h.takes (λ ws. inl (as_before s.replies (with_waiting ws start) refl))
    (λ ws. taken-done s.replies c h.asked h.place h.row s.rows (with_waiting ws start) h.named (as_before s.replies (with_waiting ws start) refl) apart)

-- of answers of which none is ok the one at this place isn't
pub not_ok : (old : List Answered) (o : Outcome) (given : List Answered) (i : ℕ) (x : Answered) → o.state.replies ≡ old ++ given → i < length given → (get_or given i x).reply ≡ reply.Ok → Silent old o → ⊥
not_ok old o given i x told within ok h =
    let same : given ≡ h.0 = append_cancel_left old given h.0 (sym told ∙ h.1) in
    h.2 i x (subst (λ (l : List Answered). i < length l) same within) (ap (λ (l : List Answered). (get_or l i x).reply) (sym same) ∙ ok)
