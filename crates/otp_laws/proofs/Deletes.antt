-- delete_child takes away only a child that is undefined.
use Rattle.std.specs.Prelude.{◌≡◌, ◌⊎◌, ℕ, true, false, List, [], Some, refl, position, remove, unwrap_or}
use Rattle.std.proofs.Common.{◌∙◌, ap, sym, inl, inr}
use Rattle.std.proofs.lemmas.Bool.{false≢true}
use Rattle.std.proofs.lemmas.List.Quantifiers.{position-Some}
use Rattle.std.proofs.lemmas.Option.{get_or_from_slice_get}
use Rattle.otp_reason.specs.declared.name.Name.{Name}
use Rattle.otp_spec.specs.Flags.{is_simple}
use Rattle.otp_table.specs.declared.row.Row.{Row}
use Rattle.otp_table.specs.declared.row.RowState.{RowState}
use Rattle.otp_table.specs.declared.row.RowState.TheVariants.{Undefined, Starting, Up, Asked, Killed, Restarting}
use Rattle.otp_table.specs.Rows.{has_id}
use Rattle.otp_rules.specs.declared.call.Call.TheVariants as call
use Rattle.otp_rules.specs.declared.call.CallFault.TheVariants as fault
use Rattle.otp_rules.specs.declared.call.Reply.{Reply}
use Rattle.otp_rules.specs.declared.call.Reply.TheVariants as reply
use Rattle.otp_rules.specs.declared.event.Event.{Event}
use Rattle.otp_rules.specs.declared.event.Item.TheVariants as item
use Rattle.otp_rules.specs.declared.event.Waiting.TheVariants as waiting
use Rattle.otp_rules.specs.State.{Outcome, State, answer, is_busy, is_over, put_last, with_rows, with_waiting}
use Rattle.otp_rules.specs.Calls.{call_at, call_child, carry_out, fault_at, take_call, unless_refused}
use Rattle.otp_rules.specs.Work.{advance}
use Rattle.otp_rules.specs.Step.{ask, decide, stamped, step, step_on, take_item}
use Rattle.otp_rules.specs.Run.{empty_state, state_after}
use Rattle.otp_rules.specs.Progress.{no_progress, IsFirstRow}
use Rattle.otp_rules.specs.InOrder.{Awaits}
use Rattle.otp_rules.proofs.Decisions.{StandsAt, at_row-finds, by_test, first_passes}
use Rattle.otp_rules.proofs.Walks.{advance-by}
use Rattle.otp_laws.specs.Musts.{DeletesUndefined, DeletesUndefinedFrom, RemovesUndefined}
use Rattle.otp_laws.specs.Notes.{ChangesNone}
use Rattle.otp_laws.proofs.Basis.{empty_basis, lawful_from_0, stays_basis}
use Rattle.otp_laws.proofs.Heeded.{Same, brings-item, rests-same}

-- no work is open, and this row is gone, which was undefined and the first with the id
record Removed (id : Name) (rows : List Row) (o : Outcome) : Type 0 where
  place : ℕ
  row : Row
  first : IsFirstRow (λ other. has_id id other ≡ true) rows place row
  down : row.state ≡ Undefined
  left : o.state.rows ≡ remove rows place
  idle : is_busy o ≡ false

-- what delete_child does
abbrev Deletes : Name → Outcome → Outcome → Type 0
Deletes id old o = Same old o ⊎ Removed id old.state.rows o

answer-deletes : (id : Name) (c : ℕ) (r : Reply) (old o : Outcome) → Deletes id old o → Deletes id old (answer c r o)
unfolding answer
answer-deletes id c r old o (inl same) = inl same
answer-deletes id c r old o (inr h) = inr (record { place = h.place; row = h.row; first = h.first; down = h.down; left = h.left; idle = h.idle })

first_named : (id : Name) (place : ℕ) (row : Row) (o : Outcome) → StandsAt place row o → position (has_id id) o.state.rows ≡ Some place → IsFirstRow (λ other. has_id id other ≡ true) o.state.rows place row
first_named id place row o at found =
    record {
      at = at;
      holds = first_passes (has_id id) place row o found at;
      first = λ i other less there has.
          false≢true (sym ((position-Some (has_id id) o.state.rows place row found).2 i less) ∙ ap (λ (r : Row). has_id id r) (get_or_from_slice_get o.state.rows i other row there) ∙ has);
    }

found-deletes : (id : Name) (c place : ℕ) (row : Row) (o : Outcome) → is_busy o ≡ false → StandsAt place row o → position (has_id id) o.state.rows ≡ Some place → Deletes id o (call_at c (call.DeleteChild id) place row o)
unfolding call_at
found-deletes id c place row o idle at found = by row.state refl
  where
    same : (why : Reply) → Deletes id o (answer c why o)
    same why = answer-deletes id c why o o (inl (refl, refl))

    by : (state : RowState) → row.state ≡ state → Deletes id o (unless_refused c (fault_at (call.DeleteChild id) state) (carry_out c (call.DeleteChild id) place row o) o)
    by Undefined is =
        answer-deletes id c reply.Ok o (with_rows (remove o.state.rows place) o)
        (inr (record { place = place; row = row; first = first_named id place row o at found; down = is; left = refl; idle = idle }))
    by (Starting _ _) is = same (reply.Refused fault.Running)
    by (Up _) is = same (reply.Refused fault.Running)
    by (Asked _ _) is = same (reply.Refused fault.Running)
    by (Killed _) is = same (reply.Refused fault.Running)
    by (Restarting _) is = same (reply.Refused fault.Restarting)

asked-deletes : (id : Name) (c : ℕ) (o : Outcome) → Deletes id o (take_item (item.Call c (call.DeleteChild id)) o)
unfolding take_item ask take_call call_child
asked-deletes id c o =
    by_test (Deletes id o) (is_over o.state.phase) _ _ (λ _. answer-deletes id c reply.NoProc o o (inl (refl, refl)))
    (λ _. by_test (Deletes id o) (is_busy o) (put_last (waiting.Item (item.Call c (call.DeleteChild id))) o) (call_child c id (call.DeleteChild id) o) (λ _. inl (refl, refl))
    (λ idle. by_test (Deletes id o) (is_simple o.state.flags.strategy) _ _ (λ _. answer-deletes id c (reply.Refused fault.SimpleOneForOne) o o (inl (refl, refl)))
    (λ _. at_row-finds (Deletes id o) (has_id id) _ (call_at c (call.DeleteChild id)) o (answer-deletes id c (reply.Refused fault.NotFound) o o (inl (refl, refl))) (inl (refl, refl))
    (λ place row at found. found-deletes id c place row o idle at found))))

advance-removed : (id : Name) (rows : List Row) (n : ℕ) (o : Outcome) → Removed id rows o → Removed id rows (advance n o)
advance-removed id rows n o h = advance-by (Removed id rows) n o (λ _. h) (λ busy none. absurd (false≢true (sym h.idle ∙ busy)))

step-deletes : (s : State) (e : Event) (id : Name) → Awaits s → Deletes id (record { state = stamped e.reading s; orders = [] }) (decide e.kind (record { state = stamped e.reading s; orders = [] })) → ChangesNone s e ⊎ RemovesUndefined s e id
unfolding step step_on
step-deletes s e id waits (inl same) = inl (rests-same s e waits same)
step-deletes s e id waits (inr h) =
    let now : Removed id s.rows (step s e) = advance-removed id s.rows (unwrap_or e.number 0) (decide e.kind (record { state = stamped e.reading s; orders = [] })) h in
    inr (record { place = now.place; row = now.row; first = now.first; down = now.down; removed = now.left })

pub deletes_undefined_from_law : DeletesUndefinedFrom
deletes_undefined_from_law m s g events e c id h lawful brings =
    let a : State = state_after s events in
    let start : Outcome = record { state = stamped e.reading a; orders = [] } in
    step-deletes a e id (stays_basis m s g events h lawful).2
    (brings-item (Deletes id start) e.kind (item.Call c (call.DeleteChild id)) start brings (λ ws. inl (refl, refl)) (λ ws. asked-deletes id c (with_waiting ws start)))

pub deletes_undefined_law : DeletesUndefined
deletes_undefined_law flags specs events e c id lawful =
    let base : State = empty_state flags specs in
    deletes_undefined_from_law 0 base (no_progress base) events e c id (empty_basis flags specs) (lawful_from_0 base events lawful)
