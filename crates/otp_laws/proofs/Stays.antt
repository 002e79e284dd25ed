-- No row comes or goes where nothing waits, at an Up, or at the end of a child that was told to stop and whose row stays: a row's
-- state is set, and of what goes on only the use of an end that waits, and the supervisor's own end, take rows away.
use Rattle.std.specs.Prelude.{◌≡◌, ◌⊎◌, ℕ, not, List, [], Option, None, Some, true, false, refl, position, is_some, option_and_then, remove, slice_get, unwrap_or}
use Rattle.std.specs.Option.{option_map_or}
use Rattle.std.proofs.Common.{◌∙◌, ap, sym, subst, inl, inr}
use Rattle.std.proofs.lemmas.Bool.{and_parts, false≢true}
use Rattle.std.proofs.lemmas.Option.{get_or_from_slice_get}
use Rattle.std.proofs.Math.Seq.{map-set_same}
use Rattle.otp_reason.specs.declared.note.Note.TheVariants as note
use Rattle.otp_reason.specs.declared.reason.Reason.{Reason}
use Rattle.otp_table.specs.declared.row.Row.{Row}
use Rattle.otp_table.specs.declared.row.RowState.{RowState}
use Rattle.otp_table.specs.declared.row.RowState.TheVariants.{Asked, Killed, Restarting, Starting, Undefined, Up}
use Rattle.otp_table.specs.Rows.{has_process, row_has, with_state}
use Rattle.otp_rules.specs.declared.event.Event.{Event}
use Rattle.otp_rules.specs.declared.event.Item.TheVariants as item
use Rattle.otp_rules.specs.declared.event.Kind.{Kind}
use Rattle.otp_rules.specs.declared.event.Kind.TheVariants as kind
use Rattle.otp_rules.specs.declared.event.Waiting.{Waiting}
use Rattle.otp_rules.specs.declared.work.Sequel.{Sequel}
use Rattle.otp_rules.specs.declared.work.Sequel.TheVariants as sequel
use Rattle.otp_rules.specs.State.{Outcome, State, answer, is_over, with_rows, with_work}
use Rattle.otp_rules.specs.Deaths.{exit_in, take_exit}
use Rattle.otp_rules.specs.Places.{at_number, end_row, is_removed, set_row}
use Rattle.otp_rules.specs.Stops.{is_exit, tell, tell_row, told}
use Rattle.otp_rules.specs.Starts.{is_due, start, start_row, take_up, up_after}
use Rattle.otp_rules.specs.Ends.{end_all, refuse_all}
use Rattle.otp_rules.specs.Step.{decide, stamped, step, step_on, take_item, take_note}
use Rattle.otp_rules.proofs.GoesOn.{GoesOn, advance-on}
use Rattle.otp_rules.proofs.Walks.{with_stops}
use Rattle.otp_rules.proofs.Decisions.{StandsAt, at_number-survives, at_row-finds, at_row-survives, at_starting-survives, by_test}
use Rattle.otp_laws.specs.Stays.{StopKeepsChildren, UpKeepsChildren, keeps_row, slots_in, stays_stopped, was_told}

-- the rows have these slots
abbrev pub HaveSlots : List ℕ → Outcome → Type 0
HaveSlots slots o = slots_in o.state.rows ≡ slots

-- and nothing waits
abbrev pub Rest : List ℕ → Outcome → Type 0
Rest slots o = HaveSlots slots o × (o.state.waiting ≡ [])

-- or the supervisor is over
abbrev pub Stay : List ℕ → Outcome → Type 0
Stay slots o = HaveSlots slots o ⊎ (is_over o.state.phase ≡ true)

set-slots : (slots : List ℕ) (place : ℕ) (row : Row) (state : RowState) (o : Outcome) → StandsAt place row o → HaveSlots slots o → HaveSlots slots (set_row place row state o)
set-slots slots place row state o at h =
    map-set_same (λ (r : Row). r.slot) o.state.rows place (with_state state row) row (ap (λ (r : Row). r.slot) (sym (get_or_from_slice_get o.state.rows place row row at))) ∙ h

tell-slots : (slots : List ℕ) (p : ℕ) (o : Outcome) → HaveSlots slots o → HaveSlots slots (tell p o)
unfolding tell tell_row
tell-slots slots p o h =
    at_number-survives (HaveSlots slots) p (tell_row p) o h
    (λ place row at has. set-slots slots place row (told o.state.last p row.spec.shutdown) o at h)

-- what goes on takes no row away, where no end waits
going-stay : (n : ℕ) (slots : List ℕ) → GoesOn n (λ _. Rest slots) (Stay slots)
unfolding start start_row answer end_all refuse_all
going-stay n slots =
    record {
      uses = λ p rest o waits h. absurd (false≢true (sym (ap (λ (ws : List Waiting). is_some (position (is_exit p) ws)) h.1) ∙ waits));
      tells = λ p rest o _ h. inl (tell-slots slots p (with_stops rest o) h.0);
      starts = λ due dues o _ h.
          let left : Outcome = with_work o.state.to_stop dues o.state.follows o in
          inl (at_row-survives (HaveSlots slots) (is_due due) left (start_row due n) left h.0 h.0 (λ place row at has. set-slots slots place row (Starting n (unwrap_or due.kept n)) left at h.0));
      closes = λ f o _ _ h. inl h.0;
      answers = λ c r f o _ _ h. inl h.0;
      ready = λ o _ h. inl h.0;
      ends = λ e o _ h. inr refl;
    }

answered-rests : (slots : List ℕ) (p : ℕ) (f : Option Sequel) (o : Outcome) → Rest slots o → Rest slots (up_after p f o)
unfolding up_after answer
answered-rests slots p None o h = h
answered-rests slots p (Some sequel.Ready) o h = h
answered-rests slots p (Some sequel.Nothing) o h = h
answered-rests slots p (Some (sequel.Added c)) o h = h
answered-rests slots p (Some (sequel.Restarted c)) o h = h
answered-rests slots p (Some (sequel.Stopped c)) o h = h
answered-rests slots p (Some (sequel.End e)) o h = h

up-rests : (slots : List ℕ) (p : ℕ) (o : Outcome) → Rest slots o → Rest slots (take_up p o)
unfolding take_up
up-rests slots p o h =
    at_starting-survives (Rest slots) p (λ k place row x. up_after p x.state.follows (set_row place row (Up p) x)) o
    (λ q k place row at is same. answered-rests slots p o.state.follows (set_row place row (Up p) o) (set-slots slots place row (Up p) o at h.0, h.1)) h

decided-rests : (slots : List ℕ) (p : ℕ) (o : Outcome) → Rest slots o → Rest slots (decide (kind.Took (item.Note (note.Up p))) o)
unfolding decide take_item take_note
decided-rests slots p o h = by_test (Rest slots) (is_over o.state.phase) o (take_up p o) (λ _. h) (λ _. up-rests slots p o h)

-- a row that stays becomes undefined
ended-rests : (slots : List ℕ) (place : ℕ) (row : Row) (o : Outcome) → StandsAt place row o → not (is_removed row) ≡ true → Rest slots o → Rest slots (end_row place row o)
unfolding end_row
ended-rests slots place row o at stays h =
    by_test (Rest slots) (is_removed row) (with_rows (remove o.state.rows place) o) (set_row place row Undefined o)
    (λ goes. absurd (false≢true (sym (ap not goes) ∙ stays)))
    (λ _. (set-slots slots place row Undefined o at h.0, h.1))

exit_in-rests : (slots : List ℕ) (p : ℕ) (r : Reason) (place : ℕ) (row : Row) (state : RowState) (o : Outcome) → StandsAt place row o → was_told state ≡ true → not (is_removed row) ≡ true → Rest slots o → Rest slots (exit_in p r place row state o)
unfolding exit_in
exit_in-rests slots p r place row Undefined o at told stays h = absurd (false≢true told)
exit_in-rests slots p r place row (Starting q k) o at told stays h = absurd (false≢true told)
exit_in-rests slots p r place row (Up q) o at told stays h = absurd (false≢true told)
exit_in-rests slots p r place row (Asked q t) o at told stays h = ended-rests slots place row o at stays h
exit_in-rests slots p r place row (Killed q) o at told stays h = ended-rests slots place row o at stays h
exit_in-rests slots p r place row (Restarting k) o at told stays h = absurd (false≢true told)

-- the row that is found is the one of which the law speaks
found_stays : (p : ℕ) (rows : List Row) (place : ℕ) (row : Row) → position (row_has (has_process p)) rows ≡ Some place → slice_get rows place ≡ Some row → keeps_row p rows ≡ true → stays_stopped row ≡ true
found_stays p rows place row found at keeps =
    sym (ap (λ (x : Option Row). option_map_or stays_stopped x false) at)
    ∙ sym (ap (λ (k : Option ℕ). option_map_or stays_stopped (option_and_then (slice_get rows) k) false) found)
    ∙ keeps

exit-rests : (slots : List ℕ) (p : ℕ) (r : Reason) (o : Outcome) → keeps_row p o.state.rows ≡ true → Rest slots o → Rest slots (take_exit p r o)
unfolding take_exit at_number
exit-rests slots p r o keeps h =
    at_row-finds (Rest slots) (row_has (has_process p)) o (λ place row. exit_in p r place row row.state) o h h
    (λ place row at found.
    let parts = and_parts (was_told row.state) (not (is_removed row)) (found_stays p o.state.rows place row found at keeps) in
    exit_in-rests slots p r place row row.state o at parts.0 parts.1 h)

stopped-rests : (slots : List ℕ) (p : ℕ) (r : Reason) (o : Outcome) → keeps_row p o.state.rows ≡ true → Rest slots o → Rest slots (decide (kind.Took (item.Note (note.Exit p r))) o)
unfolding decide take_item take_note
stopped-rests slots p r o keeps h = by_test (Rest slots) (is_over o.state.phase) o (take_exit p r o) (λ _. h) (λ _. exit-rests slots p r o keeps h)

-- where what the event itself changes keeps the rows, and leaves nothing waiting, what goes on keeps them
event-stays : (s : State) (e : Event) (k : Kind) → e.kind ≡ k → Rest (slots_in s.rows) (decide k (record { state = stamped e.reading s; orders = [] })) → Stay (slots_in s.rows) (step s e)
unfolding step step_on
event-stays s e k is decides =
    let begun : Outcome = record { state = stamped e.reading s; orders = [] } in
    let slots : List ℕ = slots_in s.rows in
    let n : ℕ = unwrap_or e.number 0 in
    let decided : Rest slots (decide e.kind begun) = subst (λ (j : Kind). Rest slots (decide j begun)) (sym is) decides in
    advance-on n (λ _. Rest slots) (Stay slots) (going-stay n slots) (decide e.kind begun) (λ _. inl decided.0) (λ _ _. decided)

pub up_keeps_children_law : UpKeepsChildren
up_keeps_children_law s e p is none =
    let begun : Outcome = record { state = stamped e.reading s; orders = [] } in
    event-stays s e (kind.Took (item.Note (note.Up p))) is (decided-rests (slots_in s.rows) p begun (refl, none))

pub stop_keeps_children_law : StopKeepsChildren
stop_keeps_children_law s e p r is none keeps =
    let begun : Outcome = record { state = stamped e.reading s; orders = [] } in
    event-stays s e (kind.Took (item.Note (note.Exit p r))) is (stopped-rests (slots_in s.rows) p r begun keeps (refl, none))
