-- A call that is refused leaves the children as they are.
use Rattle.std.specs.Prelude.{◌≡◌, ◌⊎◌, ℕ, ◌++◌, false, List, [], ◌∷◌, Option, None, Some, All, refl, if◌then◌else◌, length, nat_le, position, remove, slice_get, unwrap_or}
use Rattle.std.specs.List.{filter_map}
use Rattle.std.proofs.Common.{◌∙◌, ap, sym, inl, inr, ⊎_elim}
use Rattle.std.proofs.lemmas.Bool.{false≢true}
use Rattle.std.proofs.lemmas.List.{append-nil, append_assoc}
use Rattle.std.proofs.lemmas.List.Elements.{All-append, All-cons, All-nil}
use Rattle.otp_reason.specs.declared.name.Name.{Name}
use Rattle.otp_reason.specs.declared.note.Note.{Note}
use Rattle.otp_reason.specs.declared.note.Note.TheVariants as note
use Rattle.otp_reason.specs.declared.reason.Reason.{Reason}
use Rattle.otp_spec.specs.declared.child.ChildSpec.{ChildSpec}
use Rattle.otp_spec.specs.declared.fault.SpecFault.{SpecFault}
use Rattle.otp_spec.specs.declared.limits.TheConstants.{MAX_CHILDREN}
use Rattle.otp_spec.specs.Flags.{is_simple}
use Rattle.otp_spec.specs.Lawful.{first_fault}
use Rattle.otp_table.specs.declared.row.Row.{Row}
use Rattle.otp_table.specs.declared.row.RowState.{RowState}
use Rattle.otp_table.specs.declared.row.RowState.TheVariants.{Undefined, Starting, Up, Asked, Killed, Restarting}
use Rattle.otp_table.specs.Rows.{has_id, has_number, row_has}
use Rattle.otp_rules.specs.declared.call.Answered.{Answered}
use Rattle.otp_rules.specs.declared.call.Call.{Call}
use Rattle.otp_rules.specs.declared.call.Call.TheVariants as call
use Rattle.otp_rules.specs.declared.call.CallFault.{CallFault}
use Rattle.otp_rules.specs.declared.call.CallFault.TheVariants as fault
use Rattle.otp_rules.specs.declared.call.Reply.{Reply}
use Rattle.otp_rules.specs.declared.call.Reply.TheVariants as reply
use Rattle.otp_rules.specs.declared.ending.Ending.TheVariants as ending
use Rattle.otp_rules.specs.declared.event.Event.{Event}
use Rattle.otp_rules.specs.declared.event.Item.{Item}
use Rattle.otp_rules.specs.declared.event.Item.TheVariants as item
use Rattle.otp_rules.specs.declared.event.Kind.{Kind}
use Rattle.otp_rules.specs.declared.event.Kind.TheVariants as kind
use Rattle.otp_rules.specs.declared.event.Waiting.{Waiting}
use Rattle.otp_rules.specs.declared.event.Waiting.TheVariants as waiting
use Rattle.otp_rules.specs.declared.work.Due.{Due}
use Rattle.otp_rules.specs.declared.work.Sequel.{Sequel}
use Rattle.otp_rules.specs.declared.work.Sequel.TheVariants as sequel
use Rattle.otp_rules.specs.State.{Outcome, State, answer, closed, is_busy, is_over, put_last, with_rows, with_waiting, with_work}
use Rattle.otp_rules.specs.Places.{end_row, set_row}
use Rattle.otp_rules.specs.Stops.{is_exit, tell, terminate, use_exit}
use Rattle.otp_rules.specs.Starts.{failed_after, start, take_failed, take_ignored, take_up, up_after}
use Rattle.otp_rules.specs.Ends.{end_all, refuse_all, refused}
use Rattle.otp_rules.specs.Work.{advance, follow, start_first}
use Rattle.otp_rules.specs.Deaths.{retry, take_exit}
use Rattle.otp_rules.specs.Calls.{add_child, call_at, call_child, carry_out, fault_at, get_childspec, get_shared, is_named, start_checked, start_child, start_dynamic, start_lawful, start_shared, stop_child, stop_process, take_call, terminate_process, unless_refused}
use Rattle.otp_rules.specs.Counts.{counts_of, which_of}
use Rattle.otp_rules.specs.Step.{ask, decide, open_rows, resume, stamped, step, step_on, take_item, take_note, take_waiting, tick}
use Rattle.otp_rules.proofs.Decisions.{at_row-survives, by_test}
use Rattle.otp_rules.proofs.Walks.{advance-by, stop_first-by, with_stops}
use Rattle.otp_laws.specs.Refusals.{IsRefusal, RefusalsChangeNone}
use Rattle.otp_laws.proofs.Oks.{Told, answer-told, at_starting-by, end-quiet, exit-quiet, kept-told, open-quiet, retry-quiet, start-quiet, tell-quiet, terminate-quiet, tick-quiet, use_exit-quiet}

-- none of the answers since is a refusal
abbrev NotRefused : Answered → Type 0
NotRefused a = IsRefusal a.reply → ⊥

abbrev Done : State → Outcome → Type 0
Done s o = Told NotRefused s.replies o

-- no work is open, and no row has changed
abbrev Calm : State → Outcome → Type 0
Calm s o = (is_busy o ≡ false) × (o.state.rows ≡ s.rows) × (given : List Answered) × (o.state.replies ≡ s.replies ++ given)

abbrev Leaves : State → Outcome → Type 0
Leaves s o = Calm s o ⊎ Done s o

-- nothing was changed yet, or answered
abbrev Fresh : State → Outcome → Type 0
Fresh s o = (o.state.rows ≡ s.rows) × (o.state.replies ≡ s.replies)

quiet : (s : State) (o : Outcome) → o.state.replies ≡ s.replies → Leaves s o
quiet s o same = inr ([], same ∙ sym (append-nil s.replies), All-nil NotRefused)

none-given : (s : State) (o : Outcome) → o.state.replies ≡ s.replies → Done s o
none-given s o same = ([], same ∙ sym (append-nil s.replies), All-nil NotRefused)

-- answered where nothing has changed
calmly : (s : State) (c : ℕ) (r : Reply) (o : Outcome) → is_busy o ≡ false → Fresh s o → Leaves s (answer c r o)
unfolding answer
calmly s c r o idle fresh = let one : Answered = record { call = c; reply = r } in inl (idle, fresh.0, one ∷ [], ap (λ (l : List Answered). l ++ one ∷ []) fresh.1)

-- answered, and not refused
done : (s : State) (c : ℕ) (r : Reply) (o : Outcome) → (IsRefusal r → ⊥) → o.state.replies ≡ s.replies → Leaves s (answer c r o)
done s c r o not same = inr (answer-told NotRefused s.replies c r o not (none-given s o same))

-- calls

add-leaves : (s : State) (c : ℕ) (id : Option Name) (spec : ChildSpec) (o : Outcome) → is_busy o ≡ false → Fresh s o → Leaves s (add_child c id spec o)
unfolding add_child
add-leaves s c id spec o idle fresh = by_test (Leaves s) (nat_le MAX_CHILDREN (length o.state.rows)) _ _ (λ _. calmly s c (reply.Refused fault.TooManyChildren) o idle fresh) (λ _. inr (none-given s o fresh.1))

refused-leaves : (s : State) (c : ℕ) (why : Option CallFault) (new o : Outcome) → is_busy o ≡ false → Fresh s o → Leaves s new → Leaves s (unless_refused c why new o)
refused-leaves s c None new o idle fresh h = h
refused-leaves s c (Some why) new o idle fresh h = calmly s c (reply.Refused why) o idle fresh

stop-leaves : (s : State) (c : ℕ) (state : RowState) (gone o : Outcome) → gone.state.replies ≡ s.replies → o.state.replies ≡ s.replies → Leaves s (stop_child c state gone o)
unfolding stop_process
stop-leaves s c Undefined gone o down same = done s c reply.Ok gone (λ h. h) down
stop-leaves s c (Starting _ _) gone o down same = inr (none-given s o same)
stop-leaves s c (Up _) gone o down same = inr (none-given s o same)
stop-leaves s c (Asked _ _) gone o down same = inr (none-given s o same)
stop-leaves s c (Killed _) gone o down same = inr (none-given s o same)
stop-leaves s c (Restarting _) gone o down same = done s c reply.Ok gone (λ h. h) down

carried-leaves : (s : State) (c : ℕ) (x : Call) (place : ℕ) (row : Row) (o : Outcome) → is_busy o ≡ false → Fresh s o → Leaves s (carry_out c x place row o)
carried-leaves s c (call.RestartChild id) place row o idle fresh = inr (none-given s o fresh.1)
carried-leaves s c (call.DeleteChild _) place row o idle fresh = done s c reply.Ok (with_rows (remove o.state.rows place) o) (λ h. h) fresh.1
carried-leaves s c (call.TerminateChild _) place row o idle fresh = stop-leaves s c row.state (set_row place row Undefined o) o fresh.1 fresh.1
carried-leaves s c (call.TerminateProcess _) place row o idle fresh = stop-leaves s c row.state (with_rows (remove o.state.rows place) o) o fresh.1 fresh.1
carried-leaves s c (call.GetChildspec _) place row o idle fresh = calmly s c (reply.Spec row.spec) o idle fresh
carried-leaves s c (call.StartChild _) place row o idle fresh = quiet s o fresh.1
carried-leaves s c call.StartDynamic place row o idle fresh = quiet s o fresh.1
carried-leaves s c call.WhichChildren place row o idle fresh = quiet s o fresh.1
carried-leaves s c call.CountChildren place row o idle fresh = quiet s o fresh.1

at-leaves : (s : State) (c : ℕ) (x : Call) (place : ℕ) (row : Row) (o : Outcome) → is_busy o ≡ false → Fresh s o → Leaves s (call_at c x place row o)
unfolding call_at
at-leaves s c x place row o idle fresh = refused-leaves s c (fault_at x row.state) (carry_out c x place row o) o idle fresh (carried-leaves s c x place row o idle fresh)

child-leaves : (s : State) (c : ℕ) (id : Name) (x : Call) (o : Outcome) → is_busy o ≡ false → Fresh s o → Leaves s (call_child c id x o)
unfolding call_child
child-leaves s c id x o idle fresh =
    by_test (Leaves s) (is_simple o.state.flags.strategy) _ _ (λ _. calmly s c (reply.Refused fault.SimpleOneForOne) o idle fresh)
    (λ _. at_row-survives (Leaves s) (has_id id) _ (call_at c x) o (calmly s c (reply.Refused fault.NotFound) o idle fresh) (quiet s o fresh.1) (λ place row at has. at-leaves s c x place row o idle fresh))

start-leaves : (s : State) (c : ℕ) (spec : ChildSpec) (o : Outcome) → is_busy o ≡ false → Fresh s o → Leaves s (start_child c spec o)
unfolding start_child start_checked start_lawful
start-leaves s c spec o idle fresh =
    by_test (Leaves s) (is_simple o.state.flags.strategy) _ _ (λ _. calmly s c (reply.Refused fault.SimpleOneForOne) o idle fresh) (λ _. checked (first_fault (spec ∷ []) (Some o.state.flags.auto_shutdown)))
  where
    checked : (why : Option SpecFault) → Leaves s (start_checked c spec why o)
    checked None =
        at_row-survives (Leaves s) (has_id spec.id) (add_child c (Some spec.id) spec o) (call_at c (call.StartChild spec)) o (add-leaves s c (Some spec.id) spec o idle fresh) (quiet s o fresh.1)
        (λ place row at has. at-leaves s c (call.StartChild spec) place row o idle fresh)
    checked (Some why) = calmly s c (reply.Refused (fault.BadSpec why)) o idle fresh

dynamic-leaves : (s : State) (c : ℕ) (o : Outcome) → is_busy o ≡ false → Fresh s o → Leaves s (start_dynamic c o)
unfolding start_dynamic start_shared
dynamic-leaves s c o idle fresh =
    by_test (Leaves s) (is_simple o.state.flags.strategy) _ _ (λ _. shared (slice_get o.state.specs 0)) (λ _. calmly s c (reply.Refused fault.NotSimple) o idle fresh)
  where
    shared : (spec : Option ChildSpec) → Leaves s (start_shared c spec o)
    shared None = calmly s c (reply.Refused fault.NotSimple) o idle fresh
    shared (Some spec) = add-leaves s c None spec o idle fresh

process-leaves : (s : State) (c p : ℕ) (o : Outcome) → is_busy o ≡ false → Fresh s o → Leaves s (terminate_process c p o)
unfolding terminate_process
process-leaves s c p o idle fresh =
    by_test (Leaves s) (is_simple o.state.flags.strategy) _ _
    (λ _. at_row-survives (Leaves s) (row_has (has_number p)) _ (call_at c (call.TerminateProcess p)) o (calmly s c (reply.Refused fault.NotFound) o idle fresh) (quiet s o fresh.1) (λ place row at has. at-leaves s c (call.TerminateProcess p) place row o idle fresh))
    (λ _. calmly s c (reply.Refused fault.NotFound) o idle fresh)

get-leaves : (s : State) (c : ℕ) (id : Name) (o : Outcome) → is_busy o ≡ false → Fresh s o → Leaves s (get_childspec c id o)
unfolding get_childspec get_shared
get-leaves s c id o idle fresh =
    by_test (Leaves s) (is_simple o.state.flags.strategy) _ _ (λ _. shared (slice_get o.state.specs 0))
    (λ _. at_row-survives (Leaves s) (has_id id) _ (call_at c (call.GetChildspec id)) o (calmly s c (reply.Refused fault.NotFound) o idle fresh) (quiet s o fresh.1) (λ place row at has. at-leaves s c (call.GetChildspec id) place row o idle fresh))
  where
    shared : (spec : Option ChildSpec) → Leaves s (get_shared c id spec o)
    shared None = calmly s c (reply.Refused fault.NotFound) o idle fresh
    shared (Some spec) = by_test (Leaves s) (is_named id spec) _ _ (λ _. calmly s c (reply.Spec spec) o idle fresh) (λ _. calmly s c (reply.Refused fault.NotFound) o idle fresh)

call-leaves : (s : State) (c : ℕ) (x : Call) (o : Outcome) → is_busy o ≡ false → Fresh s o → Leaves s (take_call c x o)
unfolding take_call
call-leaves s c (call.StartChild spec) o idle fresh = start-leaves s c spec o idle fresh
call-leaves s c call.StartDynamic o idle fresh = dynamic-leaves s c o idle fresh
call-leaves s c (call.RestartChild id) o idle fresh = child-leaves s c id (call.RestartChild id) o idle fresh
call-leaves s c (call.DeleteChild id) o idle fresh = child-leaves s c id (call.DeleteChild id) o idle fresh
call-leaves s c (call.TerminateChild id) o idle fresh = child-leaves s c id (call.TerminateChild id) o idle fresh
call-leaves s c (call.TerminateProcess p) o idle fresh = process-leaves s c p o idle fresh
call-leaves s c call.WhichChildren o idle fresh = calmly s c (reply.Which (which_of o.state.rows)) o idle fresh
call-leaves s c call.CountChildren o idle fresh = calmly s c (reply.Count (counts_of o.state)) o idle fresh
call-leaves s c (call.GetChildspec id) o idle fresh = get-leaves s c id o idle fresh

ask-leaves : (s : State) (c : ℕ) (x : Call) (o : Outcome) → Fresh s o → Leaves s (ask c x o)
unfolding ask
ask-leaves s c x o fresh =
    by_test (Leaves s) (is_over o.state.phase) _ _ (λ _. done s c reply.NoProc o (λ h. h) fresh.1)
    (λ _. by_test (Leaves s) (is_busy o) (put_last (waiting.Item (item.Call c x)) o) (take_call c x o) (λ _. inr (none-given s o fresh.1)) (λ idle. call-leaves s c x o idle fresh))

-- notes refuse no call, but for a start that fails

up-leaves : (s : State) (p : ℕ) (o : Outcome) → o.state.replies ≡ s.replies → Leaves s (take_up p o)
unfolding take_up up_after
up-leaves s p o same = at_starting-by (Leaves s) p (λ kept place row x. up_after p x.state.follows (set_row place row (Up p) x)) o (quiet s o same) (λ kept place row at. by place row o.state.follows)
  where
    by : (place : ℕ) (row : Row) (f : Option Sequel) → Leaves s (up_after p f (set_row place row (Up p) o))
    by place row None = quiet s (set_row place row (Up p) o) same
    by place row (Some sequel.Ready) = quiet s (set_row place row (Up p) o) same
    by place row (Some sequel.Nothing) = quiet s (set_row place row (Up p) o) same
    by place row (Some (sequel.Added c)) = done s c (reply.OkProcess p) (closed (set_row place row (Up p) o)) (λ h. h) same
    by place row (Some (sequel.Restarted c)) = done s c (reply.OkProcess p) (closed (set_row place row (Up p) o)) (λ h. h) same
    by place row (Some (sequel.Stopped c)) = quiet s (set_row place row (Up p) o) same
    by place row (Some (sequel.End e)) = quiet s (set_row place row (Up p) o) same

failed-leaves : (s : State) (p : ℕ) (r : Reason) (o : Outcome) → o.state.replies ≡ s.replies → Leaves s (take_failed p r o)
unfolding take_failed failed_after
failed-leaves s p r o same = at_starting-by (Leaves s) p (λ kept place row x. failed_after r kept place row x.state.follows x) o (quiet s o same) (λ kept place row at. by kept place row o.state.follows)
  where
    by : (kept place : ℕ) (row : Row) (f : Option Sequel) → Leaves s (failed_after r kept place row f o)
    by kept place row None = quiet s o same
    by kept place row (Some sequel.Ready) =
        let down : Outcome = set_row place row Undefined o in
        quiet s (terminate (ending.InitFailed row.spec.id) down) (terminate-quiet (ending.InitFailed row.spec.id) down ∙ same)
    by kept place row (Some sequel.Nothing) = inr (none-given s o same)
    by kept place row (Some (sequel.Added c)) = done s c (reply.Refused (fault.Start r)) (closed (with_rows (remove o.state.rows place) o)) (λ h. h) same
    by kept place row (Some (sequel.Restarted c)) = done s c (reply.Refused (fault.Start r)) (closed (set_row place row Undefined o)) (λ h. h) same
    by kept place row (Some (sequel.Stopped c)) = quiet s o same
    by kept place row (Some (sequel.End e)) = quiet s o same

note-leaves : (s : State) (x : Note) (o : Outcome) → o.state.replies ≡ s.replies → Leaves s (take_note x o)
unfolding take_note take_ignored
note-leaves s (note.Up p) o same = up-leaves s p o same
note-leaves s (note.Ignored p) o same = at_starting-by (Leaves s) p (λ kept. end_row) o (quiet s o same) (λ kept place row at. quiet s (end_row place row o) (end-quiet place row o ∙ same))
note-leaves s (note.Failed p r) o same = failed-leaves s p r o same
note-leaves s (note.Exit p r) o same = quiet s (take_exit p r o) (exit-quiet p r o ∙ same)

item-leaves : (s : State) (i : Item) (o : Outcome) → Fresh s o → Leaves s (take_item i o)
unfolding take_item
item-leaves s (item.Note x) o fresh = by_test (Leaves s) (is_over o.state.phase) o (take_note x o) (λ _. quiet s o fresh.1) (λ _. note-leaves s x o fresh.1)
item-leaves s (item.Call c x) o fresh = ask-leaves s c x o fresh

decided-leaves : (s : State) (e : Event) → Leaves s (decide e.kind (record { state = stamped e.reading s; orders = [] }))
unfolding decide resume take_waiting
decided-leaves s e = by e.kind
  where
    start : Outcome
    start = record { state = stamped e.reading s; orders = [] }

    first : (ws : List Waiting) → Leaves s (resume ws start)
    first [] = quiet s start refl
    first (waiting.Item i ∷ ws) = item-leaves s i (with_waiting ws start) (refl, refl)
    first (waiting.Retry n ∷ ws) = quiet s (retry n (with_waiting ws start)) (retry-quiet n (with_waiting ws start))

    by : (k : Kind) → Leaves s (decide k start)
    by (kind.Opened own) = by_test (Leaves s) (is_over start.state.phase) (open_rows own start) start (λ _. quiet s (open_rows own start) (open-quiet own start)) (λ _. quiet s start refl)
    by (kind.Took i) = item-leaves s i start (refl, refl)
    by kind.Resumed =
        by_test (Leaves s) (is_busy start) start (if is_over start.state.phase then start else resume start.state.waiting start) (λ _. quiet s start refl)
        (λ _. by_test (Leaves s) (is_over start.state.phase) start (resume start.state.waiting start) (λ _. quiet s start refl) (λ _. first s.waiting))
    by kind.Ticked = quiet s (tick start) (tick-quiet start)
    by kind.Stopped =
        by_test (Leaves s) (is_busy start) start (if is_over start.state.phase then start else terminate ending.Asked start) (λ _. quiet s start refl)
        (λ _. by_test (Leaves s) (is_over start.state.phase) start (terminate ending.Asked start) (λ _. quiet s start refl) (λ _. quiet s (terminate ending.Asked start) (terminate-quiet ending.Asked start)))

-- work that goes on refuses none

noproc-done : (ws : List Waiting) → All NotRefused (filter_map refused ws)
noproc-done [] = All-nil NotRefused
noproc-done (waiting.Item (item.Note x) ∷ ws) = noproc-done ws
noproc-done (waiting.Item (item.Call c x) ∷ ws) = All-cons NotRefused (record { call = c; reply = reply.NoProc }) (filter_map refused ws) (λ h. h) (noproc-done ws)
noproc-done (waiting.Retry k ∷ ws) = noproc-done ws

follow-done : (s : State) (f : Option Sequel) (o : Outcome) → Done s o → Done s (follow f o)
unfolding follow end_all refuse_all
follow-done s None o h = h
follow-done s (Some sequel.Ready) o h = h
follow-done s (Some sequel.Nothing) o h = h
follow-done s (Some (sequel.Added c)) o h = answer-told NotRefused s.replies c reply.OkUndefined (closed o) (λ no. no) h
follow-done s (Some (sequel.Restarted c)) o h = answer-told NotRefused s.replies c reply.OkUndefined (closed o) (λ no. no) h
follow-done s (Some (sequel.Stopped c)) o h = answer-told NotRefused s.replies c reply.Ok (closed o) (λ no. no) h
follow-done s (Some (sequel.End e)) o h =
    let more : List Answered = filter_map refused o.state.waiting in
    (h.0 ++ more, ap (λ (l : List Answered). l ++ more) h.1 ∙ append_assoc s.replies h.0 more, All-append NotRefused h.0 more h.2 (noproc-done o.state.waiting))

start_first-done : (s : State) (dues : List Due) (n : ℕ) (o : Outcome) → Done s o → Done s (start_first dues n o)
unfolding start_first
start_first-done s [] n o h = follow-done s o.state.follows o h
start_first-done s (due ∷ dues) n o h =
    let left : Outcome = with_work o.state.to_stop dues o.state.follows o in
    kept-told NotRefused s.replies left (start due n left) (start-quiet due n left) h

advance-done : (s : State) (n : ℕ) (o : Outcome) → Done s o → Done s (advance n o)
advance-done s n o h =
    advance-by (Done s) n o (λ _. h)
    (λ busy none.
    stop_first-by (λ _. Done s) (Done s) n (λ x k. start_first-done s x.state.to_start n x k)
    (λ p rest x _ k. let left : Outcome = with_stops rest x in kept-told NotRefused s.replies left (use_exit p (position (is_exit p) x.state.waiting) left) (use_exit-quiet p (position (is_exit p) x.state.waiting) left) k)
    (λ p rest x _ k. let left : Outcome = with_stops rest x in kept-told NotRefused s.replies left (tell p left) (tell-quiet p left) k) o.state.to_stop o h)

advance-calm : (s : State) (n : ℕ) (o : Outcome) → Calm s o → Calm s (advance n o)
advance-calm s n o h = advance-by (Calm s) n o (λ _. h) (λ busy none. absurd (false≢true (sym h.0 ∙ busy)))

pub refusals_change_none_law : RefusalsChangeNone
unfolding step step_on
refusals_change_none_law s e =
    let d : Outcome = decide e.kind (record { state = stamped e.reading s; orders = [] }) in
    let n : ℕ = unwrap_or e.number 0 in
    ⊎_elim
    (λ (calm : Calm s d). let now : Calm s (advance n d) = advance-calm s n d calm in (now.2, now.3, λ i x within is. (now.1, now.0)))
    (λ (given : Done s d). let now : Done s (advance n d) = advance-done s n d given in (now.0, now.1, λ i x within is. absurd (now.2 i x within is)))
    (decided-leaves s e)
