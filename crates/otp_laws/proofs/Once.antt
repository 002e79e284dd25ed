-- Each call is answered once, or is still open.
use Rattle.std.specs.Prelude.{◌≡◌, ℕ, ◌==◌, ◌+◌, ◌<◌, ◌++◌, Bool, true, false, List, [], ◌∷◌, Option, None, Some, refl, if◌then◌else◌, length, nat_le, position, is_some, remove, slice_get, unwrap_or, count_by}
use Rattle.std.specs.List.{cons_option, filter_map}
use Rattle.std.proofs.Common.{◌∙◌, ap, sym, subst, arith, ⊎_elim, cond}
use Rattle.std.proofs.lemmas.Bool.{cases_Bool, false≢true}
use Rattle.std.proofs.lemmas.List.{map-append}
use Rattle.std.proofs.lemmas.List.Elements.{filter_map-append}
use Rattle.otp_reason.specs.declared.name.Name.{Name}
use Rattle.otp_reason.specs.declared.note.Note.{Note}
use Rattle.otp_reason.specs.declared.note.Note.TheVariants as note
use Rattle.otp_reason.specs.declared.reason.Reason.{Reason}
use Rattle.otp_spec.specs.declared.child.ChildSpec.{ChildSpec}
use Rattle.otp_spec.specs.declared.fault.SpecFault.{SpecFault}
use Rattle.otp_spec.specs.declared.limits.TheConstants.{MAX_CHILDREN}
use Rattle.otp_spec.specs.Flags.{is_simple}
use Rattle.otp_spec.specs.Lawful.{first_fault}
use Rattle.otp_table.specs.declared.row.Row.{Row}
use Rattle.otp_table.specs.declared.row.RowState.{RowState}
use Rattle.otp_table.specs.declared.row.RowState.TheVariants.{Undefined, Starting, Up, Asked, Killed, Restarting}
use Rattle.otp_table.specs.Rows.{awaits_retry, has_id, has_number, row_has}
use Rattle.otp_rules.specs.declared.call.Answered.{Answered}
use Rattle.otp_rules.specs.declared.call.Call.{Call}
use Rattle.otp_rules.specs.declared.call.Call.TheVariants as call
use Rattle.otp_rules.specs.declared.call.CallFault.{CallFault}
use Rattle.otp_rules.specs.declared.call.CallFault.TheVariants as fault
use Rattle.otp_rules.specs.declared.call.Reply.{Reply}
use Rattle.otp_rules.specs.declared.call.Reply.TheVariants as reply
use Rattle.otp_rules.specs.declared.ending.Ending.TheVariants as ending
use Rattle.otp_rules.specs.declared.event.Event.{Event}
use Rattle.otp_rules.specs.declared.event.Item.{Item}
use Rattle.otp_rules.specs.declared.event.Item.TheVariants as item
use Rattle.otp_rules.specs.declared.event.Kind.{Kind}
use Rattle.otp_rules.specs.declared.event.Kind.TheVariants as kind
use Rattle.otp_rules.specs.declared.event.Waiting.{Waiting}
use Rattle.otp_rules.specs.declared.event.Waiting.TheVariants as waiting
use Rattle.otp_rules.specs.declared.work.Due.{Due}
use Rattle.otp_rules.specs.declared.work.Sequel.{Sequel}
use Rattle.otp_rules.specs.declared.work.Sequel.TheVariants as sequel
use Rattle.otp_rules.specs.State.{Outcome, State, answer, closed, is_busy, is_over, put_last, with_rows, with_waiting, with_work}
use Rattle.otp_rules.specs.Places.{at_found, at_row, end_row, set_row}
use Rattle.otp_rules.specs.Restarts.{ends_by_significance, is_restarted}
use Rattle.otp_rules.specs.Stops.{terminate}
use Rattle.otp_rules.specs.Starts.{failed_after, take_failed, take_ignored, take_up, up_after}
use Rattle.otp_rules.specs.Ends.{end_all, refuse_all, refused}
use Rattle.otp_rules.specs.Work.{advance, follow, start_first}
use Rattle.otp_rules.specs.Deaths.{after_end, death, exit_in, restart, retry, take_exit}
use Rattle.otp_rules.specs.Calls.{add_child, call_at, call_child, carry_out, fault_at, get_childspec, get_shared, is_named, start_checked, start_child, start_dynamic, start_lawful, start_shared, stop_child, stop_process, take_call, terminate_process, unless_refused}
use Rattle.otp_rules.specs.Counts.{counts_of, which_of}
use Rattle.otp_rules.specs.Step.{ask, decide, open_rows, open_with, resume, stamped, step, step_on, take_item, take_note, take_waiting, tick}
use Rattle.otp_rules.specs.Run.{empty_state, state_after}
use Rattle.otp_rules.specs.Progress.{at_most_one}
use Rattle.otp_rules.specs.Fit.{times, IsSound}
use Rattle.otp_rules.proofs.Counting.{at_row-found, there, times-append, times-cons}
use Rattle.otp_rules.proofs.Decisions.{StandsAt, at_number-survives, at_row-survives, by_test, decide-survives, end_row-same}
use Rattle.otp_rules.proofs.Sound.{advance-sound, empty-sound, sound-survives}
use Rattle.otp_rules.proofs.Walks.{advance-by, stop_first-by, with_stops}
use Rattle.otp_laws.specs.Once.{answered_calls, call_in, call_taken, call_waiting, taken_calls, CallsAnsweredOnce, CallsAnsweredOnceFrom}
use Rattle.otp_laws.proofs.Load.{answer-load, closed-load, end-load, idle_none, load, load-same, put-calls, restart-load, start-load, tell-load, terminate-load, tick-load, used-load, waiting_calls, work_calls}
use Rattle.otp_laws.proofs.Oks.{at_starting-by}

-- notes

-- so many calls as in o, and one more under the number n
abbrev OneMore : ℕ → ℕ → Outcome → Outcome → Type 0
OneMore c n o new = load c new ≡ load c o + cond (n == c) 1 0

abbrev Like : ℕ → Outcome → Outcome → Type 0
Like c o new = load c new ≡ load c o

-- the call for which work was open is answered, and the work closes
answers_work : (c n : ℕ) (r : Reply) (o left : Outcome) → work_calls o.state.follows ≡ n ∷ [] → left.state.replies ≡ o.state.replies → waiting_calls left.state.waiting ≡ waiting_calls o.state.waiting → left.state.follows ≡ None → Like c o (answer n r left)
answers_work c n r o left is replies waits none =
    let shut : work_calls left.state.follows ≡ [] = ap (λ (f : Option Sequel). work_calls f) none in
    let same : load c left ≡ load c (closed o) = load-same c (closed o) left replies waits shut in
    let one : times c (work_calls o.state.follows) ≡ times c (n ∷ []) = ap (λ (l : List ℕ). times c l) is in
    let nothing : times c [] ≡ 0 = refl in
    omega (arith, same, one, nothing, answer-load c n r left, closed-load c o, times-cons c n [])

up-load : (c p : ℕ) (o : Outcome) → Like c o (take_up p o)
unfolding take_up up_after
up-load c p o = at_starting-by (Like c o) p (λ kept place row x. up_after p x.state.follows (set_row place row (Up p) x)) o refl (λ kept place row at. by place row o.state.follows refl)
  where
    by : (place : ℕ) (row : Row) (f : Option Sequel) → o.state.follows ≡ f → Like c o (up_after p f (set_row place row (Up p) o))
    by place row None is = refl
    by place row (Some sequel.Ready) is = refl
    by place row (Some sequel.Nothing) is = refl
    by place row (Some (sequel.Added n)) is = answers_work c n (reply.OkProcess p) o (closed (set_row place row (Up p) o)) (ap (λ (g : Option Sequel). work_calls g) is) refl refl refl
    by place row (Some (sequel.Restarted n)) is = answers_work c n (reply.OkProcess p) o (closed (set_row place row (Up p) o)) (ap (λ (g : Option Sequel). work_calls g) is) refl refl refl
    by place row (Some (sequel.Stopped n)) is = refl
    by place row (Some (sequel.End e)) is = refl

failed-load : (c p : ℕ) (r : Reason) (o : Outcome) → Like c o (take_failed p r o)
unfolding take_failed failed_after
failed-load c p r o = at_starting-by (Like c o) p (λ kept place row x. failed_after r kept place row x.state.follows x) o refl (λ kept place row at. by kept place row o.state.follows refl)
  where
    by : (kept place : ℕ) (row : Row) (f : Option Sequel) → o.state.follows ≡ f → Like c o (failed_after r kept place row f o)
    by kept place row None is = refl
    by kept place row (Some sequel.Ready) is = terminate-load c (ending.InitFailed row.spec.id) (set_row place row Undefined o) (ap (λ (g : Option Sequel). work_calls g) is)
    by kept place row (Some sequel.Nothing) is =
        load-same c o (closed (put_last (waiting.Retry kept) (set_row place row (Restarting kept) o))) refl (put-calls o.state.waiting (waiting.Retry kept) refl) (sym (ap (λ (g : Option Sequel). work_calls g) is))
    by kept place row (Some (sequel.Added n)) is = answers_work c n (reply.Refused (fault.Start r)) o (closed (with_rows (remove o.state.rows place) o)) (ap (λ (g : Option Sequel). work_calls g) is) refl refl refl
    by kept place row (Some (sequel.Restarted n)) is = answers_work c n (reply.Refused (fault.Start r)) o (closed (set_row place row Undefined o)) (ap (λ (g : Option Sequel). work_calls g) is) refl refl refl
    by kept place row (Some (sequel.Stopped n)) is = refl
    by kept place row (Some (sequel.End e)) is = refl

death-load : (c p : ℕ) (r : Reason) (place : ℕ) (row : Row) (o : Outcome) → is_busy o ≡ false → Like c o (death p r place row o)
unfolding death after_end
death-load c p r place row o idle =
    let gone : Outcome = end_row place row o in
    let left : Like c o gone = end-load c place row o in
    by_test (Like c o) (is_restarted row.spec.restart r) (restart p place row o) (after_end p row gone) (λ _. restart-load c p place row o (idle_none o idle))
    (λ _. by_test (Like c o) (ends_by_significance gone.state.flags.auto_shutdown row gone.state.rows) (terminate (ending.Significant p) gone) gone
    (λ _. terminate-load c (ending.Significant p) gone (idle_none gone ((end_row-same place row o).1 ∙ idle)) ∙ left) (λ _. left))

exit-load : (c p : ℕ) (r : Reason) (o : Outcome) → Like c o (take_exit p r o)
unfolding take_exit exit_in
exit-load c p r o = at_number-survives (Like c o) p (λ place row. exit_in p r place row row.state) o refl (λ place row at has. by place row row.state)
  where
    kept : Like c o (put_last (waiting.Item (item.Note (note.Exit p r))) o)
    kept = load-same c o (put_last (waiting.Item (item.Note (note.Exit p r))) o) refl (put-calls o.state.waiting (waiting.Item (item.Note (note.Exit p r))) refl) refl

    by : (place : ℕ) (row : Row) (state : RowState) → Like c o (exit_in p r place row state o)
    by place row Undefined = refl
    by place row (Starting _ _) = kept
    by place row (Up _) = by_test (Like c o) (is_busy o) (put_last (waiting.Item (item.Note (note.Exit p r))) o) (death p r place row o) (λ _. kept) (λ idle. death-load c p r place row o idle)
    by place row (Asked _ _) = end-load c place row o
    by place row (Killed _) = end-load c place row o
    by place row (Restarting _) = refl

note-load : (c : ℕ) (x : Note) (o : Outcome) → Like c o (take_note x o)
unfolding take_note take_ignored
note-load c (note.Up p) o = up-load c p o
note-load c (note.Ignored p) o = at_starting-by (Like c o) p (λ kept. end_row) o refl (λ kept place row at. end-load c place row o)
note-load c (note.Failed p r) o = failed-load c p r o
note-load c (note.Exit p r) o = exit-load c p r o

-- calls, with no work open

-- work opens for the call
opens_work : (c n : ℕ) (stops : List ℕ) (starts : List Due) (f : Sequel) (o : Outcome) → is_busy o ≡ false → work_calls (Some f) ≡ n ∷ [] → OneMore c n o (with_work stops starts (Some f) o)
opens_work c n stops starts f o idle is =
    let none : times c (work_calls o.state.follows) ≡ times c [] = ap (λ (l : List ℕ). times c l) (idle_none o idle) in
    let one : times c (work_calls (Some f)) ≡ times c (n ∷ []) = ap (λ (l : List ℕ). times c l) is in
    omega (arith, none, one, times-cons c n [])

add-load : (c n : ℕ) (id : Option Name) (spec : ChildSpec) (o : Outcome) → is_busy o ≡ false → OneMore c n o (add_child n id spec o)
unfolding add_child
add-load c n id spec o idle =
    by_test (OneMore c n o) (nat_le MAX_CHILDREN (length o.state.rows)) _ _ (λ _. answer-load c n (reply.Refused fault.TooManyChildren) o)
    (λ _. opens_work c n [] (record { id = id; kept = None } ∷ []) (sequel.Added n) o idle refl)

stop-load : (c n place : ℕ) (row : Row) (state : RowState) (gone o : Outcome) → is_busy o ≡ false → load c gone ≡ load c o → OneMore c n o (stop_child n state gone o)
unfolding stop_process
stop-load c n place row Undefined gone o idle same = omega (arith, same, answer-load c n reply.Ok gone)
stop-load c n place row (Starting p _) gone o idle same = opens_work c n (p ∷ []) [] (sequel.Stopped n) o idle refl
stop-load c n place row (Up p) gone o idle same = opens_work c n (p ∷ []) [] (sequel.Stopped n) o idle refl
stop-load c n place row (Asked p _) gone o idle same = opens_work c n (p ∷ []) [] (sequel.Stopped n) o idle refl
stop-load c n place row (Killed p) gone o idle same = opens_work c n (p ∷ []) [] (sequel.Stopped n) o idle refl
stop-load c n place row (Restarting _) gone o idle same = omega (arith, same, answer-load c n reply.Ok gone)

-- the call at its row, but start_child, which is refused there
done-load : (c n : ℕ) (x : Call) (place : ℕ) (row : Row) (o : Outcome) → is_busy o ≡ false → (why : Option CallFault) → OneMore c n o (carry_out n x place row o) → OneMore c n o (unless_refused n why (carry_out n x place row o) o)
done-load c n x place row o idle None done = done
done-load c n x place row o idle (Some why) done = answer-load c n (reply.Refused why) o

at-load : (c n : ℕ) (x : Call) (place : ℕ) (row : Row) (o : Outcome) → is_busy o ≡ false → OneMore c n o (carry_out n x place row o) → OneMore c n o (call_at n x place row o)
unfolding call_at
at-load c n x place row o idle done = done-load c n x place row o idle (fault_at x row.state) done

present-load : (c n : ℕ) (spec : ChildSpec) (place : ℕ) (row : Row) (o : Outcome) → OneMore c n o (call_at n (call.StartChild spec) place row o)
unfolding call_at
present-load c n spec place row o = by row.state
  where
    by : (state : RowState) → OneMore c n o (unless_refused n (fault_at (call.StartChild spec) state) (carry_out n (call.StartChild spec) place row o) o)
    by Undefined = answer-load c n (reply.Refused fault.AlreadyPresent) o
    by (Starting _ _) = answer-load c n (reply.Refused fault.AlreadyPresent) o
    by (Up p) = answer-load c n (reply.Refused (fault.AlreadyStarted p)) o
    by (Asked _ _) = answer-load c n (reply.Refused fault.AlreadyPresent) o
    by (Killed _) = answer-load c n (reply.Refused fault.AlreadyPresent) o
    by (Restarting _) = answer-load c n (reply.Refused fault.AlreadyPresent) o

-- the first row that passes a test, or what is done where none does

no_place : (x : Option ℕ) → is_some x ≡ false → x ≡ None
no_place None h = refl
no_place (Some i) h = absurd (false≢true (sym h))

missed : (P : Outcome → Type 0) (test : Row → Bool) (missing : Outcome) (f : ℕ → Row → Outcome → Outcome) (o : Outcome) → is_some (position test o.state.rows) ≡ false → P missing → P (at_row test missing f o)
unfolding at_row at_found
missed P test missing f o isnt none = subst (λ (x : Option ℕ). P (at_found missing f x o)) (sym (no_place (position test o.state.rows) isnt)) none

at_row-by : (P : Outcome → Type 0) (test : Row → Bool) (missing : Outcome) (f : ℕ → Row → Outcome → Outcome) (o : Outcome) → P missing → ((place : ℕ) (row : Row) → StandsAt place row o → P (f place row o)) → P (at_row test missing f o)
at_row-by P test missing f o none each =
    ⊎_elim (λ (is : is_some (position test o.state.rows) ≡ true). at_row-found P test missing f o (some o.state.rows is) (λ place row at has. each place row at))
    (λ (isnt : is_some (position test o.state.rows) ≡ false). missed P test missing f o isnt none) (cases_Bool (is_some (position test o.state.rows)))
  where
    some : (rows : List Row) → is_some (position test rows) ≡ true → 0 < count_by test rows
    some [] is = absurd (false≢true is)
    some (row ∷ rows) is = there test (row ∷ rows) row is

child-load : (c n : ℕ) (id : Name) (x : Call) (o : Outcome) → ((place : ℕ) (row : Row) → StandsAt place row o → OneMore c n o (call_at n x place row o)) → OneMore c n o (call_child n id x o)
unfolding call_child
child-load c n id x o each =
    by_test (OneMore c n o) (is_simple o.state.flags.strategy) _ _ (λ _. answer-load c n (reply.Refused fault.SimpleOneForOne) o)
    (λ _. at_row-by (OneMore c n o) (has_id id) _ (call_at n x) o (answer-load c n (reply.Refused fault.NotFound) o) each)

start-child-load : (c n : ℕ) (spec : ChildSpec) (o : Outcome) → is_busy o ≡ false → OneMore c n o (start_child n spec o)
unfolding start_child start_checked start_lawful
start-child-load c n spec o idle =
    by_test (OneMore c n o) (is_simple o.state.flags.strategy) _ _ (λ _. answer-load c n (reply.Refused fault.SimpleOneForOne) o) (λ _. checked (first_fault (spec ∷ []) (Some o.state.flags.auto_shutdown)))
  where
    checked : (why : Option SpecFault) → OneMore c n o (start_checked n spec why o)
    checked None = at_row-by (OneMore c n o) (has_id spec.id) (add_child n (Some spec.id) spec o) (call_at n (call.StartChild spec)) o (add-load c n (Some spec.id) spec o idle) (λ place row at. present-load c n spec place row o)
    checked (Some why) = answer-load c n (reply.Refused (fault.BadSpec why)) o

dynamic-load : (c n : ℕ) (o : Outcome) → is_busy o ≡ false → OneMore c n o (start_dynamic n o)
unfolding start_dynamic start_shared
dynamic-load c n o idle = by_test (OneMore c n o) (is_simple o.state.flags.strategy) _ _ (λ _. shared (slice_get o.state.specs 0)) (λ _. answer-load c n (reply.Refused fault.NotSimple) o)
  where
    shared : (spec : Option ChildSpec) → OneMore c n o (start_shared n spec o)
    shared None = answer-load c n (reply.Refused fault.NotSimple) o
    shared (Some spec) = add-load c n None spec o idle

process-load : (c n p : ℕ) (o : Outcome) → is_busy o ≡ false → OneMore c n o (terminate_process n p o)
unfolding terminate_process
process-load c n p o idle =
    by_test (OneMore c n o) (is_simple o.state.flags.strategy) _ _
    (λ _. at_row-by (OneMore c n o) (row_has (has_number p)) _ (call_at n (call.TerminateProcess p)) o (answer-load c n (reply.Refused fault.NotFound) o)
    (λ place row at. at-load c n (call.TerminateProcess p) place row o idle (stop-load c n place row row.state (with_rows (remove o.state.rows place) o) o idle refl)))
    (λ _. answer-load c n (reply.Refused fault.NotFound) o)

get-load : (c n : ℕ) (id : Name) (o : Outcome) → is_busy o ≡ false → OneMore c n o (get_childspec n id o)
unfolding get_childspec get_shared
get-load c n id o idle =
    by_test (OneMore c n o) (is_simple o.state.flags.strategy) _ _ (λ _. shared (slice_get o.state.specs 0))
    (λ _. at_row-by (OneMore c n o) (has_id id) _ (call_at n (call.GetChildspec id)) o (answer-load c n (reply.Refused fault.NotFound) o) (λ place row at. at-load c n (call.GetChildspec id) place row o idle (answer-load c n (reply.Spec row.spec) o)))
  where
    shared : (spec : Option ChildSpec) → OneMore c n o (get_shared n id spec o)
    shared None = answer-load c n (reply.Refused fault.NotFound) o
    shared (Some spec) = by_test (OneMore c n o) (is_named id spec) _ _ (λ _. answer-load c n (reply.Spec spec) o) (λ _. answer-load c n (reply.Refused fault.NotFound) o)

call-load : (c n : ℕ) (x : Call) (o : Outcome) → is_busy o ≡ false → OneMore c n o (take_call n x o)
unfolding take_call
call-load c n (call.StartChild spec) o idle = start-child-load c n spec o idle
call-load c n call.StartDynamic o idle = dynamic-load c n o idle
call-load c n (call.RestartChild id) o idle =
    child-load c n id (call.RestartChild id) o (λ place row at. at-load c n (call.RestartChild id) place row o idle (opens_work c n [] (record { id = Some id; kept = None } ∷ []) (sequel.Restarted n) o idle refl))
call-load c n (call.DeleteChild id) o idle =
    child-load c n id (call.DeleteChild id) o (λ place row at. at-load c n (call.DeleteChild id) place row o idle (answer-load c n reply.Ok (with_rows (remove o.state.rows place) o)))
call-load c n (call.TerminateChild id) o idle =
    child-load c n id (call.TerminateChild id) o (λ place row at. at-load c n (call.TerminateChild id) place row o idle (stop-load c n place row row.state (set_row place row Undefined o) o idle refl))
call-load c n (call.TerminateProcess p) o idle = process-load c n p o idle
call-load c n call.WhichChildren o idle = answer-load c n (reply.Which (which_of o.state.rows)) o
call-load c n call.CountChildren o idle = answer-load c n (reply.Count (counts_of o.state)) o
call-load c n (call.GetChildspec id) o idle = get-load c n id o idle

-- the calls that an item brings
abbrev brought : ℕ → Option ℕ → ℕ
brought c x = times c (at_most_one x)

one_brought : (c n : ℕ) → brought c (Some n) ≡ cond (n == c) 1 0
one_brought c n = let none : times c [] ≡ 0 = refl in omega (arith, none, times-cons c n [])

ask-load : (c n : ℕ) (x : Call) (o : Outcome) → OneMore c n o (ask n x o)
unfolding ask
ask-load c n x o =
    by_test (OneMore c n o) (is_over o.state.phase) _ _ (λ _. answer-load c n reply.NoProc o)
    (λ _. by_test (OneMore c n o) (is_busy o) (put_last (waiting.Item (item.Call n x)) o) (take_call n x o) (λ _. waits) (λ idle. call-load c n x o idle))
  where
    waits : OneMore c n o (put_last (waiting.Item (item.Call n x)) o)
    waits =
        let ws : List Waiting = o.state.waiting in
        let more : times c (waiting_calls (ws ++ waiting.Item (item.Call n x) ∷ [])) ≡ times c (waiting_calls ws ++ n ∷ []) = ap (λ (l : List ℕ). times c l) (filter_map-append call_waiting ws (waiting.Item (item.Call n x) ∷ [])) in
        let none : times c [] ≡ 0 = refl in
        omega (arith, more, none, times-append c (waiting_calls ws) (n ∷ []), times-cons c n [])

item-load : (c : ℕ) (i : Item) (o : Outcome) → load c (take_item i o) ≡ load c o + brought c (call_in i)
unfolding take_item
item-load c (item.Note x) o =
    by_test (λ (y : Outcome). load c y ≡ load c o + brought c None) (is_over o.state.phase) o (take_note x o) (λ _. omega (arith, none)) (λ _. omega (arith, none, note-load c x o))
  where
    none : times c [] ≡ 0
    none = refl
item-load c (item.Call n x) o = omega (arith, ask-load c n x o, one_brought c n)

-- decisions

retry-load : (c n : ℕ) (o : Outcome) → is_busy o ≡ false → Like c o (retry n o)
unfolding retry
retry-load c n o idle = at_row-survives (Like c o) (row_has (awaits_retry n)) o (restart n) o refl refl (λ place row at has. restart-load c n place row o (idle_none o idle))

first-load : (c : ℕ) (ws : List Waiting) (o : Outcome) → o.state.waiting ≡ ws → is_busy o ≡ false → Like c o (resume ws o)
unfolding resume take_waiting
first-load c [] o is idle = refl
first-load c (waiting.Item i ∷ ws) o is idle =
    let left : Outcome = with_waiting ws o in
    let was : times c (waiting_calls o.state.waiting) ≡ times c (cons_option (call_in i) (waiting_calls ws)) = ap (λ (l : List Waiting). times c (waiting_calls l)) is in
    omega (arith, was, item-load c i left, more (call_in i))
  where
    more : (x : Option ℕ) → times c (cons_option x (waiting_calls ws)) ≡ brought c x + times c (waiting_calls ws)
    more None = let none : times c [] ≡ 0 = refl in omega (arith, none)
    more (Some n) = omega (arith, one_brought c n, times-cons c n (waiting_calls ws))
first-load c (waiting.Retry n ∷ ws) o is idle =
    let left : Outcome = with_waiting ws o in
    let was : times c (waiting_calls o.state.waiting) ≡ times c (waiting_calls ws) = ap (λ (l : List Waiting). times c (waiting_calls l)) is in
    omega (arith, was, retry-load c n left idle)

open-load : (c own : ℕ) (o : Outcome) → is_busy o ≡ false → Like c o (open_rows own o)
unfolding open_rows open_with
open-load c own o idle = let none : times c (work_calls o.state.follows) ≡ times c [] = ap (λ (l : List ℕ). times c l) (idle_none o idle) in omega (arith, none)

decided-load : (c : ℕ) (k : Kind) (o : Outcome) → IsSound o.state → load c (decide k o) ≡ load c o + brought c (call_taken k)
unfolding decide
decided-load c k o sound = by k
  where
    none : times c [] ≡ 0
    none = refl

    quiet : (new : Outcome) → Like c o new → load c new ≡ load c o + brought c None
    quiet new same = omega (arith, same, none)

    by : (k : Kind) → load c (decide k o) ≡ load c o + brought c (call_taken k)
    by (kind.Opened own) =
        by_test (λ (y : Outcome). load c y ≡ load c o + brought c None) (is_over o.state.phase) (open_rows own o) o (λ over. quiet (open_rows own o) (open-load c own o (sound.3 over))) (λ _. quiet o refl)
    by (kind.Took i) = item-load c i o
    by kind.Resumed =
        by_test (λ (y : Outcome). load c y ≡ load c o + brought c None) (is_busy o) o (if is_over o.state.phase then o else resume o.state.waiting o) (λ _. quiet o refl)
        (λ idle. by_test (λ (y : Outcome). load c y ≡ load c o + brought c None) (is_over o.state.phase) o (resume o.state.waiting o) (λ _. quiet o refl) (λ _. quiet (resume o.state.waiting o) (first-load c o.state.waiting o refl idle)))
    by kind.Ticked = quiet (tick o) (tick-load c o)
    by kind.Stopped =
        by_test (λ (y : Outcome). load c y ≡ load c o + brought c None) (is_busy o) o (if is_over o.state.phase then o else terminate ending.Asked o) (λ _. quiet o refl)
        (λ idle. by_test (λ (y : Outcome). load c y ≡ load c o + brought c None) (is_over o.state.phase) o (terminate ending.Asked o) (λ _. quiet o refl) (λ _. quiet (terminate ending.Asked o) (terminate-load c ending.Asked o (idle_none o idle))))

-- the work that goes on

refused_calls : (ws : List Waiting) → answered_calls (filter_map refused ws) ≡ waiting_calls ws
refused_calls [] = refl
refused_calls (waiting.Item (item.Note x) ∷ ws) = refused_calls ws
refused_calls (waiting.Item (item.Call n x) ∷ ws) = ap (λ (l : List ℕ). n ∷ l) (refused_calls ws)
refused_calls (waiting.Retry k ∷ ws) = refused_calls ws

follow-load : (c : ℕ) (f : Option Sequel) (o : Outcome) → o.state.follows ≡ f → Like c o (follow f o)
unfolding follow end_all refuse_all
follow-load c None o is = refl
follow-load c (Some sequel.Ready) o is = load-same c o (closed o) refl refl (sym (ap (λ (g : Option Sequel). work_calls g) is))
follow-load c (Some sequel.Nothing) o is = load-same c o (closed o) refl refl (sym (ap (λ (g : Option Sequel). work_calls g) is))
follow-load c (Some (sequel.Added n)) o is = answers_work c n reply.OkUndefined o (closed o) (ap (λ (g : Option Sequel). work_calls g) is) refl refl refl
follow-load c (Some (sequel.Restarted n)) o is = answers_work c n reply.OkUndefined o (closed o) (ap (λ (g : Option Sequel). work_calls g) is) refl refl refl
follow-load c (Some (sequel.Stopped n)) o is = answers_work c n reply.Ok o (closed o) (ap (λ (g : Option Sequel). work_calls g) is) refl refl refl
follow-load c (Some (sequel.End e)) o is =
    let more : List Answered = filter_map refused o.state.waiting in
    let a : times c (answered_calls (o.state.replies ++ more)) ≡ times c (answered_calls o.state.replies ++ answered_calls more) = ap (λ (l : List ℕ). times c l) (map-append (λ (x : Answered). x.call) o.state.replies more) in
    let b : times c (answered_calls more) ≡ times c (waiting_calls o.state.waiting) = ap (λ (l : List ℕ). times c l) (refused_calls o.state.waiting) in
    let d : times c (work_calls o.state.follows) ≡ times c [] = ap (λ (g : Option Sequel). times c (work_calls g)) is in
    let none : times c [] ≡ 0 = refl in
    omega (arith, a, b, d, none, times-append c (answered_calls o.state.replies) (answered_calls more))

start_first-load : (c : ℕ) (dues : List Due) (n : ℕ) (o : Outcome) → Like c o (start_first dues n o)
unfolding start_first
start_first-load c [] n o = follow-load c o.state.follows o refl
start_first-load c (due ∷ dues) n o = start-load c due n (with_work o.state.to_stop dues o.state.follows o)

advance-load : (c n : ℕ) (o : Outcome) → Like c o (advance n o)
advance-load c n o =
    advance-by (Like c o) n o (λ _. refl)
    (λ busy none.
    stop_first-by (λ _ x. Like c o x) (Like c o) n (λ x h. start_first-load c x.state.to_start n x ∙ h)
    (λ p rest x _ h. used-load c p x (with_stops rest x) refl refl refl ∙ h)
    (λ p rest x _ h. tell-load c p (with_stops rest x) ∙ h) o.state.to_stop o refl)

step-load : (c : ℕ) (s : State) (e : Event) → IsSound s → load c (step s e) ≡ load c (record { state = s; orders = [] }) + brought c (call_taken e.kind)
unfolding step step_on
step-load c s e sound =
    let start : Outcome = record { state = stamped e.reading s; orders = [] } in
    omega (arith, advance-load c (unwrap_or e.number 0) (decide e.kind start), decided-load c e.kind start sound)

step-sound : (s : State) (e : Event) → IsSound s → IsSound (step s e).state
unfolding step step_on
step-sound s e sound =
    let start : Outcome = record { state = stamped e.reading s; orders = [] } in
    advance-sound (unwrap_or e.number 0) (decide e.kind start) (decide-survives e.kind (λ (o : Outcome). IsSound o.state) start (sound-survives e.kind (is_some s.follows)) sound)

-- whole histories

run-load : (c : ℕ) (s : State) (events : List Event) → IsSound s → load c (record { state = state_after s events; orders = [] }) ≡ load c (record { state = s; orders = [] }) + times c (taken_calls events)
run-load c s [] sound = let none : times c [] ≡ 0 = refl in omega (arith, none)
run-load c s (e ∷ events) sound = omega (arith, step-load c s e sound, run-load c (step s e).state events (step-sound s e sound), more (call_taken e.kind))
  where
    more : (x : Option ℕ) → times c (cons_option x (taken_calls events)) ≡ brought c x + times c (taken_calls events)
    more None = let none : times c [] ≡ 0 = refl in omega (arith, none)
    more (Some n) = omega (arith, one_brought c n, times-cons c n (taken_calls events))

pub calls_answered_once_from_law : CallsAnsweredOnceFrom
calls_answered_once_from_law s events c sound =
    let last : State = state_after s events in
    omega (arith, run-load c s events sound, times-append c (waiting_calls s.waiting) (work_calls s.follows), times-append c (waiting_calls last.waiting) (work_calls last.follows))

pub calls_answered_once_law : CallsAnsweredOnce
calls_answered_once_law flags specs events c =
    let none : times c [] ≡ 0 = refl in
    omega (arith, none, calls_answered_once_from_law (empty_state flags specs) events c (empty-sound flags specs))
