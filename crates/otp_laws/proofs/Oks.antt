-- An answer to a call says what has happened.
use Rattle.std.specs.Prelude.{◌≡◌, ◌⊎◌, ℕ, ◌<◌, ◌++◌, Bool, true, false, List, [], ◌∷◌, Option, None, Some, All, Contains, refl, if◌then◌else◌, position, nat_le, slice_get, slice_set, length, remove}
use Rattle.std.proofs.Common.{◌∙◌, ap, sym, subst, inl, inr, arith}
use Rattle.std.proofs.lemmas.Bool.{false≢true}
use Rattle.std.proofs.lemmas.List.{append-nil, append_assoc, get_or-set_same, length-set}
use Rattle.std.proofs.lemmas.List.Elements.{All-nil, All-push}
use Rattle.std.proofs.lemmas.List.Quantifiers.{position-Some}
use Rattle.std.proofs.lemmas.Option.{get_or_from_slice_get, slice_get_within}
use Rattle.otp_reason.specs.declared.name.Name.{Name}
use Rattle.otp_reason.specs.declared.note.Note.{Note}
use Rattle.otp_reason.specs.declared.note.Note.TheVariants as note
use Rattle.otp_reason.specs.declared.reason.Reason.{Reason}
use Rattle.otp_spec.specs.declared.child.ChildSpec.{ChildSpec}
use Rattle.otp_spec.specs.declared.fault.SpecFault.{SpecFault}
use Rattle.otp_spec.specs.declared.limits.TheConstants.{MAX_CHILDREN}
use Rattle.otp_spec.specs.Flags.{is_simple}
use Rattle.otp_spec.specs.Lawful.{first_fault}
use Rattle.otp_table.specs.declared.row.Row.{Row}
use Rattle.otp_table.specs.declared.row.RowState.{RowState}
use Rattle.otp_table.specs.declared.row.RowState.TheVariants.{Undefined, Starting, Up, Asked, Killed, Restarting}
use Rattle.otp_table.specs.Rows.{awaits_retry, has_id, has_number, has_process, row_has, with_state}
use Rattle.otp_rules.specs.declared.call.Answered.{Answered}
use Rattle.otp_rules.specs.declared.call.Call.{Call}
use Rattle.otp_rules.specs.declared.call.Call.TheVariants as call
use Rattle.otp_rules.specs.declared.call.CallFault.{CallFault}
use Rattle.otp_rules.specs.declared.call.CallFault.TheVariants as fault
use Rattle.otp_rules.specs.declared.call.Reply.{Reply}
use Rattle.otp_rules.specs.declared.call.Reply.TheVariants as reply
use Rattle.otp_rules.specs.declared.ending.Ending.{Ending}
use Rattle.otp_rules.specs.declared.ending.Ending.TheVariants as ending
use Rattle.otp_rules.specs.declared.event.Event.{Event}
use Rattle.otp_rules.specs.declared.event.Item.{Item}
use Rattle.otp_rules.specs.declared.event.Item.TheVariants as item
use Rattle.otp_rules.specs.declared.event.Kind.{Kind}
use Rattle.otp_rules.specs.declared.event.Kind.TheVariants as kind
use Rattle.otp_rules.specs.declared.event.Waiting.{Waiting}
use Rattle.otp_rules.specs.declared.event.Waiting.TheVariants as waiting
use Rattle.otp_rules.specs.declared.work.Due.{Due}
use Rattle.otp_rules.specs.declared.work.Sequel.{Sequel}
use Rattle.otp_rules.specs.declared.work.Sequel.TheVariants as sequel
use Rattle.otp_rules.specs.State.{Outcome, State, answer, closed, is_busy, is_over, put_last, with_rows, with_waiting, with_work}
use Rattle.otp_rules.specs.Places.{end_process, end_row, is_removed, set_row}
use Rattle.otp_rules.specs.Restarts.{ends_by_significance, is_restarted, running}
use Rattle.otp_rules.specs.Stops.{calm_all, is_exit, tell, tell_row, terminate, use_exit, without}
use Rattle.otp_rules.specs.Starts.{at_starting, failed_after, if_starting, is_due, start, start_row, take_failed, take_ignored, take_up, up_after}
use Rattle.otp_rules.specs.Deaths.{after_end, death, exit_in, restart, restart_rows, retry, take_exit}
use Rattle.otp_rules.specs.Calls.{add_child, call_at, call_child, carry_out, fault_at, get_childspec, get_shared, is_named, start_checked, start_child, start_dynamic, start_lawful, start_shared, stop_child, stop_process, take_call, terminate_process, unless_refused}
use Rattle.otp_rules.specs.Counts.{counts_of, which_of}
use Rattle.otp_rules.specs.Step.{ask, decide, open_rows, open_with, resume, stamped, take_item, take_note, take_waiting, tick}
use Rattle.otp_rules.specs.Homes.{Brings, IsFirst}
use Rattle.otp_rules.specs.Progress.{process_number, IsFirstRow}
use Rattle.otp_rules.specs.Fit.{is_starting}
use Rattle.otp_rules.proofs.Walks.{counted_restart, restart-by, stop_each-by, terminate-by}
use Rattle.otp_rules.proofs.Decisions.{StandsAt, at_number-survives, at_row-finds, at_row-survives, by_test, first_passes}
use Rattle.otp_laws.specs.Oks.{IsDownAlready, Names}

-- the answers since these are all such
abbrev pub Told : (Answered → Type 0) → List Answered → Outcome → Type 0
Told Q old o = (given : List Answered) × (o.state.replies ≡ old ++ given) × All Q given

pub kept-told : (Q : Answered → Type 0) (old : List Answered) (o new : Outcome) → new.state.replies ≡ o.state.replies → Told Q old o → Told Q old new
kept-told Q old o new same h = (h.0, same ∙ h.1, h.2)

pub answer-told : (Q : Answered → Type 0) (old : List Answered) (c : ℕ) (r : Reply) (o : Outcome) → Q (record { call = c; reply = r }) → Told Q old o → Told Q old (answer c r o)
unfolding answer
answer-told Q old c r o q h =
    let one : Answered = record { call = c; reply = r } in
    (h.0 ++ one ∷ [], ap (λ (l : List Answered). l ++ one ∷ []) h.1 ∙ append_assoc old h.0 (one ∷ []), All-push Q h.0 one h.2 q)

-- what gives no answer

abbrev pub Quiet : Outcome → Outcome → Type 0
Quiet o new = new.state.replies ≡ o.state.replies

pub end-quiet : (place : ℕ) (row : Row) (o : Outcome) → Quiet o (end_row place row o)
unfolding end_row
end-quiet place row o = by_test (Quiet o) (is_removed row) (with_rows (remove o.state.rows place) o) (set_row place row Undefined o) (λ _. refl) (λ _. refl)

pub tell-quiet : (p : ℕ) (o : Outcome) → Quiet o (tell p o)
unfolding tell tell_row
tell-quiet p o = at_number-survives (Quiet o) p (tell_row p) o refl (λ i row at has. refl)

pub use_exit-quiet : (p : ℕ) (place : Option ℕ) (o : Outcome) → Quiet o (use_exit p place o)
unfolding use_exit end_process
use_exit-quiet p place o =
    let left : Outcome = with_waiting (without o.state.waiting place) o in
    at_number-survives (Quiet o) p end_row left refl (λ i row at has. end-quiet i row left)

pub terminate-quiet : (e : Ending) (o : Outcome) → Quiet o (terminate e o)
terminate-quiet e o =
    terminate-by (Quiet o) e o
    (λ _. stop_each-by (Quiet o) (λ p x _ h. use_exit-quiet p (position (is_exit p) x.state.waiting) x ∙ h) (λ p x _ h. tell-quiet p x ∙ h) (running o.state.rows) (calm_all (with_work [] [] (Some (sequel.End e)) o)) refl)
    (λ _. refl)

pub restart-quiet : (k place : ℕ) (row : Row) (o : Outcome) → Quiet o (restart k place row o)
unfolding restart_rows
restart-quiet k place row o = restart-by (Quiet o) k place row o (λ _. terminate-quiet ending.Intensity (counted_restart place row o)) (λ _. refl)

pub open-quiet : (own : ℕ) (o : Outcome) → Quiet o (open_rows own o)
unfolding open_rows open_with
open-quiet own o = refl

pub tick-quiet : (o : Outcome) → Quiet o (tick o)
unfolding tick
tick-quiet o = refl

pub start-quiet : (due : Due) (n : ℕ) (o : Outcome) → Quiet o (start due n o)
unfolding start start_row
start-quiet due n o = at_row-survives (Quiet o) (is_due due) o (start_row due n) o refl refl (λ i row at has. refl)

-- what an event answers before the work goes on

-- an Ok at once is to a call that the event takes, whose child has no process
abbrev pub AtOnce : State → Kind → ℕ → Reply → Type 0
AtOnce s k c reply.Ok = IsDownAlready s k c
AtOnce s k c (reply.OkProcess p) = ⊥
AtOnce s k c _ = Unit {0}

abbrev pub Said : State → Kind → Outcome → Type 0
Said s k = Told (λ (a : Answered). AtOnce s k a.call a.reply) s.replies

refuse-said : (s : State) (k : Kind) (c : ℕ) (why : CallFault) (o : Outcome) → Said s k o → Said s k (answer c (reply.Refused why) o)
refuse-said s k c why o h = answer-told (λ (a : Answered). AtOnce s k a.call a.reply) s.replies c (reply.Refused why) o tt h

ok-said : (s : State) (k : Kind) (c : ℕ) (o : Outcome) → IsDownAlready s k c → Said s k o → Said s k (answer c reply.Ok o)
ok-said s k c o down h = answer-told (λ (a : Answered). AtOnce s k a.call a.reply) s.replies c reply.Ok o down h

spec-said : (s : State) (k : Kind) (c : ℕ) (spec : ChildSpec) (o : Outcome) → Said s k o → Said s k (answer c (reply.Spec spec) o)
spec-said s k c spec o h = answer-told (λ (a : Answered). AtOnce s k a.call a.reply) s.replies c (reply.Spec spec) o tt h

pub first_found : (test : Row → Bool) (place : ℕ) (row : Row) (o : Outcome) → StandsAt place row o → position test o.state.rows ≡ Some place → IsFirstRow (λ other. test other ≡ true) o.state.rows place row
first_found test place row o at found =
    record {
      at = at;
      holds = first_passes test place row o found at;
      first = λ i other less there has.
          false≢true (sym ((position-Some test o.state.rows place row found).2 i less) ∙ ap (λ (r : Row). test r) (get_or_from_slice_get o.state.rows i other row there) ∙ has);
    }

named-down : (s : State) (k : Kind) (c : ℕ) (x : Call) (place : ℕ) (row : Row) (o : Outcome) → o.state.rows ≡ s.rows → Brings k s.waiting (item.Call c x) → Names x o.state.rows place row → process_number row.state ≡ None → IsDownAlready s k c
named-down s k c x place row o same brings named down =
    record { asked = x; takes = brings; place = place; row = row; named = subst (λ (rows : List Row). Names x rows place row) same named; down = down }

deleted-said : (s : State) (k : Kind) (c : ℕ) (id : Name) (place : ℕ) (row : Row) (o : Outcome) → (process_number row.state ≡ None → IsDownAlready s k c) → Said s k o → Said s k (call_at c (call.DeleteChild id) place row o)
unfolding call_at
deleted-said s k c id place row o down h = by row.state refl
  where
    by : (state : RowState) → row.state ≡ state → Said s k (unless_refused c (fault_at (call.DeleteChild id) state) (carry_out c (call.DeleteChild id) place row o) o)
    by Undefined is = ok-said s k c (with_rows (remove o.state.rows place) o) (down (ap (λ (t : RowState). process_number t) is)) h
    by (Starting _ _) is = refuse-said s k c fault.Running o h
    by (Up _) is = refuse-said s k c fault.Running o h
    by (Asked _ _) is = refuse-said s k c fault.Running o h
    by (Killed _) is = refuse-said s k c fault.Running o h
    by (Restarting _) is = refuse-said s k c fault.Restarting o h

stopped-said : (s : State) (k : Kind) (c : ℕ) (row : Row) (state : RowState) (gone o : Outcome) → row.state ≡ state → (process_number row.state ≡ None → IsDownAlready s k c) → Said s k gone → Said s k o → Said s k (stop_child c state gone o)
unfolding stop_process
stopped-said s k c row Undefined gone o is down g h = ok-said s k c gone (down (ap (λ (t : RowState). process_number t) is)) g
stopped-said s k c row (Starting _ _) gone o is down g h = h
stopped-said s k c row (Up _) gone o is down g h = h
stopped-said s k c row (Asked _ _) gone o is down g h = h
stopped-said s k c row (Killed _) gone o is down g h = h
stopped-said s k c row (Restarting _) gone o is down g h = ok-said s k c gone (down (ap (λ (t : RowState). process_number t) is)) g

terminated-said : (s : State) (k : Kind) (c : ℕ) (id : Name) (place : ℕ) (row : Row) (o : Outcome) → (process_number row.state ≡ None → IsDownAlready s k c) → Said s k o → Said s k (call_at c (call.TerminateChild id) place row o)
unfolding call_at
terminated-said s k c id place row o down h = stopped-said s k c row row.state (set_row place row Undefined o) o refl down h h

ended-said : (s : State) (k : Kind) (c p : ℕ) (place : ℕ) (row : Row) (o : Outcome) → (process_number row.state ≡ None → IsDownAlready s k c) → Said s k o → Said s k (call_at c (call.TerminateProcess p) place row o)
unfolding call_at
ended-said s k c p place row o down h = by row.state refl
  where
    done : Outcome
    done = stop_child c row.state (with_rows (remove o.state.rows place) o) o

    goes : Said s k done
    goes = stopped-said s k c row row.state (with_rows (remove o.state.rows place) o) o refl down h h

    by : (state : RowState) → row.state ≡ state → Said s k (unless_refused c (fault_at (call.TerminateProcess p) state) (stop_child c row.state (with_rows (remove o.state.rows place) o) o) o)
    by Undefined is = refuse-said s k c fault.NotFound o h
    by (Starting _ _) is = goes
    by (Up _) is = goes
    by (Asked _ _) is = goes
    by (Killed _) is = goes
    by (Restarting _) is = goes

again-said : (s : State) (k : Kind) (c : ℕ) (id : Name) (place : ℕ) (row : Row) (o : Outcome) → Said s k o → Said s k (call_at c (call.RestartChild id) place row o)
unfolding call_at
again-said s k c id place row o h = by row.state
  where
    by : (state : RowState) → Said s k (unless_refused c (fault_at (call.RestartChild id) state) (carry_out c (call.RestartChild id) place row o) o)
    by Undefined = h
    by (Starting _ _) = refuse-said s k c fault.Running o h
    by (Up _) = refuse-said s k c fault.Running o h
    by (Asked _ _) = refuse-said s k c fault.Running o h
    by (Killed _) = refuse-said s k c fault.Running o h
    by (Restarting _) = refuse-said s k c fault.Restarting o h

present-said : (s : State) (k : Kind) (c : ℕ) (spec : ChildSpec) (place : ℕ) (row : Row) (o : Outcome) → Said s k o → Said s k (call_at c (call.StartChild spec) place row o)
unfolding call_at
present-said s k c spec place row o h = by row.state
  where
    by : (state : RowState) → Said s k (unless_refused c (fault_at (call.StartChild spec) state) (carry_out c (call.StartChild spec) place row o) o)
    by Undefined = refuse-said s k c fault.AlreadyPresent o h
    by (Starting _ _) = refuse-said s k c fault.AlreadyPresent o h
    by (Up p) = refuse-said s k c (fault.AlreadyStarted p) o h
    by (Asked _ _) = refuse-said s k c fault.AlreadyPresent o h
    by (Killed _) = refuse-said s k c fault.AlreadyPresent o h
    by (Restarting _) = refuse-said s k c fault.AlreadyPresent o h

spec-at-said : (s : State) (k : Kind) (c : ℕ) (id : Name) (place : ℕ) (row : Row) (o : Outcome) → Said s k o → Said s k (call_at c (call.GetChildspec id) place row o)
unfolding call_at
spec-at-said s k c id place row o h = spec-said s k c row.spec o h

add-said : (s : State) (k : Kind) (c : ℕ) (id : Option Name) (spec : ChildSpec) (o : Outcome) → Said s k o → Said s k (add_child c id spec o)
unfolding add_child
add-said s k c id spec o h = by_test (Said s k) (nat_le MAX_CHILDREN (length o.state.rows)) _ _ (λ _. refuse-said s k c fault.TooManyChildren o h) (λ _. h)

start-said : (s : State) (k : Kind) (c : ℕ) (spec : ChildSpec) (o : Outcome) → Said s k o → Said s k (start_child c spec o)
unfolding start_child start_checked start_lawful
start-said s k c spec o h =
    by_test (Said s k) (is_simple o.state.flags.strategy) _ _ (λ _. refuse-said s k c fault.SimpleOneForOne o h) (λ _. checked (first_fault (spec ∷ []) (Some o.state.flags.auto_shutdown)))
  where
    checked : (why : Option SpecFault) → Said s k (start_checked c spec why o)
    checked None = at_row-survives (Said s k) (has_id spec.id) (add_child c (Some spec.id) spec o) (call_at c (call.StartChild spec)) o (add-said s k c (Some spec.id) spec o h) h (λ place row at has. present-said s k c spec place row o h)
    checked (Some why) = refuse-said s k c (fault.BadSpec why) o h

dynamic-said : (s : State) (k : Kind) (c : ℕ) (o : Outcome) → Said s k o → Said s k (start_dynamic c o)
unfolding start_dynamic start_shared
dynamic-said s k c o h = by_test (Said s k) (is_simple o.state.flags.strategy) _ _ (λ _. shared (slice_get o.state.specs 0)) (λ _. refuse-said s k c fault.NotSimple o h)
  where
    shared : (spec : Option ChildSpec) → Said s k (start_shared c spec o)
    shared None = refuse-said s k c fault.NotSimple o h
    shared (Some spec) = add-said s k c None spec o h

-- a call by id
child-said : (s : State) (k : Kind) (c : ℕ) (id : Name) (x : Call) (o : Outcome) → ((place : ℕ) (row : Row) → StandsAt place row o → position (has_id id) o.state.rows ≡ Some place → Said s k (call_at c x place row o)) → Said s k o → Said s k (call_child c id x o)
unfolding call_child
child-said s k c id x o each h =
    by_test (Said s k) (is_simple o.state.flags.strategy) _ _ (λ _. refuse-said s k c fault.SimpleOneForOne o h)
    (λ _. at_row-finds (Said s k) (has_id id) _ (call_at c x) o (refuse-said s k c fault.NotFound o h) h each)

process-said : (s : State) (k : Kind) (c p : ℕ) (o : Outcome) → o.state.rows ≡ s.rows → Brings k s.waiting (item.Call c (call.TerminateProcess p)) → Said s k o → Said s k (terminate_process c p o)
unfolding terminate_process
process-said s k c p o same brings h =
    by_test (Said s k) (is_simple o.state.flags.strategy) _ _
    (λ _. at_row-finds (Said s k) (row_has (has_number p)) _ (call_at c (call.TerminateProcess p)) o (refuse-said s k c fault.NotFound o h) h
    (λ place row at found. ended-said s k c p place row o (named-down s k c (call.TerminateProcess p) place row o same brings (first_found (row_has (has_number p)) place row o at found)) h))
    (λ _. refuse-said s k c fault.NotFound o h)

get-said : (s : State) (k : Kind) (c : ℕ) (id : Name) (o : Outcome) → Said s k o → Said s k (get_childspec c id o)
unfolding get_childspec get_shared
get-said s k c id o h =
    by_test (Said s k) (is_simple o.state.flags.strategy) _ _ (λ _. shared (slice_get o.state.specs 0))
    (λ _. at_row-survives (Said s k) (has_id id) _ (call_at c (call.GetChildspec id)) o (refuse-said s k c fault.NotFound o h) h (λ place row at has. spec-at-said s k c id place row o h))
  where
    shared : (spec : Option ChildSpec) → Said s k (get_shared c id spec o)
    shared None = refuse-said s k c fault.NotFound o h
    shared (Some spec) = by_test (Said s k) (is_named id spec) _ _ (λ _. spec-said s k c spec o h) (λ _. refuse-said s k c fault.NotFound o h)

call-said : (s : State) (k : Kind) (c : ℕ) (x : Call) (o : Outcome) → o.state.rows ≡ s.rows → Brings k s.waiting (item.Call c x) → Said s k o → Said s k (take_call c x o)
unfolding take_call
call-said s k c (call.StartChild spec) o same brings h = start-said s k c spec o h
call-said s k c call.StartDynamic o same brings h = dynamic-said s k c o h
call-said s k c (call.RestartChild id) o same brings h = child-said s k c id (call.RestartChild id) o (λ place row at found. again-said s k c id place row o h) h
call-said s k c (call.DeleteChild id) o same brings h =
    child-said s k c id (call.DeleteChild id) o
    (λ place row at found. deleted-said s k c id place row o (named-down s k c (call.DeleteChild id) place row o same brings (first_found (has_id id) place row o at found)) h) h
call-said s k c (call.TerminateChild id) o same brings h =
    child-said s k c id (call.TerminateChild id) o
    (λ place row at found. terminated-said s k c id place row o (named-down s k c (call.TerminateChild id) place row o same brings (first_found (has_id id) place row o at found)) h) h
call-said s k c (call.TerminateProcess p) o same brings h = process-said s k c p o same brings h
call-said s k c call.WhichChildren o same brings h = answer-told (λ (a : Answered). AtOnce s k a.call a.reply) s.replies c (reply.Which (which_of o.state.rows)) o tt h
call-said s k c call.CountChildren o same brings h = answer-told (λ (a : Answered). AtOnce s k a.call a.reply) s.replies c (reply.Count (counts_of o.state)) o tt h
call-said s k c (call.GetChildspec id) o same brings h = get-said s k c id o h

ask-said : (s : State) (k : Kind) (c : ℕ) (x : Call) (o : Outcome) → o.state.rows ≡ s.rows → Brings k s.waiting (item.Call c x) → Said s k o → Said s k (ask c x o)
unfolding ask
ask-said s k c x o same brings h =
    by_test (Said s k) (is_over o.state.phase) _ _ (λ _. answer-told (λ (a : Answered). AtOnce s k a.call a.reply) s.replies c reply.NoProc o tt h)
    (λ _. by_test (Said s k) (is_busy o) (put_last (waiting.Item (item.Call c x)) o) (take_call c x o) (λ _. h) (λ _. call-said s k c x o same brings h))

-- notes

-- the event takes the note that this process came up, which a call to start its child awaits: that is answered, and no work
-- is open any more
pub record CameUp (s : State) (k : Kind) (o : Outcome) : Type 0 where
  pub c : ℕ
  pub p : ℕ
  pub takes : Brings k s.waiting (item.Note (note.Up p))
  pub work : (s.follows ≡ Some (sequel.Added c)) ⊎ (s.follows ≡ Some (sequel.Restarted c))
  -- the row when it was starting
  pub was : Row
  pub there : Contains s.rows was
  pub started : is_starting p was.state ≡ true
  pub row : Row
  pub among : Contains o.state.rows row
  pub up : row.state ≡ Up p
  pub same : row.id ≡ was.id
  pub told : o.state.replies ≡ s.replies ++ record { call = c; reply = reply.OkProcess p } ∷ []
  pub idle : is_busy o ≡ false

abbrev pub Answers : State → Kind → Outcome → Type 0
Answers s k o = Said s k o ⊎ CameUp s k o

-- nothing has moved but what waits
abbrev IsLike : State → Outcome → Type 0
IsLike s o = (o.state.rows ≡ s.rows) × (o.state.follows ≡ s.follows) × (o.state.replies ≡ s.replies)

like-said : (s : State) (k : Kind) (o : Outcome) → o.state.replies ≡ s.replies → Said s k o
like-said s k o same = ([], same ∙ sym (append-nil s.replies), All-nil (λ (a : Answered). AtOnce s k a.call a.reply))

quiet-said : (s : State) (k : Kind) (o new : Outcome) → Quiet o new → o.state.replies ≡ s.replies → Said s k new
quiet-said s k o new quiet same = like-said s k new (quiet ∙ same)

at_starting-is : (P : Outcome → Type 0) (p : ℕ) (f : ℕ → ℕ → Row → Outcome → Outcome) (o : Outcome) → P o → ((kept place : ℕ) (row : Row) → StandsAt place row o → is_starting p row.state ≡ true → P (f kept place row o)) → P (at_starting p f o)
unfolding at_starting
at_starting-is P p f o x each = at_number-survives P p (λ place row. if_starting (λ kept. f kept place row) row.state) o x (λ place row at has. by place row row.state refl at has)
  where
    by : (place : ℕ) (row : Row) (state : RowState) → row.state ≡ state → StandsAt place row o → has_process p state ≡ true → P (if_starting (λ kept. f kept place row) state o)
    by place row Undefined is at has = x
    by place row (Starting q kept) is at has = each kept place row at (ap (λ (s : RowState). is_starting p s) is ∙ has)
    by place row (Up _) is at has = x
    by place row (Asked _ _) is at has = x
    by place row (Killed _) is at has = x
    by place row (Restarting _) is at has = x

pub at_starting-by : (P : Outcome → Type 0) (p : ℕ) (f : ℕ → ℕ → Row → Outcome → Outcome) (o : Outcome) → P o → ((kept place : ℕ) (row : Row) → StandsAt place row o → P (f kept place row o)) → P (at_starting p f o)
at_starting-by P p f o x each = at_starting-is P p f o x (λ kept place row at starts. each kept place row at)

pub among-at : (place : ℕ) (row : Row) (rows : List Row) → slice_get rows place ≡ Some row → Contains rows row
among-at place row rows at = (place, slice_get_within rows place row at, get_or_from_slice_get rows place row row at)

pub set-among : (place : ℕ) (row new : Row) (rows : List Row) → slice_get rows place ≡ Some row → Contains (slice_set rows place new) new
set-among place row new rows at =
    let within : place < length rows = slice_get_within rows place row at in
    (place, omega (arith, within, length-set rows place new), get_or-set_same rows place new new within)

up-answers : (s : State) (k : Kind) (p : ℕ) (o : Outcome) → IsLike s o → Brings k s.waiting (item.Note (note.Up p)) → Answers s k (take_up p o)
unfolding take_up up_after answer
up-answers s k p o like brings =
    at_starting-is (Answers s k) p (λ kept place row x. up_after p x.state.follows (set_row place row (Up p) x)) o (inl (like-said s k o like.2)) (λ kept place row at starts. by place row at starts o.state.follows refl)
  where
    came : (c place : ℕ) (row : Row) (o2 : Outcome) → StandsAt place row o → is_starting p row.state ≡ true → (s.follows ≡ Some (sequel.Added c)) ⊎ (s.follows ≡ Some (sequel.Restarted c)) → o2.state.rows ≡ slice_set o.state.rows place (with_state (Up p) row)
        → o2.state.replies ≡ o.state.replies ++ record { call = c; reply = reply.OkProcess p } ∷ [] → is_busy o2 ≡ false → CameUp s k o2
    came c place row o2 at starts work rows told idle =
        record {
          c = c;
          p = p;
          takes = brings;
          work = work;
          was = row;
          there = subst (λ (l : List Row). Contains l row) like.0 (among-at place row o.state.rows at);
          started = starts;
          row = with_state (Up p) row;
          among = subst (λ (l : List Row). Contains l (with_state (Up p) row)) (sym rows) (set-among place row (with_state (Up p) row) o.state.rows at);
          up = refl;
          same = refl;
          told = told ∙ ap (λ (l : List Answered). l ++ record { call = c; reply = reply.OkProcess p } ∷ []) like.2;
          idle = idle;
        }

    by : (place : ℕ) (row : Row) → StandsAt place row o → is_starting p row.state ≡ true → (f : Option Sequel) → o.state.follows ≡ f → Answers s k (up_after p f (set_row place row (Up p) o))
    by place row at starts None is = inl (like-said s k (set_row place row (Up p) o) like.2)
    by place row at starts (Some sequel.Ready) is = inl (like-said s k (set_row place row (Up p) o) like.2)
    by place row at starts (Some sequel.Nothing) is = inl (like-said s k (set_row place row (Up p) o) like.2)
    by place row at starts (Some (sequel.Added c)) is =
        inr (came c place row (answer c (reply.OkProcess p) (closed (set_row place row (Up p) o))) at starts (inl (sym like.1 ∙ is)) refl refl refl)
    by place row at starts (Some (sequel.Restarted c)) is =
        inr (came c place row (answer c (reply.OkProcess p) (closed (set_row place row (Up p) o))) at starts (inr (sym like.1 ∙ is)) refl refl refl)
    by place row at starts (Some (sequel.Stopped c)) is = inl (like-said s k (set_row place row (Up p) o) like.2)
    by place row at starts (Some (sequel.End x)) is = inl (like-said s k (set_row place row (Up p) o) like.2)

ignored-said : (s : State) (k : Kind) (p : ℕ) (o : Outcome) → IsLike s o → Said s k (take_ignored p o)
unfolding take_ignored
ignored-said s k p o like = at_starting-by (Said s k) p (λ kept. end_row) o (like-said s k o like.2) (λ kept place row at. quiet-said s k o (end_row place row o) (end-quiet place row o) like.2)

failed-said : (s : State) (k : Kind) (p : ℕ) (r : Reason) (o : Outcome) → IsLike s o → Said s k (take_failed p r o)
unfolding take_failed failed_after
failed-said s k p r o like =
    at_starting-by (Said s k) p (λ kept place row x. failed_after r kept place row x.state.follows x) o h (λ kept place row at. by kept place row o.state.follows)
  where
    h : Said s k o
    h = like-said s k o like.2

    by : (kept place : ℕ) (row : Row) (f : Option Sequel) → Said s k (failed_after r kept place row f o)
    by kept place row None = h
    by kept place row (Some sequel.Ready) =
        let down : Outcome = set_row place row Undefined o in
        quiet-said s k o (terminate (ending.InitFailed row.spec.id) down) (terminate-quiet (ending.InitFailed row.spec.id) down) like.2
    by kept place row (Some sequel.Nothing) = h
    by kept place row (Some (sequel.Added c)) = refuse-said s k c (fault.Start r) (closed (with_rows (remove o.state.rows place) o)) h
    by kept place row (Some (sequel.Restarted c)) = refuse-said s k c (fault.Start r) (closed (set_row place row Undefined o)) h
    by kept place row (Some (sequel.Stopped c)) = h
    by kept place row (Some (sequel.End e)) = h

death-quiet : (p : ℕ) (r : Reason) (place : ℕ) (row : Row) (o : Outcome) → Quiet o (death p r place row o)
unfolding death after_end
death-quiet p r place row o =
    let gone : Outcome = end_row place row o in
    by_test (Quiet o) (is_restarted row.spec.restart r) (restart p place row o) (after_end p row gone) (λ _. restart-quiet p place row o)
    (λ _. by_test (Quiet o) (ends_by_significance gone.state.flags.auto_shutdown row gone.state.rows) (terminate (ending.Significant p) gone) gone (λ _. terminate-quiet (ending.Significant p) gone ∙ end-quiet place row o) (λ _. end-quiet place row o))

pub exit-quiet : (p : ℕ) (r : Reason) (o : Outcome) → Quiet o (take_exit p r o)
unfolding take_exit exit_in
exit-quiet p r o = at_number-survives (Quiet o) p (λ place row. exit_in p r place row row.state) o refl (λ place row at has. by place row row.state)
  where
    by : (place : ℕ) (row : Row) (state : RowState) → Quiet o (exit_in p r place row state o)
    by place row Undefined = refl
    by place row (Starting _ _) = refl
    by place row (Up _) = by_test (Quiet o) (is_busy o) (put_last (waiting.Item (item.Note (note.Exit p r))) o) (death p r place row o) (λ _. refl) (λ _. death-quiet p r place row o)
    by place row (Asked _ _) = end-quiet place row o
    by place row (Killed _) = end-quiet place row o
    by place row (Restarting _) = refl

note-answers : (s : State) (k : Kind) (x : Note) (o : Outcome) → IsLike s o → Brings k s.waiting (item.Note x) → Answers s k (take_note x o)
unfolding take_note
note-answers s k (note.Up p) o like brings = up-answers s k p o like brings
note-answers s k (note.Ignored p) o like brings = inl (ignored-said s k p o like)
note-answers s k (note.Failed p r) o like brings = inl (failed-said s k p r o like)
note-answers s k (note.Exit p r) o like brings = inl (quiet-said s k o (take_exit p r o) (exit-quiet p r o) like.2)

item-answers : (s : State) (k : Kind) (i : Item) (o : Outcome) → IsLike s o → Brings k s.waiting i → Answers s k (take_item i o)
unfolding take_item
item-answers s k (item.Note x) o like brings = by_test (Answers s k) (is_over o.state.phase) o (take_note x o) (λ _. inl (like-said s k o like.2)) (λ _. note-answers s k x o like brings)
item-answers s k (item.Call c x) o like brings = inl (ask-said s k c x o like.0 brings (like-said s k o like.2))

pub retry-quiet : (n : ℕ) (o : Outcome) → Quiet o (retry n o)
unfolding retry
retry-quiet n o = at_row-survives (Quiet o) (row_has (awaits_retry n)) o (restart n) o refl refl (λ place row at has. restart-quiet n place row o)

-- the answers of a decision
pub decided-answers : (s : State) (e : Event) → Answers s e.kind (decide e.kind (record { state = stamped e.reading s; orders = [] }))
unfolding decide resume take_waiting
decided-answers s e = by e.kind
  where
    start : Outcome
    start = record { state = stamped e.reading s; orders = [] }

    none : (k : Kind) (new : Outcome) → new.state.replies ≡ s.replies → Answers s k new
    none k new same = inl (like-said s k new same)

    first : (ws : List Waiting) → s.waiting ≡ ws → Answers s kind.Resumed (resume ws start)
    first [] is = none kind.Resumed start refl
    first (waiting.Item i ∷ ws) is = item-answers s kind.Resumed i (with_waiting ws start) (refl, refl, refl) (subst (λ (l : List Waiting). IsFirst l i) (sym is) refl)
    first (waiting.Retry n ∷ ws) is = none kind.Resumed (retry n (with_waiting ws start)) (retry-quiet n (with_waiting ws start))

    by : (k : Kind) → Answers s k (decide k start)
    by (kind.Opened own) = by_test (Answers s (kind.Opened own)) (is_over start.state.phase) (open_rows own start) start (λ _. none (kind.Opened own) (open_rows own start) (open-quiet own start)) (λ _. none (kind.Opened own) start refl)
    by (kind.Took i) = item-answers s (kind.Took i) i start (refl, refl, refl) refl
    by kind.Resumed =
        by_test (Answers s kind.Resumed) (is_busy start) start (if is_over start.state.phase then start else resume start.state.waiting start) (λ _. none kind.Resumed start refl)
        (λ _. by_test (Answers s kind.Resumed) (is_over start.state.phase) start (resume start.state.waiting start) (λ _. none kind.Resumed start refl) (λ _. first s.waiting refl))
    by kind.Ticked = none kind.Ticked (tick start) (tick-quiet start)
    by kind.Stopped =
        by_test (Answers s kind.Stopped) (is_busy start) start (if is_over start.state.phase then start else terminate ending.Asked start) (λ _. none kind.Stopped start refl)
        (λ _. by_test (Answers s kind.Stopped) (is_over start.state.phase) start (terminate ending.Asked start) (λ _. none kind.Stopped start refl) (λ _. none kind.Stopped (terminate ending.Asked start) (terminate-quiet ending.Asked start)))
