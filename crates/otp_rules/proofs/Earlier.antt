-- An event's orders come after those given before. Nothing that it does depends on those, nor on the answers and ends that were
-- kept before, nor on restarts that are too long ago to count: each function of the rules does the same where they stand before its own.
use Rattle.std.specs.Prelude.{◌≡◌, ℕ, ◌++◌, Bool, true, false, List, [], ◌∷◌, Option, None, Some, refl, if◌then◌else◌, position, is_some, slice_get, nat_le, nat_lt, length, map, remove, unwrap_or}
use Rattle.std.proofs.Common.{◌∙◌, ap, subst, sym}
use Rattle.std.proofs.lemmas.List.{append-nil, append_assoc}
use Rattle.std.specs.List.{list_any, filter_map}
use Rattle.otp_reason.specs.declared.name.Name.{Name}
use Rattle.otp_reason.specs.declared.reason.Reason.{Reason}
use Rattle.otp_reason.specs.declared.note.Note.{Note}
use Rattle.otp_reason.specs.declared.note.Note.TheVariants as note
use Rattle.otp_spec.specs.declared.child.ChildSpec.{ChildSpec}
use Rattle.otp_spec.specs.declared.fault.SpecFault.{SpecFault}
use Rattle.otp_spec.specs.Lawful.{first_fault}
use Rattle.otp_spec.specs.declared.limits.TheConstants.{MAX_CHILDREN}
use Rattle.otp_table.specs.declared.row.Row.{Row}
use Rattle.otp_table.specs.declared.row.RowState.{RowState}
use Rattle.otp_table.specs.declared.row.RowState.TheVariants.{Undefined, Starting, Up, Asked, Killed, Restarting}
use Rattle.otp_table.specs.Rows.{awaits_retry, has_id, has_number, has_process, is_awaited, row_has, free_slot}
use Rattle.otp_rules.specs.declared.call.Call.{Call}
use Rattle.otp_rules.specs.declared.call.CallFault.{CallFault}
use Rattle.otp_rules.specs.declared.call.CallFault.TheVariants as fault
use Rattle.otp_rules.specs.declared.call.Reply.{Reply}
use Rattle.otp_rules.specs.declared.call.Reply.TheVariants as reply
use Rattle.otp_rules.specs.declared.call.Call.TheVariants as call
use Rattle.otp_rules.specs.declared.ending.Ending.{Ending}
use Rattle.otp_rules.specs.declared.ending.SupEnd.{SupEnd}
use Rattle.otp_rules.specs.declared.ending.Cause.TheVariants as cause
use Rattle.otp_reason.specs.declared.reason.Reason.TheVariants as reason
use Rattle.otp_rules.specs.declared.ending.Ending.TheVariants as ending
use Rattle.otp_rules.specs.declared.event.Event.{Event}
use Rattle.otp_rules.specs.declared.event.Item.{Item}
use Rattle.otp_rules.specs.declared.event.Item.TheVariants as item
use Rattle.otp_rules.specs.declared.event.Kind.{Kind}
use Rattle.otp_rules.specs.declared.event.Kind.TheVariants as kind
use Rattle.otp_rules.specs.declared.event.Waiting.{Waiting}
use Rattle.otp_rules.specs.declared.event.Waiting.TheVariants as waiting
use Rattle.otp_rules.specs.declared.work.Due.{Due}
use Rattle.otp_rules.specs.declared.work.Sequel.{Sequel}
use Rattle.otp_rules.specs.declared.work.Sequel.TheVariants as sequel
use Rattle.otp_spec.specs.Flags.{is_simple}
use Rattle.otp_rules.specs.Progress.{decided}
use Rattle.otp_rules.specs.State.{Outcome, State, answer, closed, emit, is_busy, is_over, own_number, put_last, with_end, with_phase, with_rows, with_stamps, with_waiting, with_work}
use Rattle.otp_rules.specs.Places.{at_place, at_found, at_row, at_number, end_row, end_process, is_removed, set_row}
use Rattle.otp_rules.specs.Restarts.{affected_from, affected_to, ends_by_significance, is_restarted, running}
use Rattle.otp_rules.specs.Stops.{calm_all, is_exit, stop_order, told, without, tell_row, tell, use_exit, stop_each, terminate_ordered, terminate_together, terminate}
use Rattle.otp_rules.specs.Work.{follow, start_first, stop_first, advance}
use Rattle.otp_rules.specs.Deaths.{restart_rows, restart_or_end, restart, after_end, death, exit_in, take_exit, retry}
use Rattle.otp_rules.specs.Starts.{at_starting, failed_after, if_starting, is_due, start, start_row, take_failed, take_ignored, take_up, up_after}
use Rattle.otp_rules.specs.Calls.{new_row, refuse, add_child, call_at, call_child, carry_out, fault_at, get_childspec, get_shared, is_named, start_checked, start_child, start_dynamic, start_lawful, start_shared, stop_child, stop_process, take_call, terminate_process, unless_refused}
use Rattle.otp_rules.specs.Step.{if_idle, kill_order, killed, late_number, take_note, ask, take_item, take_waiting, resume, open_with, open_rows, tick, decide, stamped, step_on, step}
use Rattle.otp_rules.specs.declared.event.Effect.{Effect}
use Rattle.otp_rules.specs.declared.event.Effect.TheVariants as effect
use Rattle.otp_rules.specs.declared.work.Phase.TheVariants.{Ended}
use Rattle.otp_rules.specs.Ends.{sup_end_of, refusal, refused, refuse_all, end_all}
use Rattle.otp_rules.specs.Counts.{counts_of, which_of}
use Rattle.otp_rules.specs.Frames.{OrdersAppended}
use Rattle.otp_window.specs.Period.{in_period}
use Rattle.otp_rules.specs.Cuts.{Earlier, older, CountsAlike, ShowsAlike, left_of}
use Rattle.otp_rules.specs.declared.call.Answered.{Answered}
use Rattle.otp_spec.specs.declared.flags.SupFlags.{SupFlags}
use Rattle.otp_rules.proofs.Steady.{Goes, use_exit-goes}

-- what stands before an outcome: what its state had earlier, and orders
pub record Before : Type 0 where
  pub earlier : Earlier
  pub orders : List Effect

-- the outcome where these stand before its own
abbrev behind : Before → Outcome → Outcome
behind x o = record { state = older x.earlier o.state; orders = x.orders ++ o.orders }

-- more orders come last
added : (xs ys : List Effect) (o : Outcome) → ◌≡◌ {A = Outcome} (record o { orders = (xs ++ o.orders) ++ ys }) (record o { orders = xs ++ (o.orders ++ ys) })
added xs ys o = ap (λ (all : List Effect). record o { orders = all }) (append_assoc xs o.orders ys)

either : (old : Before) (b : Bool) (x' y' x y : Outcome) → x' ≡ behind old x → y' ≡ behind old y → (if b then x' else y') ≡ behind old (if b then x else y)
either old true x' y' x y h k = h
either old false x' y' x y h k = k

-- what a function does at each row
abbrev AtRows : Before → (ℕ → Row → Outcome → Outcome) → Outcome → Type 0
AtRows old f o = (place : ℕ) (row : Row) → f place row (behind old o) ≡ behind old (f place row o)

at_place-behind : (old : Before) (f : ℕ → Row → Outcome → Outcome) (place : ℕ) (row : Option Row) (o : Outcome) → AtRows old f o → at_place f place row (behind old o) ≡ behind old (at_place f place row o)
unfolding at_place
at_place-behind old f place None o h = refl
at_place-behind old f place (Some row) o h = h place row

at_found-behind : (old : Before) (missing' missing : Outcome) (f : ℕ → Row → Outcome → Outcome) (place : Option ℕ) (o : Outcome) → missing' ≡ behind old missing → AtRows old f o → at_found missing' f place (behind old o) ≡ behind old (at_found missing f place o)
unfolding at_found
at_found-behind old missing' missing f None o m h = m
at_found-behind old missing' missing f (Some place) o m h = at_place-behind old f place (slice_get o.state.rows place) o h

at_row-behind : (old : Before) (test : Row → Bool) (missing' missing : Outcome) (f : ℕ → Row → Outcome → Outcome) (o : Outcome) → missing' ≡ behind old missing → AtRows old f o → at_row test missing' f (behind old o) ≡ behind old (at_row test missing f o)
unfolding at_row
at_row-behind old test missing' missing f o m h = at_found-behind old missing' missing f (position test o.state.rows) o m h

at_number-behind : (old : Before) (p : ℕ) (f : ℕ → Row → Outcome → Outcome) (o : Outcome) → AtRows old f o → at_number p f (behind old o) ≡ behind old (at_number p f o)
unfolding at_number
at_number-behind old p f o h = at_row-behind old (row_has (has_process p)) (behind old o) o f o refl h

answer-behind : (old : Before) (c : ℕ) (r : Reply) (o : Outcome) → answer c r (behind old o) ≡ behind old (answer c r o)
unfolding answer
answer-behind old c r o =
    let one : List Answered = record { call = c; reply = r } ∷ [] in
    let more : List Effect = effect.Reply c ∷ [] in
    ap (λ (all : List Answered). record { state = record (older old.earlier o.state) { replies = all }; orders = (old.orders ++ o.orders) ++ more }) (append_assoc old.earlier.replies o.state.replies one)
    ∙ ap (λ (all : List Effect). record { state = record (older old.earlier o.state) { replies = old.earlier.replies ++ (o.state.replies ++ one) }; orders = all }) (append_assoc old.orders o.orders more)

emit-behind : (old : Before) (e : Effect) (o : Outcome) → emit e (behind old o) ≡ behind old (emit e o)
emit-behind old e o = added old.orders (e ∷ []) (record { state = older old.earlier o.state; orders = o.orders })

end_row-behind : (old : Before) (place : ℕ) (row : Row) (o : Outcome) → end_row place row (behind old o) ≡ behind old (end_row place row o)
unfolding end_row
end_row-behind old place row o = either old (is_removed row) _ _ (with_rows (remove o.state.rows place) o) (set_row place row Undefined o) refl refl

end_process-behind : (old : Before) (p : ℕ) (o : Outcome) → end_process p (behind old o) ≡ behind old (end_process p o)
unfolding end_process
end_process-behind old p o = at_number-behind old p end_row o (λ place row. end_row-behind old place row o)

tell_row-behind : (old : Before) (p place : ℕ) (row : Row) (o : Outcome) → tell_row p place row (behind old o) ≡ behind old (tell_row p place row o)
unfolding tell_row
tell_row-behind old p place row o = emit-behind old (stop_order row.id p row.spec.shutdown) (set_row place row (told o.state.last p row.spec.shutdown) o)

tell-behind : (old : Before) (p : ℕ) (o : Outcome) → tell p (behind old o) ≡ behind old (tell p o)
unfolding tell
tell-behind old p o = at_number-behind old p (tell_row p) o (λ place row. tell_row-behind old p place row o)

use_exit-behind : (old : Before) (p : ℕ) (place : Option ℕ) (o : Outcome) → use_exit p place (behind old o) ≡ behind old (use_exit p place o)
unfolding use_exit
use_exit-behind old p place o = end_process-behind old p (with_waiting (without o.state.waiting place) o)

start_row-behind : (old : Before) (due : Due) (n place : ℕ) (row : Row) (o : Outcome) → start_row due n place row (behind old o) ≡ behind old (start_row due n place row o)
unfolding start_row
start_row-behind old due n place row o = refl

start-behind : (old : Before) (due : Due) (n : ℕ) (o : Outcome) → start due n (behind old o) ≡ behind old (start due n o)
unfolding start
start-behind old due n o =
    ap (λ (x : Outcome). emit (effect.Start due.id n) x) (at_row-behind old (is_due due) (behind old o) o (start_row due n) o refl (λ place row. start_row-behind old due n place row o))
    ∙ emit-behind old (effect.Start due.id n) (at_row (is_due due) o (start_row due n) o)

refuse_all-behind : (old : Before) (o : Outcome) → refuse_all (behind old o) ≡ behind old (refuse_all o)
unfolding refuse_all
refuse_all-behind old o =
    let none : State = record (older old.earlier o.state) { waiting = [] } in
    let more : List Effect = filter_map refusal o.state.waiting in
    ap (λ (all : List Answered). record { state = record none { replies = all }; orders = (old.orders ++ o.orders) ++ more }) (append_assoc old.earlier.replies o.state.replies (filter_map refused o.state.waiting))
    ∙ ap (λ (all : List Effect). record { state = record none { replies = old.earlier.replies ++ (o.state.replies ++ filter_map refused o.state.waiting) }; orders = all }) (append_assoc old.orders o.orders more)

abbrev intensity_end : SupFlags → List ℕ → SupEnd
intensity_end flags ts = record { reason = reason.Shutdown; cause = cause.Intensity flags ts }

-- an end shows the same where older restarts aren't among those that it shows
shows_alike : (old : Before) (flags : SupFlags) (stamps : List ℕ) (e : Ending) → ShowsAlike old.earlier flags stamps → sup_end_of flags (old.earlier.stamps ++ stamps) e ≡ sup_end_of flags stamps e
shows_alike old flags stamps ending.Intensity h = ap (λ (ts : List ℕ). intensity_end flags ts) h
shows_alike old flags stamps (ending.Significant p) h = refl
shows_alike old flags stamps ending.Asked h = refl
shows_alike old flags stamps (ending.InitFailed id) h = refl

with_end-behind : (old : Before) (own : ℕ) (end : SupEnd) (e : Ending) (o : Outcome)
    → emit (effect.End end) (with_end own end (with_phase (Ended own e) (with_rows [] (behind old o)))) ≡ behind old (emit (effect.End end) (with_end own end (with_phase (Ended own e) (with_rows [] o))))
with_end-behind old own end e o =
    let ended : State = record (older old.earlier o.state) { rows = []; phase = Ended own e } in
    ap (λ (all : List (ℕ × SupEnd)). record { state = record ended { ends = all }; orders = (old.orders ++ o.orders) ++ effect.End end ∷ [] }) (append_assoc old.earlier.ends o.state.ends ((own, end) ∷ []))
    ∙ ap (λ (all : List Effect). record { state = record ended { ends = old.earlier.ends ++ (o.state.ends ++ (own, end) ∷ []) }; orders = all }) (append_assoc old.orders o.orders (effect.End end ∷ []))

end_all-behind : (old : Before) (e : Ending) (o : Outcome) → ShowsAlike old.earlier o.state.flags o.state.stamps → end_all e (behind old o) ≡ behind old (end_all e o)
unfolding end_all
end_all-behind old e o h =
    let own : ℕ = own_number o.state.phase in
    let end : SupEnd = sup_end_of o.state.flags o.state.stamps e in
    let ended : SupEnd → Outcome → Outcome = λ x y. emit (effect.End x) (with_end own x (with_phase (Ended own e) (with_rows [] y))) in
    ap (λ (x : SupEnd). ended x (refuse_all (closed (behind old o)))) (shows_alike old o.state.flags o.state.stamps e h)
    ∙ ap (λ (y : Outcome). ended end y) (refuse_all-behind old (closed o))
    ∙ with_end-behind old own end e (refuse_all (closed o))

follow-behind : (old : Before) (f : Option Sequel) (o : Outcome) → ShowsAlike old.earlier o.state.flags o.state.stamps → follow f (behind old o) ≡ behind old (follow f o)
unfolding follow
follow-behind old None o h = refl
follow-behind old (Some sequel.Ready) o h = emit-behind old effect.Ready (closed o)
follow-behind old (Some sequel.Nothing) o h = refl
follow-behind old (Some (sequel.Added c)) o h = answer-behind old c reply.OkUndefined (closed o)
follow-behind old (Some (sequel.Restarted c)) o h = answer-behind old c reply.OkUndefined (closed o)
follow-behind old (Some (sequel.Stopped c)) o h = answer-behind old c reply.Ok (closed o)
follow-behind old (Some (sequel.End e)) o h = end_all-behind old e o h

-- what an end shows stays so while work goes on
shows_goes : (old : Before) → Goes (λ o. ShowsAlike old.earlier o.state.flags o.state.stamps)
unfolding answer end_all refuse_all
shows_goes old = record { rows = λ rows o h. h; waiting = λ items o h. h; left = λ ps ds o h. h; told = λ id p s o h. h; started = λ id n o h. h; closes = λ f o is stays h. h; answered = λ c r o h. h; ready = λ o h. h; ended = λ e o is h. h }

start_first-behind : (old : Before) (dues : List Due) (n : ℕ) (o : Outcome) → ShowsAlike old.earlier o.state.flags o.state.stamps → start_first dues n (behind old o) ≡ behind old (start_first dues n o)
unfolding start_first
start_first-behind old [] n o h = follow-behind old o.state.follows o h
start_first-behind old (due ∷ dues) n o h = start-behind old due n (with_work o.state.to_stop dues o.state.follows o)

stop_first-behind : (old : Before) (ps : List ℕ) (n : ℕ) (o : Outcome) → ShowsAlike old.earlier o.state.flags o.state.stamps → stop_first ps n (behind old o) ≡ behind old (stop_first ps n o)
unfolding stop_first
stop_first-behind old [] n o h = start_first-behind old o.state.to_start n o h
stop_first-behind old (p ∷ ps) n o h =
    let place : Option ℕ = position (is_exit p) o.state.waiting in
    let left : Outcome = with_work ps o.state.to_start o.state.follows o in
    let used : Outcome = use_exit p place left in
    either old (is_some place) (stop_first ps n (use_exit p place (behind old left))) (tell p (behind old left)) (stop_first ps n used) (tell p left)
    (ap (λ (x : Outcome). stop_first ps n x) (use_exit-behind old p place left) ∙ stop_first-behind old ps n used (use_exit-goes (λ (y : Outcome). ShowsAlike old.earlier y.state.flags y.state.stamps) (shows_goes old) p place left h))
    (tell-behind old p left)

advance-behind : (old : Before) (n : ℕ) (o : Outcome) → ShowsAlike old.earlier o.state.flags o.state.stamps → advance n (behind old o) ≡ behind old (advance n o)
unfolding advance
advance-behind old n o h =
    let go : Outcome = stop_first o.state.to_stop n o in
    let go' : Outcome = stop_first o.state.to_stop n (behind old o) in
    let awaits : Bool = list_any (row_has is_awaited) o.state.rows in
    either old (is_busy o) (if awaits then behind old o else go') (behind old o) (if awaits then o else go) o
    (either old awaits (behind old o) go' o go refl (stop_first-behind old o.state.to_stop n o h))
    refl

stop_each-behind : (old : Before) (ps : List ℕ) (o : Outcome) → stop_each ps (behind old o) ≡ behind old (stop_each ps o)
unfolding stop_each
stop_each-behind old [] o = refl
stop_each-behind old (p ∷ ps) o =
    let place : Option ℕ = position (is_exit p) o.state.waiting in
    let used : Outcome = use_exit p place o in
    let asked : Outcome = tell p o in
    either old (is_some place) (stop_each ps (use_exit p place (behind old o))) (stop_each ps (tell p (behind old o))) (stop_each ps used) (stop_each ps asked)
    (ap (λ (x : Outcome). stop_each ps x) (use_exit-behind old p place o) ∙ stop_each-behind old ps used)
    (ap (λ (x : Outcome). stop_each ps x) (tell-behind old p o) ∙ stop_each-behind old ps asked)

terminate-behind : (old : Before) (e : Ending) (o : Outcome) → terminate e (behind old o) ≡ behind old (terminate e o)
unfolding terminate terminate_together terminate_ordered
terminate-behind old e o =
    either old (is_simple o.state.flags.strategy) (terminate_together e (behind old o)) (terminate_ordered e (behind old o)) (terminate_together e o) (terminate_ordered e o)
    (stop_each-behind old (running o.state.rows) (calm_all (with_work [] [] (Some (sequel.End e)) o)))
    refl

abbrev CountsNow : Before → Outcome → Type 0
CountsNow old o = nat_lt o.state.flags.intensity (in_period o.state.flags.period (old.earlier.stamps ++ o.state.stamps) o.state.last) ≡ nat_lt o.state.flags.intensity (in_period o.state.flags.period o.state.stamps o.state.last)

either_alike : (old : Before) (c b : Bool) (x' y' x y : Outcome) → c ≡ b → x' ≡ behind old x → y' ≡ behind old y → (if c then x' else y') ≡ behind old (if b then x else y)
either_alike old c b x' y' x y is h k = ap (λ (d : Bool). if d then x' else y') is ∙ either old b x' y' x y h k

restart_or_end-behind : (old : Before) (place k : ℕ) (o : Outcome) → CountsNow old o → restart_or_end place k (behind old o) ≡ behind old (restart_or_end place k o)
unfolding restart_or_end restart_rows
restart_or_end-behind old place k o h =
    let from : ℕ = affected_from o.state.flags.strategy place in
    let to : ℕ = affected_to o.state.flags.strategy place (length o.state.rows) in
    either_alike old (nat_lt o.state.flags.intensity (in_period o.state.flags.period (old.earlier.stamps ++ o.state.stamps) o.state.last)) (nat_lt o.state.flags.intensity (in_period o.state.flags.period o.state.stamps o.state.last))
    (terminate ending.Intensity (behind old o)) (restart_rows from to place k (behind old o))
    (terminate ending.Intensity o) (restart_rows from to place k o)
    h (terminate-behind old ending.Intensity o) refl

restart-behind : (old : Before) (k place : ℕ) (row : Row) (o : Outcome) → CountsAlike old.earlier o.state → restart k place row (behind old o) ≡ behind old (restart k place row o)
unfolding restart
restart-behind old k place row o h =
    let counted : Outcome = with_stamps (o.state.stamps ++ o.state.last ∷ []) (set_row place row Undefined o) in
    ap (λ (ts : List ℕ). restart_or_end place k (with_stamps ts (set_row place row Undefined (behind old o)))) (append_assoc old.earlier.stamps o.state.stamps (o.state.last ∷ []))
    ∙ restart_or_end-behind old place k counted h

after_end-behind : (old : Before) (p : ℕ) (row : Row) (o : Outcome) → after_end p row (behind old o) ≡ behind old (after_end p row o)
unfolding after_end
after_end-behind old p row o =
    either old (ends_by_significance o.state.flags.auto_shutdown row o.state.rows) (terminate (ending.Significant p) (behind old o)) (behind old o) (terminate (ending.Significant p) o) o
    (terminate-behind old (ending.Significant p) o) refl

death-behind : (old : Before) (p : ℕ) (r : Reason) (place : ℕ) (row : Row) (o : Outcome) → CountsAlike old.earlier o.state → death p r place row (behind old o) ≡ behind old (death p r place row o)
unfolding death
death-behind old p r place row o h =
    let ended : Outcome = end_row place row o in
    either old (is_restarted row.spec.restart r) (restart p place row (behind old o)) (after_end p row (end_row place row (behind old o))) (restart p place row o) (after_end p row ended)
    (restart-behind old p place row o h)
    (ap (λ (x : Outcome). after_end p row x) (end_row-behind old place row o) ∙ after_end-behind old p row ended)

exit_in-behind : (old : Before) (p : ℕ) (r : Reason) (place : ℕ) (row : Row) (state : RowState) (o : Outcome) → CountsAlike old.earlier o.state → exit_in p r place row state (behind old o) ≡ behind old (exit_in p r place row state o)
unfolding exit_in
exit_in-behind old p r place row Undefined o h = refl
exit_in-behind old p r place row (Starting _ _) o h = refl
exit_in-behind old p r place row (Up _) o h =
    let last : Waiting = waiting.Item (item.Note (note.Exit p r)) in
    either old (is_busy o) (put_last last (behind old o)) (death p r place row (behind old o)) (put_last last o) (death p r place row o)
    refl (death-behind old p r place row o h)
exit_in-behind old p r place row (Asked _ _) o h = end_row-behind old place row o
exit_in-behind old p r place row (Killed _) o h = end_row-behind old place row o
exit_in-behind old p r place row (Restarting _) o h = refl

take_exit-behind : (old : Before) (p : ℕ) (r : Reason) (o : Outcome) → CountsAlike old.earlier o.state → take_exit p r (behind old o) ≡ behind old (take_exit p r o)
unfolding take_exit
take_exit-behind old p r o h = at_number-behind old p (λ place row. exit_in p r place row row.state) o (λ place row. exit_in-behind old p r place row row.state o h)

retry-behind : (old : Before) (k : ℕ) (o : Outcome) → CountsAlike old.earlier o.state → retry k (behind old o) ≡ behind old (retry k o)
unfolding retry
retry-behind old k o h = at_row-behind old (row_has (awaits_retry k)) (behind old o) o (restart k) o refl (λ place row. restart-behind old k place row o h)

-- what a function does at each row whose start is awaited
abbrev AtStarting : Before → (ℕ → ℕ → Row → Outcome → Outcome) → Outcome → Type 0
AtStarting old f o = (k place : ℕ) (row : Row) → f k place row (behind old o) ≡ behind old (f k place row o)

if_starting-behind : (old : Before) (f : ℕ → ℕ → Row → Outcome → Outcome) (place : ℕ) (row : Row) (state : RowState) (o : Outcome) → AtStarting old f o → if_starting (λ k. f k place row) state (behind old o) ≡ behind old (if_starting (λ k. f k place row) state o)
if_starting-behind old f place row Undefined o h = refl
if_starting-behind old f place row (Starting _ k) o h = h k place row
if_starting-behind old f place row (Up _) o h = refl
if_starting-behind old f place row (Asked _ _) o h = refl
if_starting-behind old f place row (Killed _) o h = refl
if_starting-behind old f place row (Restarting _) o h = refl

at_starting-behind : (old : Before) (p : ℕ) (f : ℕ → ℕ → Row → Outcome → Outcome) (o : Outcome) → AtStarting old f o → at_starting p f (behind old o) ≡ behind old (at_starting p f o)
unfolding at_starting
at_starting-behind old p f o h = at_number-behind old p (λ place row. if_starting (λ k. f k place row) row.state) o (λ place row. if_starting-behind old f place row row.state o h)

up_after-behind : (old : Before) (p : ℕ) (f : Option Sequel) (o : Outcome) → up_after p f (behind old o) ≡ behind old (up_after p f o)
unfolding up_after
up_after-behind old p None o = refl
up_after-behind old p (Some sequel.Ready) o = refl
up_after-behind old p (Some sequel.Nothing) o = refl
up_after-behind old p (Some (sequel.Added c)) o = answer-behind old c (reply.OkProcess p) (closed o)
up_after-behind old p (Some (sequel.Restarted c)) o = answer-behind old c (reply.OkProcess p) (closed o)
up_after-behind old p (Some (sequel.Stopped _)) o = refl
up_after-behind old p (Some (sequel.End _)) o = refl

take_up-behind : (old : Before) (p : ℕ) (o : Outcome) → take_up p (behind old o) ≡ behind old (take_up p o)
unfolding take_up
take_up-behind old p o =
    at_starting-behind old p (λ k place row x. up_after p x.state.follows (set_row place row (Up p) x)) o (λ k place row. up_after-behind old p o.state.follows (set_row place row (Up p) o))

take_ignored-behind : (old : Before) (p : ℕ) (o : Outcome) → take_ignored p (behind old o) ≡ behind old (take_ignored p o)
unfolding take_ignored
take_ignored-behind old p o = at_starting-behind old p (λ k. end_row) o (λ k place row. end_row-behind old place row o)

failed_after-behind : (old : Before) (r : Reason) (k place : ℕ) (row : Row) (f : Option Sequel) (o : Outcome) → failed_after r k place row f (behind old o) ≡ behind old (failed_after r k place row f o)
unfolding failed_after
failed_after-behind old r k place row None o = refl
failed_after-behind old r k place row (Some sequel.Ready) o = terminate-behind old (ending.InitFailed row.spec.id) (set_row place row Undefined o)
failed_after-behind old r k place row (Some sequel.Nothing) o = refl
failed_after-behind old r k place row (Some (sequel.Added c)) o = answer-behind old c (reply.Refused (fault.Start r)) (closed (with_rows (remove o.state.rows place) o))
failed_after-behind old r k place row (Some (sequel.Restarted c)) o = answer-behind old c (reply.Refused (fault.Start r)) (closed (set_row place row Undefined o))
failed_after-behind old r k place row (Some (sequel.Stopped _)) o = refl
failed_after-behind old r k place row (Some (sequel.End _)) o = refl

take_failed-behind : (old : Before) (p : ℕ) (r : Reason) (o : Outcome) → take_failed p r (behind old o) ≡ behind old (take_failed p r o)
unfolding take_failed
take_failed-behind old p r o =
    at_starting-behind old p (λ k place row x. failed_after r k place row x.state.follows x) o (λ k place row. failed_after-behind old r k place row o.state.follows o)

take_note-behind : (old : Before) (x : Note) (o : Outcome) → CountsAlike old.earlier o.state → take_note x (behind old o) ≡ behind old (take_note x o)
unfolding take_note
take_note-behind old (note.Up p) o h = take_up-behind old p o
take_note-behind old (note.Ignored p) o h = take_ignored-behind old p o
take_note-behind old (note.Failed p r) o h = take_failed-behind old p r o
take_note-behind old (note.Exit p r) o h = take_exit-behind old p r o h

refuse-behind : (old : Before) (c : ℕ) (why : CallFault) (o : Outcome) → refuse c why (behind old o) ≡ behind old (refuse c why o)
refuse-behind old c why o = answer-behind old c (reply.Refused why) o

add_child-behind : (old : Before) (c : ℕ) (id : Option Name) (spec : ChildSpec) (o : Outcome) → add_child c id spec (behind old o) ≡ behind old (add_child c id spec o)
unfolding add_child
add_child-behind old c id spec o =
    let fresh : Outcome → Outcome = λ x. with_work [] (record { id = id; kept = None } ∷ []) (Some (sequel.Added c)) (with_rows (o.state.rows ++ new_row (free_slot o.state.rows) id spec ∷ []) x) in
    either old (nat_le MAX_CHILDREN (length o.state.rows)) (refuse c fault.TooManyChildren (behind old o)) (fresh (behind old o)) (refuse c fault.TooManyChildren o) (fresh o)
    (refuse-behind old c fault.TooManyChildren o) refl

unless_refused-behind : (old : Before) (c : ℕ) (why : Option CallFault) (done' done o : Outcome) → done' ≡ behind old done → unless_refused c why done' (behind old o) ≡ behind old (unless_refused c why done o)
unless_refused-behind old c None done' done o h = h
unless_refused-behind old c (Some why) done' done o h = refuse-behind old c why o

stop_child-behind : (old : Before) (c : ℕ) (state : RowState) (gone o : Outcome) → stop_child c state (behind old gone) (behind old o) ≡ behind old (stop_child c state gone o)
unfolding stop_process
stop_child-behind old c Undefined gone o = answer-behind old c reply.Ok gone
stop_child-behind old c (Starting _ _) gone o = refl
stop_child-behind old c (Up _) gone o = refl
stop_child-behind old c (Asked _ _) gone o = refl
stop_child-behind old c (Killed _) gone o = refl
stop_child-behind old c (Restarting _) gone o = answer-behind old c reply.Ok gone

carry_out-behind : (old : Before) (c : ℕ) (x : Call) (place : ℕ) (row : Row) (o : Outcome) → carry_out c x place row (behind old o) ≡ behind old (carry_out c x place row o)
carry_out-behind old c (call.RestartChild _) place row o = refl
carry_out-behind old c (call.DeleteChild _) place row o = answer-behind old c reply.Ok (with_rows (remove o.state.rows place) o)
carry_out-behind old c (call.TerminateChild _) place row o = stop_child-behind old c row.state (set_row place row Undefined o) o
carry_out-behind old c (call.TerminateProcess _) place row o = stop_child-behind old c row.state (with_rows (remove o.state.rows place) o) o
carry_out-behind old c (call.GetChildspec _) place row o = answer-behind old c (reply.Spec row.spec) o
carry_out-behind old c (call.StartChild _) place row o = refl
carry_out-behind old c call.StartDynamic place row o = refl
carry_out-behind old c call.WhichChildren place row o = refl
carry_out-behind old c call.CountChildren place row o = refl

call_at-behind : (old : Before) (c : ℕ) (x : Call) (place : ℕ) (row : Row) (o : Outcome) → call_at c x place row (behind old o) ≡ behind old (call_at c x place row o)
unfolding call_at
call_at-behind old c x place row o =
    unless_refused-behind old c (fault_at x row.state) (carry_out c x place row (behind old o)) (carry_out c x place row o) o (carry_out-behind old c x place row o)

start_lawful-behind : (old : Before) (c : ℕ) (spec : ChildSpec) (o : Outcome) → start_lawful c spec (behind old o) ≡ behind old (start_lawful c spec o)
unfolding start_lawful
start_lawful-behind old c spec o =
    at_row-behind old (has_id spec.id) (add_child c (Some spec.id) spec (behind old o)) (add_child c (Some spec.id) spec o) (call_at c (call.StartChild spec)) o
    (add_child-behind old c (Some spec.id) spec o) (λ place row. call_at-behind old c (call.StartChild spec) place row o)

start_checked-behind : (old : Before) (c : ℕ) (spec : ChildSpec) (why : Option SpecFault) (o : Outcome) → start_checked c spec why (behind old o) ≡ behind old (start_checked c spec why o)
unfolding start_checked
start_checked-behind old c spec None o = start_lawful-behind old c spec o
start_checked-behind old c spec (Some why) o = refuse-behind old c (fault.BadSpec why) o

start_child-behind : (old : Before) (c : ℕ) (spec : ChildSpec) (o : Outcome) → start_child c spec (behind old o) ≡ behind old (start_child c spec o)
unfolding start_child
start_child-behind old c spec o =
    let why : Option SpecFault = first_fault (spec ∷ []) (Some o.state.flags.auto_shutdown) in
    either old (is_simple o.state.flags.strategy) (refuse c fault.SimpleOneForOne (behind old o)) (start_checked c spec why (behind old o)) (refuse c fault.SimpleOneForOne o) (start_checked c spec why o)
    (refuse-behind old c fault.SimpleOneForOne o) (start_checked-behind old c spec why o)

start_shared-behind : (old : Before) (c : ℕ) (spec : Option ChildSpec) (o : Outcome) → start_shared c spec (behind old o) ≡ behind old (start_shared c spec o)
unfolding start_shared
start_shared-behind old c None o = refuse-behind old c fault.NotSimple o
start_shared-behind old c (Some spec) o = add_child-behind old c None spec o

start_dynamic-behind : (old : Before) (c : ℕ) (o : Outcome) → start_dynamic c (behind old o) ≡ behind old (start_dynamic c o)
unfolding start_dynamic
start_dynamic-behind old c o =
    let shared : Option ChildSpec = slice_get o.state.specs 0 in
    either old (is_simple o.state.flags.strategy) (start_shared c shared (behind old o)) (refuse c fault.NotSimple (behind old o)) (start_shared c shared o) (refuse c fault.NotSimple o)
    (start_shared-behind old c shared o) (refuse-behind old c fault.NotSimple o)

call_child-behind : (old : Before) (c : ℕ) (id : Name) (x : Call) (o : Outcome) → call_child c id x (behind old o) ≡ behind old (call_child c id x o)
unfolding call_child
call_child-behind old c id x o =
    either old (is_simple o.state.flags.strategy)
    (refuse c fault.SimpleOneForOne (behind old o)) (at_row (has_id id) (refuse c fault.NotFound (behind old o)) (call_at c x) (behind old o))
    (refuse c fault.SimpleOneForOne o) (at_row (has_id id) (refuse c fault.NotFound o) (call_at c x) o)
    (refuse-behind old c fault.SimpleOneForOne o)
    (at_row-behind old (has_id id) (refuse c fault.NotFound (behind old o)) (refuse c fault.NotFound o) (call_at c x) o (refuse-behind old c fault.NotFound o) (λ place row. call_at-behind old c x place row o))

terminate_process-behind : (old : Before) (c p : ℕ) (o : Outcome) → terminate_process c p (behind old o) ≡ behind old (terminate_process c p o)
unfolding terminate_process
terminate_process-behind old c p o =
    let stop : ℕ → Row → Outcome → Outcome = call_at c (call.TerminateProcess p) in
    either old (is_simple o.state.flags.strategy)
    (at_row (row_has (has_number p)) (refuse c fault.NotFound (behind old o)) stop (behind old o)) (refuse c fault.NotFound (behind old o))
    (at_row (row_has (has_number p)) (refuse c fault.NotFound o) stop o) (refuse c fault.NotFound o)
    (at_row-behind old (row_has (has_number p)) (refuse c fault.NotFound (behind old o)) (refuse c fault.NotFound o) stop o
    (refuse-behind old c fault.NotFound o) (λ place row. call_at-behind old c (call.TerminateProcess p) place row o))
    (refuse-behind old c fault.NotFound o)

get_shared-behind : (old : Before) (c : ℕ) (id : Name) (spec : Option ChildSpec) (o : Outcome) → get_shared c id spec (behind old o) ≡ behind old (get_shared c id spec o)
unfolding get_shared
get_shared-behind old c id None o = refuse-behind old c fault.NotFound o
get_shared-behind old c id (Some spec) o =
    either old (is_named id spec) (answer c (reply.Spec spec) (behind old o)) (refuse c fault.NotFound (behind old o)) (answer c (reply.Spec spec) o) (refuse c fault.NotFound o)
    (answer-behind old c (reply.Spec spec) o) (refuse-behind old c fault.NotFound o)

get_childspec-behind : (old : Before) (c : ℕ) (id : Name) (o : Outcome) → get_childspec c id (behind old o) ≡ behind old (get_childspec c id o)
unfolding get_childspec
get_childspec-behind old c id o =
    let shared : Option ChildSpec = slice_get o.state.specs 0 in
    either old (is_simple o.state.flags.strategy)
    (get_shared c id shared (behind old o)) (at_row (has_id id) (refuse c fault.NotFound (behind old o)) (call_at c (call.GetChildspec id)) (behind old o))
    (get_shared c id shared o) (at_row (has_id id) (refuse c fault.NotFound o) (call_at c (call.GetChildspec id)) o)
    (get_shared-behind old c id shared o)
    (at_row-behind old (has_id id) (refuse c fault.NotFound (behind old o)) (refuse c fault.NotFound o) (call_at c (call.GetChildspec id)) o
    (refuse-behind old c fault.NotFound o) (λ place row. call_at-behind old c (call.GetChildspec id) place row o))

take_call-behind : (old : Before) (c : ℕ) (x : Call) (o : Outcome) → take_call c x (behind old o) ≡ behind old (take_call c x o)
unfolding take_call
take_call-behind old c (call.StartChild spec) o = start_child-behind old c spec o
take_call-behind old c call.StartDynamic o = start_dynamic-behind old c o
take_call-behind old c (call.RestartChild id) o = call_child-behind old c id (call.RestartChild id) o
take_call-behind old c (call.DeleteChild id) o = call_child-behind old c id (call.DeleteChild id) o
take_call-behind old c (call.TerminateChild id) o = call_child-behind old c id (call.TerminateChild id) o
take_call-behind old c (call.TerminateProcess p) o = terminate_process-behind old c p o
take_call-behind old c call.WhichChildren o = answer-behind old c (reply.Which (which_of o.state.rows)) o
take_call-behind old c call.CountChildren o = answer-behind old c (reply.Count (counts_of o.state)) o
take_call-behind old c (call.GetChildspec id) o = get_childspec-behind old c id o

ask-behind : (old : Before) (c : ℕ) (x : Call) (o : Outcome) → ask c x (behind old o) ≡ behind old (ask c x o)
unfolding ask
ask-behind old c x o =
    let last : Waiting = waiting.Item (item.Call c x) in
    either old (is_over o.state.phase) (answer c reply.NoProc (behind old o)) (if is_busy o then put_last last (behind old o) else take_call c x (behind old o))
    (answer c reply.NoProc o) (if is_busy o then put_last last o else take_call c x o)
    (answer-behind old c reply.NoProc o)
    (either old (is_busy o) (put_last last (behind old o)) (take_call c x (behind old o)) (put_last last o) (take_call c x o) refl (take_call-behind old c x o))

take_item-behind : (old : Before) (x : Item) (o : Outcome) → CountsAlike old.earlier o.state → take_item x (behind old o) ≡ behind old (take_item x o)
unfolding take_item
take_item-behind old (item.Note x) o h = either old (is_over o.state.phase) (behind old o) (take_note x (behind old o)) o (take_note x o) refl (take_note-behind old x o h)
take_item-behind old (item.Call c x) o h = ask-behind old c x o

take_waiting-behind : (old : Before) (x : Waiting) (o : Outcome) → CountsAlike old.earlier o.state → take_waiting x (behind old o) ≡ behind old (take_waiting x o)
unfolding take_waiting
take_waiting-behind old (waiting.Item x) o h = take_item-behind old x o h
take_waiting-behind old (waiting.Retry k) o h = retry-behind old k o h

resume-behind : (old : Before) (ws : List Waiting) (o : Outcome) → CountsAlike old.earlier o.state → resume ws (behind old o) ≡ behind old (resume ws o)
unfolding resume
resume-behind old [] o h = refl
resume-behind old (w ∷ ws) o h = take_waiting-behind old w (with_waiting ws o) h

open_rows-behind : (old : Before) (own : ℕ) (o : Outcome) → open_rows own (behind old o) ≡ behind (record old { earlier = record old.earlier { stamps = [] } }) (open_rows own o)
unfolding open_rows open_with
open_rows-behind old own o = refl

tick-behind : (old : Before) (o : Outcome) → tick (behind old o) ≡ behind old (tick o)
unfolding tick
tick-behind old o =
    added old.orders (filter_map (λ (row : Row). kill_order row (late_number o.state.last row.state)) o.state.rows)
    (record { state = record (older old.earlier o.state) { rows = map (λ (row : Row). killed row (late_number o.state.last row.state)) o.state.rows }; orders = o.orders })

if_idle-behind : (old : Before) (done' done o : Outcome) → done' ≡ behind old done → if_idle done' (behind old o) ≡ behind old (if_idle done o)
if_idle-behind old done' done o h =
    either old (is_busy o) (behind old o) (if is_over o.state.phase then behind old o else done') o (if is_over o.state.phase then o else done)
    refl (either old (is_over o.state.phase) (behind old o) done' o done refl h)

-- what stands before, once the event was decided: without the restarts, where it opens the supervisor
abbrev before_left : Before → Kind → State → Before
before_left old k s = record old { earlier = left_of old.earlier k s }

opened-behind : (old : Before) (own : ℕ) (over : Bool) (o : Outcome)
    → (if over then open_rows own (behind old o) else behind old o) ≡ behind (record old { earlier = if over then record old.earlier { stamps = [] } else old.earlier }) (if over then open_rows own o else o)
opened-behind old own true o = open_rows-behind old own o
opened-behind old own false o = refl

decide-behind : (old : Before) (k : Kind) (o : Outcome) → CountsAlike old.earlier o.state → decide k (behind old o) ≡ behind (before_left old k o.state) (decide k o)
unfolding decide
decide-behind old (kind.Opened own) o h = opened-behind old own (is_over o.state.phase) o
decide-behind old (kind.Took x) o h = take_item-behind old x o h
decide-behind old kind.Resumed o h = if_idle-behind old (resume o.state.waiting (behind old o)) (resume o.state.waiting o) o (resume-behind old o.state.waiting o h)
decide-behind old kind.Ticked o h = tick-behind old o
decide-behind old kind.Stopped o h = if_idle-behind old (terminate ending.Asked (behind old o)) (terminate ending.Asked o) o (terminate-behind old ending.Asked o)

left-stamped : (x : Earlier) (k : Kind) (reading : ℕ) (s : State) → left_of x k (stamped reading s) ≡ left_of x k s
left-stamped x (kind.Opened own) reading s = refl
left-stamped x (kind.Took i) reading s = refl
left-stamped x kind.Resumed reading s = refl
left-stamped x kind.Ticked reading s = refl
left-stamped x kind.Stopped reading s = refl

step_on-behind : (old : Before) (e : Event) (o : Outcome) → CountsAlike old.earlier (stamped e.reading o.state)
    → ShowsAlike (left_of old.earlier e.kind o.state) (decide e.kind (record { state = stamped e.reading o.state; orders = o.orders })).state.flags (decide e.kind (record { state = stamped e.reading o.state; orders = o.orders })).state.stamps
    → step_on e (behind old o) ≡ behind (before_left old e.kind o.state) (step_on e o)
unfolding step_on
step_on-behind old e o h k =
    let n : ℕ = unwrap_or e.number 0 in
    let before : Outcome = record { state = stamped e.reading o.state; orders = o.orders } in
    ap (λ (x : Outcome). advance n x) (decide-behind old e.kind before h)
    ∙ ap (λ (x : Earlier). advance n (behind (record old { earlier = x }) (decide e.kind before))) (left-stamped old.earlier e.kind e.reading o.state)
    ∙ advance-behind (before_left old e.kind o.state) n (decide e.kind before) k

-- a step does the same where these stand before its state
pub step-behind : (x : Earlier) (s : State) (e : Event) → CountsAlike x (stamped e.reading s) → ShowsAlike (left_of x e.kind s) (decided s e).flags (decided s e).stamps
    → step (older x s) e ≡ record { state = older (left_of x e.kind s) (step s e).state; orders = (step s e).orders }
unfolding step
step-behind x s e h k = step_on-behind (record { earlier = x; orders = [] }) e (record { state = s; orders = [] }) h k

-- orders alone
abbrev given : List Effect → Before
given xs = record { earlier = record { stamps = []; replies = []; ends = [] }; orders = xs }

none_left : (b : Bool) (xs : List Effect) → ◌≡◌ {A = Before} (record (given xs) { earlier = if b then (given xs).earlier else (given xs).earlier }) (given xs)
none_left true xs = refl
none_left false xs = refl

stays_given : (xs : List Effect) (k : Kind) (s : State) → before_left (given xs) k s ≡ given xs
stays_given xs (kind.Opened own) s = none_left (is_over s.phase) xs
stays_given xs (kind.Took x) s = refl
stays_given xs kind.Resumed s = refl
stays_given xs kind.Ticked s = refl
stays_given xs kind.Stopped s = refl

shown_given : (xs : List Effect) (e : Event) (s : State) → ShowsAlike (left_of (given xs).earlier e.kind s) (decided s e).flags (decided s e).stamps
shown_given xs e s =
    let Says : Before → Type 0 = λ b. ShowsAlike b.earlier (decided s e).flags (decided s e).stamps in
    subst Says (sym (stays_given xs e.kind s)) refl

-- more orders were given before
pub decide-appended : (xs : List Effect) (k : Kind) (o : Outcome) → decide k (record o { orders = xs ++ o.orders }) ≡ record (decide k o) { orders = xs ++ (decide k o).orders }
decide-appended xs k o = decide-behind (given xs) k o refl ∙ ap (λ (b : Before). behind b (decide k o)) (stays_given xs k o.state)

pub orders_appended_law : OrdersAppended
unfolding step
orders_appended_law e o =
    let none : Outcome = record { state = o.state; orders = [] } in
    ap (λ (xs : List Effect). step_on e (record { state = o.state; orders = xs })) (sym (append-nil o.orders))
    ∙ step_on-behind (given o.orders) e none refl (shown_given o.orders e o.state)
    ∙ ap (λ (b : Before). behind b (step_on e none)) (stays_given o.orders e.kind o.state)
