-- What every decision of the rules keeps: a property of outcomes is kept where each kind of change keeps it.
-- The proofs of the laws say what each kind of change does; this file walks through the rules once for all of them.
use Rattle.std.specs.Prelude.{◌≡◌, ◌⊎◌, ℕ, ◌==◌, ◌++◌, Bool, true, false, List, [], ◌∷◌, Option, None, Some, refl, if◌then◌else◌, not, position, is_some, slice_get, nat_le, length, remove}
use Rattle.std.proofs.Common.{◌∙◌, ap, sym, subst, inl, inr, ⊎_elim, rules}
use Rattle.std.proofs.lemmas.Bool.{false≢true, eqb-true, cond_both}
use Rattle.std.proofs.lemmas.List.Quantifiers.{position-Some}
use Rattle.std.proofs.lemmas.Option.{get_or_from_slice_get}
use Rattle.otp_reason.specs.declared.name.Name.{Name}
use Rattle.otp_reason.specs.declared.reason.Reason.{Reason}
use Rattle.otp_reason.specs.declared.note.Note.{Note}
use Rattle.otp_reason.specs.declared.note.Note.TheVariants as note
use Rattle.otp_spec.specs.declared.child.ChildSpec.{ChildSpec}
use Rattle.otp_spec.specs.declared.fault.SpecFault.{SpecFault}
use Rattle.otp_spec.specs.Lawful.{first_fault}
use Rattle.otp_spec.specs.declared.limits.TheConstants.{MAX_CHILDREN}
use Rattle.otp_table.specs.declared.row.Row.{Row}
use Rattle.otp_table.specs.declared.row.RowState.{RowState}
use Rattle.otp_table.specs.declared.row.RowState.TheVariants.{Undefined, Starting, Up, Asked, Killed, Restarting}
use Rattle.otp_table.specs.Rows.{awaits_retry, has_id, has_number, has_process, is_awaited, row_has, free_slot}
use Rattle.otp_rules.specs.declared.call.Call.{Call}
use Rattle.otp_rules.specs.declared.call.Call.TheVariants as call
use Rattle.otp_rules.specs.declared.ending.Ending.{Ending}
use Rattle.otp_rules.specs.declared.ending.Ending.TheVariants as ending
use Rattle.otp_rules.specs.declared.event.Item.{Item}
use Rattle.otp_rules.specs.declared.event.Item.TheVariants as item
use Rattle.otp_rules.specs.declared.event.Kind.{Kind}
use Rattle.otp_rules.specs.declared.event.Kind.TheVariants as kind
use Rattle.otp_rules.specs.declared.event.Waiting.{Waiting}
use Rattle.otp_rules.specs.declared.event.Waiting.TheVariants as waiting
use Rattle.otp_spec.specs.declared.flags.SupFlags.{SupFlags}
use Rattle.otp_rules.specs.declared.work.Phase.{Phase}
use Rattle.otp_rules.specs.declared.work.Sequel.{Sequel}
use Rattle.otp_rules.specs.declared.work.Sequel.TheVariants as sequel
use Rattle.otp_rules.specs.declared.call.Reply.{Reply}
use Rattle.otp_rules.specs.declared.call.Reply.TheVariants as reply
use Rattle.otp_rules.specs.declared.call.CallFault.{CallFault}
use Rattle.otp_rules.specs.declared.call.CallFault.TheVariants as fault
use Rattle.otp_rules.specs.Counts.{counts_of, which_of}
use Rattle.otp_spec.specs.Flags.{is_simple}
use Rattle.otp_rules.specs.State.{closed, put_last, Outcome, answer, is_busy, is_over, with_rows, with_waiting, with_work}
use Rattle.otp_rules.specs.Places.{at_place, at_found, at_row, at_number, end_row, is_removed, set_row}
use Rattle.otp_rules.specs.Restarts.{ends_by_significance, is_restarted}
use Rattle.otp_rules.specs.Stops.{terminate}
use Rattle.otp_rules.specs.Deaths.{restart, after_end, death, exit_in, take_exit, retry}
use Rattle.otp_rules.specs.Starts.{at_starting, failed_after, if_starting, take_failed, take_ignored, take_up, up_after}
use Rattle.otp_rules.specs.Calls.{new_row, add_child, call_at, call_child, carry_out, fault_at, get_childspec, get_shared, is_named, start_checked, start_child, start_dynamic, start_lawful, start_shared, stop_child, stop_process, take_call, terminate_process, unless_refused}
use Rattle.otp_rules.specs.Homes.{Brings, IsFirst, is_start_call}
use Rattle.otp_rules.specs.Step.{take_note, ask, take_item, take_waiting, resume, open_rows, tick, decide}
use Rattle.otp_rules.specs.Fit.{is_told}
use Rattle.otp_rules.specs.Progress.{process_number, AsksForChild}

-- no work is open, nor was any when the event came
abbrev pub IsIdle : Bool → Outcome → Type 0
IsIdle b o = (b ≡ false) × (is_busy o ≡ false)

abbrev pub IsRunning : Outcome → Type 0
IsRunning o = is_over o.state.phase ≡ false

-- the row stands at the place
abbrev pub StandsAt : ℕ → Row → Outcome → Type 0
StandsAt place row o = slice_get o.state.rows place ≡ Some row

-- the event brings the note, or no work is open
abbrev pub IsNoted : Kind → Bool → Note → Outcome → Type 0
IsNoted k b x o = (k ≡ kind.Took (item.Note x)) ⊎ IsIdle b o

-- nothing runs in the row: its child is undefined or waits for a retry
abbrev pub is_down : RowState → Bool
is_down Undefined = true
is_down (Starting _ _) = false
is_down (Up _) = false
is_down (Asked _ _) = false
is_down (Killed _) = false
is_down (Restarting _) = true

-- nothing has moved since the event came, but for what waits
abbrev pub IsUnmoved : Outcome → Outcome → Type 0
IsUnmoved old o = o ≡ with_waiting o.state.waiting old

-- no work is open, or what follows it is what followed it before
abbrev pub OpensNothing : Outcome → Outcome → Type 0
OpensNothing old o = (is_busy o ≡ false) ⊎ (o.state.follows ≡ old.state.follows)

-- the row at the place is the first that passes the test
abbrev pub IsFirstAt : (Row → Bool) → ℕ → Outcome → Type 0
IsFirstAt test place o = position test o.state.rows ≡ Some place

-- the event brings the note that the start of this process failed
abbrev pub BringsFailure : (Item → Type 0) → ℕ → Type 0
BringsFailure G q = (r : Reason) × G (item.Note (note.Failed q r))

-- or that it ended
abbrev pub BringsExit : (Item → Type 0) → ℕ → Type 0
BringsExit G q = (r : Reason) × G (item.Note (note.Exit q r))

-- the event brings a call that asks for a child with this id and specification
abbrev pub BringsStart : (Item → Type 0) → ℕ → Option Name → ChildSpec → Outcome → Type 0
BringsStart G c id spec o = (x : Call) × (is_start_call x ≡ true) × G (item.Call c x) × AsksForChild x o.state.specs (new_row (free_slot o.state.rows) id spec)

-- or one to terminate the child in the row at the place
abbrev pub BringsStop : (Item → Type 0) → ℕ → ℕ → Outcome → Type 0
BringsStop G c place o =
    ((id : Name) × G (item.Call c (call.TerminateChild id)) × IsFirstAt (has_id id) place o)
    ⊎ ((p : ℕ) × G (item.Call c (call.TerminateProcess p)) × IsFirstAt (row_has (has_number p)) place o)

-- a process ends by itself, of the first row that has it
abbrev pub Dies : (Item → Type 0) → ℕ → ℕ → Row → Outcome → Bool → Type 0
Dies G p place row o back = (row.state ≡ Up p) × ((r : Reason) × G (item.Note (note.Exit p r)) × IsFirstAt (row_has (has_process p)) place o × (is_restarted row.spec.restart r ≡ back))

-- the retry that the event takes is tried, of the first row that waits for it
abbrev pub TriesAgain : Kind → Outcome → ℕ → ℕ → Row → Outcome → Type 0
TriesAgain k old p place row o = (row.state ≡ Restarting p) × (k ≡ kind.Resumed) × (slice_get old.state.waiting 0 ≡ Some (waiting.Retry p)) × IsFirstAt (row_has (awaits_retry p)) place o

-- why the supervisor ends where no work was open, but for restarts: the parent asked, or the child in a row was significant
abbrev pub EndsFor : Kind → (Item → Type 0) → Outcome → Ending → Outcome → Type 0
EndsFor k G old ending.Asked o = (k ≡ kind.Stopped) × (o ≡ old)
EndsFor k G old (ending.Significant p) o =
    (place : ℕ) × (row : Row) × (before : Outcome) × IsUnmoved old before × StandsAt place row before × Dies G p place row before false
    × (ends_by_significance old.state.flags.auto_shutdown row o.state.rows ≡ true) × (o ≡ end_row place row before)
EndsFor k G old _ o = ⊥

-- each kind of change that an event may decide on keeps the property; G holds of each item that the event brings,
-- and old is the outcome that it came to. All orders but answers to calls come with the last change.
pub record SurvivesEvent (k : Kind) (G : Item → Type 0) (old : Outcome) (P : Outcome → Type 0) : Type 0 where
  pub answered : (c : ℕ) (r : Reply) (o : Outcome) → OpensNothing old o → P o → P (answer c r o)
  pub taken : (w : Waiting) (ws : List Waiting) → k ≡ kind.Resumed → IsIdle (is_busy old) old → IsRunning old → old.state.waiting ≡ w ∷ ws → P old → P (with_waiting ws old)
  pub call_waits : (c : ℕ) (x : Call) (o : Outcome) → IsUnmoved old o → is_busy o ≡ true → G (item.Call c x) → P o → P (put_last (waiting.Item (item.Call c x)) o)
  pub exit_waits : (p : ℕ) (r : Reason) (place : ℕ) (row : Row) (o : Outcome) → IsUnmoved old o → StandsAt place row o → has_process p row.state ≡ true → G (item.Note (note.Exit p r)) → P o → P (put_last (waiting.Item (item.Note (note.Exit p r))) o)
  -- answers to a start
  pub up : (p place : ℕ) (row : Row) (q kept : ℕ) (o : Outcome) → IsUnmoved old o → StandsAt place row o → row.state ≡ Starting q kept → (q == p) ≡ true → G (item.Note (note.Up p)) → P o → P (set_row place row (Up p) o)
  pub up_closed : (p place : ℕ) (row : Row) (q kept c : ℕ) (o : Outcome) → IsUnmoved old o → StandsAt place row o → row.state ≡ Starting q kept → (q == p) ≡ true → (o.state.follows ≡ Some (sequel.Added c)) ⊎ (o.state.follows ≡ Some (sequel.Restarted c)) → G (item.Note (note.Up p)) → P o → P (closed (set_row place row (Up p) o))
  pub ignored : (p place : ℕ) (row : Row) (q kept : ℕ) (o : Outcome) → IsUnmoved old o → StandsAt place row o → row.state ≡ Starting q kept → (q == p) ≡ true → G (item.Note (note.Ignored p)) → P o → P (end_row place row o)
  pub opening_failed : (place : ℕ) (row : Row) (q kept : ℕ) (o : Outcome) → IsUnmoved old o → IsRunning o → StandsAt place row o → row.state ≡ Starting q kept → o.state.follows ≡ Some sequel.Ready → BringsFailure G q → P o → P (terminate (ending.InitFailed row.spec.id) (set_row place row Undefined o))
  pub restart_failed : (place : ℕ) (row : Row) (q kept : ℕ) (o : Outcome) → IsUnmoved old o → StandsAt place row o → row.state ≡ Starting q kept → o.state.follows ≡ Some sequel.Nothing → BringsFailure G q → P o → P (closed (put_last (waiting.Retry kept) (set_row place row (Restarting kept) o)))
  pub added_failed : (place : ℕ) (row : Row) (q kept c : ℕ) (o : Outcome) → IsUnmoved old o → StandsAt place row o → row.state ≡ Starting q kept → o.state.follows ≡ Some (sequel.Added c) → BringsFailure G q → P o → P (closed (with_rows (remove o.state.rows place) o))
  pub restarted_failed : (place : ℕ) (row : Row) (q kept c : ℕ) (o : Outcome) → IsUnmoved old o → StandsAt place row o → row.state ≡ Starting q kept → o.state.follows ≡ Some (sequel.Restarted c) → BringsFailure G q → P o → P (closed (set_row place row Undefined o))
  -- ends
  pub stopped : (p : ℕ) (r : Reason) (place : ℕ) (row : Row) (o : Outcome) → IsUnmoved old o → StandsAt place row o → is_told p row.state ≡ true → G (item.Note (note.Exit p r)) → P o → P (end_row place row o)
  pub died : (p place : ℕ) (row : Row) (o : Outcome) → IsUnmoved old o → IsIdle (is_busy old) o → IsRunning o → StandsAt place row o → row.state ≡ Up p → BringsExit G p → P o → P (end_row place row o)
  pub restarts : (p place : ℕ) (row : Row) (o : Outcome) → IsUnmoved old o → IsIdle (is_busy old) o → IsRunning o → StandsAt place row o → Dies G p place row o true ⊎ TriesAgain k old p place row o → P o → P (restart p place row o)
  pub ends : (e : Ending) (o : Outcome) → EndsFor k G old e o → (e ≡ ending.Intensity → ⊥) → IsIdle (is_busy old) o → IsRunning o → P o → P (terminate e o)
  pub ticks : k ≡ kind.Ticked → P old → P (tick old)
  pub opens : (own : ℕ) → k ≡ kind.Opened own → is_over old.state.phase ≡ true → P old → P (open_rows own old)
  -- calls
  pub adds : (c : ℕ) (id : Option Name) (spec : ChildSpec) (o : Outcome) → IsUnmoved old o → IsIdle (is_busy old) o → IsRunning o → is_some id ≡ not (is_simple o.state.flags.strategy) → nat_le MAX_CHILDREN (length o.state.rows) ≡ false → BringsStart G c id spec o → P o → P (with_work [] (record { id = id; kept = None } ∷ []) (Some (sequel.Added c)) (with_rows (o.state.rows ++ new_row (free_slot o.state.rows) id spec ∷ []) o))
  pub starts_again : (c : ℕ) (id : Name) (place : ℕ) (row : Row) (o : Outcome) → IsUnmoved old o → IsIdle (is_busy old) o → IsRunning o → StandsAt place row o → has_id id row ≡ true → row.state ≡ Undefined → G (item.Call c (call.RestartChild id)) → IsFirstAt (has_id id) place o → P o → P (with_work [] (record { id = Some id; kept = None } ∷ []) (Some (sequel.Restarted c)) o)
  pub removed : (place : ℕ) (row : Row) (o : Outcome) → IsUnmoved old o → IsIdle (is_busy old) o → IsRunning o → StandsAt place row o → is_down row.state ≡ true → P o → P (with_rows (remove o.state.rows place) o)
  pub given_up : (place : ℕ) (row : Row) (o : Outcome) → IsUnmoved old o → IsIdle (is_busy old) o → IsRunning o → StandsAt place row o → is_down row.state ≡ true → P o → P (set_row place row Undefined o)
  pub stops_child : (c p place : ℕ) (row : Row) (o : Outcome) → IsUnmoved old o → IsIdle (is_busy old) o → IsRunning o → StandsAt place row o → (is_awaited row.state ≡ true) ⊎ (row.state ≡ Up p) → process_number row.state ≡ Some p → BringsStop G c place o → P o → P (with_work (p ∷ []) [] (Some (sequel.Stopped c)) o)

-- the same, for a property that needs less: the kind of the event, and whether work was open when it came
pub record Survives (k : Kind) (b : Bool) (P : Outcome → Type 0) : Type 0 where
  pub answered : (c : ℕ) (r : Reply) (o : Outcome) → P o → P (answer c r o)
  pub taken : (x : Waiting) (xs : List Waiting) (o : Outcome) → IsIdle b o → IsRunning o → o.state.waiting ≡ x ∷ xs → P o → P (with_waiting xs o)
  pub call_waits : (c : ℕ) (x : Call) (o : Outcome) → P o → P (put_last (waiting.Item (item.Call c x)) o)
  pub exit_waits : (p : ℕ) (r : Reason) (o : Outcome) → IsNoted k b (note.Exit p r) o → P o → P (put_last (waiting.Item (item.Note (note.Exit p r))) o)
  -- answers to a start
  pub up : (p place : ℕ) (row : Row) (q kept : ℕ) (o : Outcome) → StandsAt place row o → row.state ≡ Starting q kept → (q == p) ≡ true → IsNoted k b (note.Up p) o → P o → P (set_row place row (Up p) o)
  pub up_closed : (p place : ℕ) (row : Row) (q kept c : ℕ) (o : Outcome) → StandsAt place row o → row.state ≡ Starting q kept → (q == p) ≡ true → (o.state.follows ≡ Some (sequel.Added c)) ⊎ (o.state.follows ≡ Some (sequel.Restarted c)) → P o → P (closed (set_row place row (Up p) o))
  pub ignored : (p place : ℕ) (row : Row) (q kept : ℕ) (o : Outcome) → StandsAt place row o → row.state ≡ Starting q kept → (q == p) ≡ true → IsNoted k b (note.Ignored p) o → P o → P (end_row place row o)
  pub opening_failed : (place : ℕ) (row : Row) (q kept : ℕ) (o : Outcome) → IsRunning o → StandsAt place row o → row.state ≡ Starting q kept → o.state.follows ≡ Some sequel.Ready → P o → P (terminate (ending.InitFailed row.spec.id) (set_row place row Undefined o))
  pub restart_failed : (place : ℕ) (row : Row) (q kept : ℕ) (o : Outcome) → StandsAt place row o → row.state ≡ Starting q kept → o.state.follows ≡ Some sequel.Nothing → P o → P (closed (put_last (waiting.Retry kept) (set_row place row (Restarting kept) o)))
  pub added_failed : (place : ℕ) (row : Row) (q kept c : ℕ) (o : Outcome) → StandsAt place row o → row.state ≡ Starting q kept → o.state.follows ≡ Some (sequel.Added c) → P o → P (closed (with_rows (remove o.state.rows place) o))
  pub restarted_failed : (place : ℕ) (row : Row) (q kept c : ℕ) (o : Outcome) → StandsAt place row o → row.state ≡ Starting q kept → o.state.follows ≡ Some (sequel.Restarted c) → P o → P (closed (set_row place row Undefined o))
  -- ends
  pub stopped : (p : ℕ) (r : Reason) (place : ℕ) (row : Row) (o : Outcome) → StandsAt place row o → is_told p row.state ≡ true → IsNoted k b (note.Exit p r) o → P o → P (end_row place row o)
  pub died : (p place : ℕ) (row : Row) (o : Outcome) → IsIdle b o → IsRunning o → StandsAt place row o → row.state ≡ Up p → P o → P (end_row place row o)
  pub restarts : (p place : ℕ) (row : Row) (o : Outcome) → IsIdle b o → IsRunning o → StandsAt place row o → (row.state ≡ Up p) ⊎ (row.state ≡ Restarting p) → P o → P (restart p place row o)
  pub ends : (e : Ending) (o : Outcome) → (e ≡ ending.Intensity → ⊥) → IsIdle b o → IsRunning o → P o → P (terminate e o)
  pub ticks : (o : Outcome) → k ≡ kind.Ticked → P o → P (tick o)
  pub opens : (own : ℕ) (o : Outcome) → k ≡ kind.Opened own → is_busy o ≡ b → is_over o.state.phase ≡ true → P o → P (open_rows own o)
  -- calls
  pub adds : (c : ℕ) (id : Option Name) (spec : ChildSpec) (o : Outcome) → IsIdle b o → IsRunning o → is_some id ≡ not (is_simple o.state.flags.strategy) → P o → P (with_work [] (record { id = id; kept = None } ∷ []) (Some (sequel.Added c)) (with_rows (o.state.rows ++ new_row (free_slot o.state.rows) id spec ∷ []) o))
  pub starts_again : (c : ℕ) (id : Name) (place : ℕ) (row : Row) (o : Outcome) → IsIdle b o → IsRunning o → StandsAt place row o → has_id id row ≡ true → row.state ≡ Undefined → P o → P (with_work [] (record { id = Some id; kept = None } ∷ []) (Some (sequel.Restarted c)) o)
  pub removed : (place : ℕ) (row : Row) (o : Outcome) → IsIdle b o → IsRunning o → StandsAt place row o → is_down row.state ≡ true → P o → P (with_rows (remove o.state.rows place) o)
  pub given_up : (place : ℕ) (row : Row) (o : Outcome) → IsIdle b o → IsRunning o → StandsAt place row o → is_down row.state ≡ true → P o → P (set_row place row Undefined o)
  pub stops_child : (c p place : ℕ) (row : Row) (o : Outcome) → IsIdle b o → IsRunning o → StandsAt place row o → (is_awaited row.state ≡ true) ⊎ (row.state ≡ Up p) → P o → P (with_work (p ∷ []) [] (Some (sequel.Stopped c)) o)

-- either branch, each where its test says so
pub by_test : (P : Outcome → Type 0) (b : Bool) (x y : Outcome) → (b ≡ true → P x) → (b ≡ false → P y) → P (if b then x else y)
by_test P b x y h k = cond_both b x y P h k

-- what a function makes of a row that passes the test
abbrev pub AtPassing : (Outcome → Type 0) → (Row → Bool) → (ℕ → Row → Outcome → Outcome) → Outcome → Type 0
AtPassing P test f o = (place : ℕ) (row : Row) → StandsAt place row o → test row ≡ true → P (f place row o)

-- and of the first that does
abbrev pub AtFirst : (Outcome → Type 0) → (Row → Bool) → (ℕ → Row → Outcome → Outcome) → Outcome → Type 0
AtFirst P test f o = (place : ℕ) (row : Row) → StandsAt place row o → position test o.state.rows ≡ Some place → P (f place row o)

at_place-finds : (P : Outcome → Type 0) (test : Row → Bool) (f : ℕ → Row → Outcome → Outcome) (place : ℕ) (row : Option Row) (o : Outcome) → slice_get o.state.rows place ≡ row → position test o.state.rows ≡ Some place → P o → AtFirst P test f o → P (at_place f place row o)
unfolding at_place
at_place-finds P test f place None o e found p h = p
at_place-finds P test f place (Some row) o e found p h = h place row e found

at_found-finds : (P : Outcome → Type 0) (test : Row → Bool) (missing : Outcome) (f : ℕ → Row → Outcome → Outcome) (place : Option ℕ) (o : Outcome) → position test o.state.rows ≡ place → P missing → P o → AtFirst P test f o → P (at_found missing f place o)
unfolding at_found
at_found-finds P test missing f None o found m p h = m
at_found-finds P test missing f (Some place) o found m p h = at_place-finds P test f place (slice_get o.state.rows place) o refl found p h

pub at_row-finds : (P : Outcome → Type 0) (test : Row → Bool) (missing : Outcome) (f : ℕ → Row → Outcome → Outcome) (o : Outcome) → P missing → P o → AtFirst P test f o → P (at_row test missing f o)
unfolding at_row
at_row-finds P test missing f o m p h = at_found-finds P test missing f (position test o.state.rows) o refl m p h

-- the first that passes does pass
pub first_passes : (test : Row → Bool) (place : ℕ) (row : Row) (o : Outcome) → IsFirstAt test place o → StandsAt place row o → test row ≡ true
first_passes test place row o found at = ap (λ (r : Row). test r) (sym (get_or_from_slice_get o.state.rows place row row at)) ∙ (position-Some test o.state.rows place row found).1

pub at_row-survives : (P : Outcome → Type 0) (test : Row → Bool) (missing : Outcome) (f : ℕ → Row → Outcome → Outcome) (o : Outcome) → P missing → P o → AtPassing P test f o → P (at_row test missing f o)
at_row-survives P test missing f o m p h =
    at_row-finds P test missing f o m p
    (λ place row at found. h place row at (first_passes test place row o found at))

pub at_number-survives : (P : Outcome → Type 0) (p : ℕ) (f : ℕ → Row → Outcome → Outcome) (o : Outcome) → P o → AtPassing P (row_has (has_process p)) f o → P (at_number p f o)
unfolding at_number
at_number-survives P p f o x h = at_row-survives P (row_has (has_process p)) o f o x x h

-- nothing has moved: the same orders, and as much work
pub same_orders : (old o : Outcome) → IsUnmoved old o → o.orders ≡ old.orders
same_orders old o u = ap (λ (x : Outcome). x.orders) u

pub same_work : (old o : Outcome) → IsUnmoved old o → is_busy o ≡ is_busy old
same_work old o u = ap (λ (x : Outcome). is_busy x) u

-- a row's end opens no work, ends no supervisor and gives no order
abbrev end_of : ℕ → Row → Bool → Outcome → Outcome
end_of place row b o = if b then with_rows (remove o.state.rows place) o else set_row place row Undefined o

end_of-same : (place : ℕ) (row : Row) (b : Bool) (o : Outcome) → (let new : Outcome = end_of place row b o in (new.orders ≡ o.orders) × (is_busy new ≡ is_busy o) × (new.state.phase ≡ o.state.phase) × (new.state.flags ≡ o.state.flags))
end_of-same place row true o = (refl, refl, refl, refl)
end_of-same place row false o = (refl, refl, refl, refl)

pub end_row-same : (place : ℕ) (row : Row) (o : Outcome) → (let new : Outcome = end_row place row o in (new.orders ≡ o.orders) × (is_busy new ≡ is_busy o) × (new.state.phase ≡ o.state.phase) × (new.state.flags ≡ o.state.flags))
unfolding end_row
end_row-same place row o = end_of-same place row (is_removed row) o

-- where the supervisor ends, no order was given so far, and as much work is open as before
pub ends_unmoved : (k : Kind) (G : Item → Type 0) (old : Outcome) (e : Ending) (o : Outcome) → EndsFor k G old e o → (o.orders ≡ old.orders) × (is_busy o ≡ is_busy old)
ends_unmoved k G old ending.Asked o h = (ap (λ (x : Outcome). x.orders) h.1, ap (λ (x : Outcome). is_busy x) h.1)
ends_unmoved k G old (ending.Significant p) o h = (
  ap (λ (x : Outcome). x.orders) h.7 ∙ (end_row-same h.0 h.1 h.2).0 ∙ same_orders old h.2 h.3,
  ap (λ (x : Outcome). is_busy x) h.7 ∙ (end_row-same h.0 h.1 h.2).1 ∙ same_work old h.2 h.3,
)
ends_unmoved k G old ending.Intensity o h = absurd h
ends_unmoved k G old (ending.InitFailed id) o h = absurd h

death-survives : (k : Kind) (G : Item → Type 0) (old : Outcome) (P : Outcome → Type 0) → SurvivesEvent k G old P → (p : ℕ) (r : Reason) (place : ℕ) (row : Row) (o : Outcome) → IsUnmoved old o → IsIdle (is_busy old) o → IsRunning o → StandsAt place row o → IsFirstAt (row_has (has_process p)) place o → row.state ≡ Up p → G (item.Note (note.Exit p r)) → P o → P (death p r place row o)
unfolding death after_end
death-survives k G old P s p r place row o u idle runs at found is_up noted x =
    let gone : Outcome = end_row place row o in
    let same = end_row-same place row o in
    let ended : P gone = s.died p place row o u idle runs at is_up (r, noted) x in
    by_test P (is_restarted row.spec.restart r) (restart p place row o) _
    (λ back. s.restarts p place row o u idle runs at (inl (is_up, (r, noted, found, back))) x)
    (λ stays. by_test P (ends_by_significance gone.state.flags.auto_shutdown row gone.state.rows) (terminate (ending.Significant p) gone) gone
    (λ ends. s.ends (ending.Significant p) gone
    (place, row, o, u, at, (is_up, (r, noted, found, stays)), ap (λ (f : SupFlags). ends_by_significance f.auto_shutdown row gone.state.rows) (sym (same.3 ∙ ap (λ (y : Outcome). y.state.flags) u)) ∙ ends, refl)
    (λ e. cc) (idle.0, same.1 ∙ idle.1) (ap (λ (f : Phase). is_over f) same.2 ∙ runs) ended)
    (λ _. ended))

exit_in-survives : (k : Kind) (G : Item → Type 0) (old : Outcome) (P : Outcome → Type 0) → SurvivesEvent k G old P → (p : ℕ) (r : Reason) (place : ℕ) (row : Row) (state : RowState) (o : Outcome) → IsUnmoved old o → row.state ≡ state → has_process p state ≡ true → IsRunning o → G (item.Note (note.Exit p r)) → StandsAt place row o → IsFirstAt (row_has (has_process p)) place o → P o → P (exit_in p r place row state o)
unfolding exit_in
exit_in-survives k G old P s p r place row Undefined o u is h runs noted at found x = x
exit_in-survives k G old P s p r place row (Starting _ _) o u is h runs noted at found x = s.exit_waits p r place row o u at (ap (λ (t : RowState). has_process p t) is ∙ h) noted x
exit_in-survives k G old P s p r place row (Up q) o u is h runs noted at found x =
    by_test P (is_busy o) (put_last (waiting.Item (item.Note (note.Exit p r))) o) (death p r place row o)
    (λ _. s.exit_waits p r place row o u at (ap (λ (t : RowState). has_process p t) is ∙ h) noted x)
    (λ idle. death-survives k G old P s p r place row o u (sym (same_work old o u) ∙ idle, idle) runs at found (is ∙ ap (λ (n : ℕ). Up n) (eqb-true q p h)) noted x)
exit_in-survives k G old P s p r place row (Asked q d) o u is h runs noted at found x = s.stopped p r place row o u at (ap (λ (t : RowState). is_told p t) is ∙ h) noted x
exit_in-survives k G old P s p r place row (Killed q) o u is h runs noted at found x = s.stopped p r place row o u at (ap (λ (t : RowState). is_told p t) is ∙ h) noted x
exit_in-survives k G old P s p r place row (Restarting _) o u is h runs noted at found x = x

take_exit-survives : (k : Kind) (G : Item → Type 0) (old : Outcome) (P : Outcome → Type 0) → SurvivesEvent k G old P → (p : ℕ) (r : Reason) (o : Outcome) → IsUnmoved old o → IsRunning o → G (item.Note (note.Exit p r)) → P o → P (take_exit p r o)
unfolding take_exit at_number
take_exit-survives k G old P s p r o u runs noted x =
    at_row-finds P (row_has (has_process p)) o _ o x x (λ place row at found. exit_in-survives k G old P s p r place row row.state o u refl (first_passes (row_has (has_process p)) place row o found at) runs noted at found x)

pub awaits_as : (n : ℕ) (state : RowState) → awaits_retry n state ≡ true → state ≡ Restarting n
awaits_as n (Restarting q) h = ap (λ (m : ℕ). Restarting m) (eqb-true q n h)
awaits_as n Undefined h = absurd (false≢true h)
awaits_as n (Starting _ _) h = absurd (false≢true h)
awaits_as n (Up _) h = absurd (false≢true h)
awaits_as n (Asked _ _) h = absurd (false≢true h)
awaits_as n (Killed _) h = absurd (false≢true h)

retry-survives : (k : Kind) (G : Item → Type 0) (old : Outcome) (P : Outcome → Type 0) → SurvivesEvent k G old P → (n : ℕ) (o : Outcome) → IsUnmoved old o → IsIdle (is_busy old) o → IsRunning o → k ≡ kind.Resumed → slice_get old.state.waiting 0 ≡ Some (waiting.Retry n) → P o → P (retry n o)
unfolding retry
retry-survives k G old P s n o u idle runs resumed first x =
    at_row-finds P (row_has (awaits_retry n)) o (restart n) o x x
    (λ place row at found. s.restarts n place row o u idle runs at (inr (awaits_as n row.state (first_passes (row_has (awaits_retry n)) place row o found at), resumed, first, found)) x)

-- what a function makes of a row whose start is awaited under this number
abbrev pub AtStarting : (Outcome → Type 0) → ℕ → (ℕ → ℕ → Row → Outcome → Outcome) → Outcome → Type 0
AtStarting P p f o = (q k place : ℕ) (row : Row) → StandsAt place row o → row.state ≡ Starting q k → (q == p) ≡ true → P (f k place row o)

if_starting-survives : (P : Outcome → Type 0) (p : ℕ) (f : ℕ → ℕ → Row → Outcome → Outcome) (place : ℕ) (row : Row) (state : RowState) (o : Outcome) → row.state ≡ state → has_process p state ≡ true → StandsAt place row o → AtStarting P p f o → P o → P (if_starting (λ k. f k place row) state o)
if_starting-survives P p f place row Undefined o is h at each x = x
if_starting-survives P p f place row (Starting q k) o is h at each x = each q k place row at is h
if_starting-survives P p f place row (Up _) o is h at each x = x
if_starting-survives P p f place row (Asked _ _) o is h at each x = x
if_starting-survives P p f place row (Killed _) o is h at each x = x
if_starting-survives P p f place row (Restarting _) o is h at each x = x

pub at_starting-survives : (P : Outcome → Type 0) (p : ℕ) (f : ℕ → ℕ → Row → Outcome → Outcome) (o : Outcome) → AtStarting P p f o → P o → P (at_starting p f o)
unfolding at_starting
at_starting-survives P p f o each x = at_number-survives P p _ o x (λ place row at h. if_starting-survives P p f place row row.state o refl h at each x)

up_after-survives : (k : Kind) (G : Item → Type 0) (old : Outcome) (P : Outcome → Type 0) → SurvivesEvent k G old P → (p place : ℕ) (row : Row) (q kept : ℕ) (f : Option Sequel) (o : Outcome) → IsUnmoved old o → o.state.follows ≡ f → StandsAt place row o → row.state ≡ Starting q kept → (q == p) ≡ true → G (item.Note (note.Up p)) → P o → P (up_after p f (set_row place row (Up p) o))
unfolding up_after
up_after-survives k G old P s p place row q kept None o u is at starts same noted x = s.up p place row q kept o u at starts same noted x
up_after-survives k G old P s p place row q kept (Some sequel.Ready) o u is at starts same noted x = s.up p place row q kept o u at starts same noted x
up_after-survives k G old P s p place row q kept (Some sequel.Nothing) o u is at starts same noted x = s.up p place row q kept o u at starts same noted x
up_after-survives k G old P s p place row q kept (Some (sequel.Added c)) o u is at starts same noted x =
    s.answered c (reply.OkProcess p) (closed (set_row place row (Up p) o)) (inl refl) (s.up_closed p place row q kept c o u at starts same (inl is) noted x)
up_after-survives k G old P s p place row q kept (Some (sequel.Restarted c)) o u is at starts same noted x =
    s.answered c (reply.OkProcess p) (closed (set_row place row (Up p) o)) (inl refl) (s.up_closed p place row q kept c o u at starts same (inr is) noted x)
up_after-survives k G old P s p place row q kept (Some (sequel.Stopped _)) o u is at starts same noted x = s.up p place row q kept o u at starts same noted x
up_after-survives k G old P s p place row q kept (Some (sequel.End _)) o u is at starts same noted x = s.up p place row q kept o u at starts same noted x

take_up-survives : (k : Kind) (G : Item → Type 0) (old : Outcome) (P : Outcome → Type 0) → SurvivesEvent k G old P → (p : ℕ) (o : Outcome) → IsUnmoved old o → G (item.Note (note.Up p)) → P o → P (take_up p o)
unfolding take_up
take_up-survives k G old P s p o u noted x = at_starting-survives P p _ o (λ q kept place row at is same. up_after-survives k G old P s p place row q kept o.state.follows o u refl at is same noted x) x

take_ignored-survives : (k : Kind) (G : Item → Type 0) (old : Outcome) (P : Outcome → Type 0) → SurvivesEvent k G old P → (p : ℕ) (o : Outcome) → IsUnmoved old o → G (item.Note (note.Ignored p)) → P o → P (take_ignored p o)
unfolding take_ignored
take_ignored-survives k G old P s p o u noted x = at_starting-survives P p _ o (λ q kept place row at is same. s.ignored p place row q kept o u at is same noted x) x

failed_after-survives : (k : Kind) (G : Item → Type 0) (old : Outcome) (P : Outcome → Type 0) → SurvivesEvent k G old P → (r : Reason) (kept place : ℕ) (row : Row) (q : ℕ) (f : Option Sequel) (o : Outcome) → IsUnmoved old o → o.state.follows ≡ f → IsRunning o → StandsAt place row o → row.state ≡ Starting q kept → BringsFailure G q → P o → P (failed_after r kept place row f o)
unfolding failed_after
failed_after-survives k G old P s r kept place row q None o u is runs at starts noted x = x
failed_after-survives k G old P s r kept place row q (Some sequel.Ready) o u is runs at starts noted x = s.opening_failed place row q kept o u runs at starts is noted x
failed_after-survives k G old P s r kept place row q (Some sequel.Nothing) o u is runs at starts noted x = s.restart_failed place row q kept o u at starts is noted x
failed_after-survives k G old P s r kept place row q (Some (sequel.Added c)) o u is runs at starts noted x =
    s.answered c (reply.Refused (fault.Start r)) (closed (with_rows (remove o.state.rows place) o)) (inl refl) (s.added_failed place row q kept c o u at starts is noted x)
failed_after-survives k G old P s r kept place row q (Some (sequel.Restarted c)) o u is runs at starts noted x =
    s.answered c (reply.Refused (fault.Start r)) (closed (set_row place row Undefined o)) (inl refl) (s.restarted_failed place row q kept c o u at starts is noted x)
failed_after-survives k G old P s r kept place row q (Some (sequel.Stopped _)) o u is runs at starts noted x = x
failed_after-survives k G old P s r kept place row q (Some (sequel.End _)) o u is runs at starts noted x = x

take_failed-survives : (k : Kind) (G : Item → Type 0) (old : Outcome) (P : Outcome → Type 0) → SurvivesEvent k G old P → (p : ℕ) (r : Reason) (o : Outcome) → IsUnmoved old o → G (item.Note (note.Failed p r)) → IsRunning o → P o → P (take_failed p r o)
unfolding take_failed
take_failed-survives k G old P s p r o u noted runs x =
    at_starting-survives P p _ o (λ q kept place row at is same. failed_after-survives k G old P s r kept place row q o.state.follows o u refl runs at is (r, subst (λ (n : ℕ). G (item.Note (note.Failed n r))) (sym (eqb-true q p same)) noted) x) x

take_note-survives : (k : Kind) (G : Item → Type 0) (old : Outcome) (P : Outcome → Type 0) → SurvivesEvent k G old P → (n : Note) (o : Outcome) → IsUnmoved old o → IsRunning o → G (item.Note n) → P o → P (take_note n o)
unfolding take_note
take_note-survives k G old P s (note.Up p) o u runs noted x = take_up-survives k G old P s p o u noted x
take_note-survives k G old P s (note.Ignored p) o u runs noted x = take_ignored-survives k G old P s p o u noted x
take_note-survives k G old P s (note.Failed p r) o u runs noted x = take_failed-survives k G old P s p r o u noted runs x
take_note-survives k G old P s (note.Exit p r) o u runs noted x = take_exit-survives k G old P s p r o u runs noted x

add_child-survives : (k : Kind) (G : Item → Type 0) (old : Outcome) (P : Outcome → Type 0) → SurvivesEvent k G old P → (c : ℕ) (id : Option Name) (spec : ChildSpec) (o : Outcome) → IsUnmoved old o → IsIdle (is_busy old) o → IsRunning o → is_some id ≡ not (is_simple o.state.flags.strategy) → BringsStart G c id spec o → P o → P (add_child c id spec o)
unfolding add_child
add_child-survives k G old P s c id spec o u idle runs named got x =
    by_test P (nat_le MAX_CHILDREN (length o.state.rows)) _ _ (λ _. s.answered c (reply.Refused fault.TooManyChildren) o (inl idle.1) x) (λ few. s.adds c id spec o u idle runs named few got x)

-- the test that finds the row of the child that a call names
abbrev finds : Call → Row → Bool
finds (call.StartChild spec) row = has_id spec.id row
finds call.StartDynamic row = false
finds (call.RestartChild id) row = has_id id row
finds (call.DeleteChild id) row = has_id id row
finds (call.TerminateChild id) row = has_id id row
finds (call.TerminateProcess p) row = row_has (has_number p) row
finds call.WhichChildren row = false
finds call.CountChildren row = false
finds (call.GetChildspec id) row = has_id id row

-- what neither a fault nor a process stands against
pub undefined_row : (id : Name) (state : RowState) → fault_at (call.RestartChild id) state ≡ None → state ≡ Undefined
undefined_row id Undefined h = refl
undefined_row id (Starting _ _) h = cc
undefined_row id (Up _) h = cc
undefined_row id (Asked _ _) h = cc
undefined_row id (Killed _) h = cc
undefined_row id (Restarting _) h = cc

unless_refused-survives : (k : Kind) (G : Item → Type 0) (old : Outcome) (P : Outcome → Type 0) → SurvivesEvent k G old P → (c : ℕ) (why : Option CallFault) (done o : Outcome) → IsIdle (is_busy old) o → P o → (why ≡ None → P done) → P (unless_refused c why done o)
unless_refused-survives k G old P s c None done o idle x h = h refl
unless_refused-survives k G old P s c (Some why) done o idle x h = s.answered c (reply.Refused why) o (inl idle.1) x

stop_child-survives : (k : Kind) (G : Item → Type 0) (old : Outcome) (P : Outcome → Type 0) → SurvivesEvent k G old P → (c place : ℕ) (row : Row) (state : RowState) (gone o : Outcome) → IsUnmoved old o → row.state ≡ state → IsIdle (is_busy old) o → IsRunning o → StandsAt place row o → BringsStop G c place o → is_busy gone ≡ false → (is_down row.state ≡ true → P gone) → P o → P (stop_child c state gone o)
unfolding stop_process
stop_child-survives k G old P s c place row Undefined gone o u is idle runs at got shut h x = s.answered c reply.Ok gone (inl shut) (h (ap (λ (t : RowState). is_down t) is))
stop_child-survives k G old P s c place row (Starting p _) gone o u is idle runs at got shut h x = s.stops_child c p place row o u idle runs at (inl (ap (λ (t : RowState). is_awaited t) is)) (ap (λ (t : RowState). process_number t) is) got x
stop_child-survives k G old P s c place row (Up p) gone o u is idle runs at got shut h x = s.stops_child c p place row o u idle runs at (inr is) (ap (λ (t : RowState). process_number t) is) got x
stop_child-survives k G old P s c place row (Asked p _) gone o u is idle runs at got shut h x = s.stops_child c p place row o u idle runs at (inl (ap (λ (t : RowState). is_awaited t) is)) (ap (λ (t : RowState). process_number t) is) got x
stop_child-survives k G old P s c place row (Killed p) gone o u is idle runs at got shut h x = s.stops_child c p place row o u idle runs at (inl (ap (λ (t : RowState). is_awaited t) is)) (ap (λ (t : RowState). process_number t) is) got x
stop_child-survives k G old P s c place row (Restarting _) gone o u is idle runs at got shut h x = s.answered c reply.Ok gone (inl shut) (h (ap (λ (t : RowState). is_down t) is))

carry_out-survives : (k : Kind) (G : Item → Type 0) (old : Outcome) (P : Outcome → Type 0) → SurvivesEvent k G old P → (c : ℕ) (x : Call) (place : ℕ) (row : Row) (o : Outcome) → IsUnmoved old o → IsIdle (is_busy old) o → IsRunning o → StandsAt place row o → G (item.Call c x) → IsFirstAt (finds x) place o → fault_at x row.state ≡ None → P o → P (carry_out c x place row o)
carry_out-survives k G old P s c (call.RestartChild id) place row o u idle runs at noted found free x =
    s.starts_again c id place row o u idle runs at (first_passes (has_id id) place row o found at) (undefined_row id row.state free) noted found x
carry_out-survives k G old P s c (call.DeleteChild id) place row o u idle runs at noted found free x =
    s.answered c reply.Ok (with_rows (remove o.state.rows place) o) (inl idle.1) (s.removed place row o u idle runs at (ap (λ (t : RowState). is_down t) (undefined_row id row.state free)) x)
carry_out-survives k G old P s c (call.TerminateChild id) place row o u idle runs at noted found free x =
    stop_child-survives k G old P s c place row row.state (set_row place row Undefined o) o u refl idle runs at (inl (id, noted, found)) idle.1 (λ down. s.given_up place row o u idle runs at down x) x
carry_out-survives k G old P s c (call.TerminateProcess p) place row o u idle runs at noted found free x =
    stop_child-survives k G old P s c place row row.state (with_rows (remove o.state.rows place) o) o u refl idle runs at (inr (p, noted, found)) idle.1 (λ down. s.removed place row o u idle runs at down x) x
carry_out-survives k G old P s c (call.GetChildspec _) place row o u idle runs at noted found free x = s.answered c (reply.Spec row.spec) o (inl idle.1) x
carry_out-survives k G old P s c (call.StartChild _) place row o u idle runs at noted found free x = x
carry_out-survives k G old P s c call.StartDynamic place row o u idle runs at noted found free x = x
carry_out-survives k G old P s c call.WhichChildren place row o u idle runs at noted found free x = x
carry_out-survives k G old P s c call.CountChildren place row o u idle runs at noted found free x = x

call_at-survives : (k : Kind) (G : Item → Type 0) (old : Outcome) (P : Outcome → Type 0) → SurvivesEvent k G old P → (c : ℕ) (x : Call) (place : ℕ) (row : Row) (o : Outcome) → IsUnmoved old o → IsIdle (is_busy old) o → IsRunning o → StandsAt place row o → G (item.Call c x) → IsFirstAt (finds x) place o → P o → P (call_at c x place row o)
unfolding call_at
call_at-survives k G old P s c call place row o u idle runs at noted found x =
    unless_refused-survives k G old P s c (fault_at call row.state) (carry_out c call place row o) o idle x (λ free. carry_out-survives k G old P s c call place row o u idle runs at noted found free x)

start_lawful-survives : (k : Kind) (G : Item → Type 0) (old : Outcome) (P : Outcome → Type 0) → SurvivesEvent k G old P → (c : ℕ) (spec : ChildSpec) (o : Outcome) → IsUnmoved old o → IsIdle (is_busy old) o → IsRunning o → is_simple o.state.flags.strategy ≡ false → G (item.Call c (call.StartChild spec)) → P o → P (start_lawful c spec o)
unfolding start_lawful
start_lawful-survives k G old P s c spec o u idle runs plain noted x =
    at_row-finds P (has_id spec.id) (add_child c (Some spec.id) spec o) (call_at c (call.StartChild spec)) o
    (add_child-survives k G old P s c (Some spec.id) spec o u idle runs (sym (ap not plain)) (call.StartChild spec, refl, noted, (refl, refl)) x) x
    (λ place row at found. call_at-survives k G old P s c (call.StartChild spec) place row o u idle runs at noted found x)

start_checked-survives : (k : Kind) (G : Item → Type 0) (old : Outcome) (P : Outcome → Type 0) → SurvivesEvent k G old P → (c : ℕ) (spec : ChildSpec) (why : Option SpecFault) (o : Outcome) → IsUnmoved old o → IsIdle (is_busy old) o → IsRunning o → is_simple o.state.flags.strategy ≡ false → G (item.Call c (call.StartChild spec)) → P o → P (start_checked c spec why o)
unfolding start_checked
start_checked-survives k G old P s c spec None o u idle runs plain noted x = start_lawful-survives k G old P s c spec o u idle runs plain noted x
start_checked-survives k G old P s c spec (Some why) o u idle runs plain noted x = s.answered c (reply.Refused (fault.BadSpec why)) o (inl idle.1) x

start_child-survives : (k : Kind) (G : Item → Type 0) (old : Outcome) (P : Outcome → Type 0) → SurvivesEvent k G old P → (c : ℕ) (spec : ChildSpec) (o : Outcome) → IsUnmoved old o → IsIdle (is_busy old) o → IsRunning o → G (item.Call c (call.StartChild spec)) → P o → P (start_child c spec o)
unfolding start_child
start_child-survives k G old P s c spec o u idle runs noted x =
    by_test P (is_simple o.state.flags.strategy) _ _ (λ _. s.answered c (reply.Refused fault.SimpleOneForOne) o (inl idle.1) x)
    (λ plain. start_checked-survives k G old P s c spec (first_fault (spec ∷ []) (Some o.state.flags.auto_shutdown)) o u idle runs plain noted x)

start_shared-survives : (k : Kind) (G : Item → Type 0) (old : Outcome) (P : Outcome → Type 0) → SurvivesEvent k G old P → (c : ℕ) (spec : Option ChildSpec) (o : Outcome) → IsUnmoved old o → IsIdle (is_busy old) o → IsRunning o → slice_get o.state.specs 0 ≡ spec → is_simple o.state.flags.strategy ≡ true → G (item.Call c call.StartDynamic) → P o → P (start_shared c spec o)
unfolding start_shared
start_shared-survives k G old P s c None o u idle runs is simple noted x = s.answered c (reply.Refused fault.NotSimple) o (inl idle.1) x
start_shared-survives k G old P s c (Some spec) o u idle runs is simple noted x = add_child-survives k G old P s c None spec o u idle runs (sym (ap not simple)) (call.StartDynamic, refl, noted, (refl, is)) x

start_dynamic-survives : (k : Kind) (G : Item → Type 0) (old : Outcome) (P : Outcome → Type 0) → SurvivesEvent k G old P → (c : ℕ) (o : Outcome) → IsUnmoved old o → IsIdle (is_busy old) o → IsRunning o → G (item.Call c call.StartDynamic) → P o → P (start_dynamic c o)
unfolding start_dynamic
start_dynamic-survives k G old P s c o u idle runs noted x =
    by_test P (is_simple o.state.flags.strategy) _ _
    (λ simple. start_shared-survives k G old P s c (slice_get o.state.specs 0) o u idle runs refl simple noted x)
    (λ _. s.answered c (reply.Refused fault.NotSimple) o (inl idle.1) x)

call_child-survives : (k : Kind) (G : Item → Type 0) (old : Outcome) (P : Outcome → Type 0) → SurvivesEvent k G old P → (c : ℕ) (id : Name) (x : Call) (o : Outcome) → IsUnmoved old o → IsIdle (is_busy old) o → IsRunning o → G (item.Call c x) → ((place : ℕ) → IsFirstAt (has_id id) place o → IsFirstAt (finds x) place o) → P o → P (call_child c id x o)
unfolding call_child
call_child-survives k G old P s c id call o u idle runs noted names x =
    by_test P (is_simple o.state.flags.strategy) _ _ (λ _. s.answered c (reply.Refused fault.SimpleOneForOne) o (inl idle.1) x)
    (λ _. at_row-finds P (has_id id) _ (call_at c call) o (s.answered c (reply.Refused fault.NotFound) o (inl idle.1) x) x (λ place row at found. call_at-survives k G old P s c call place row o u idle runs at noted (names place found) x))

terminate_process-survives : (k : Kind) (G : Item → Type 0) (old : Outcome) (P : Outcome → Type 0) → SurvivesEvent k G old P → (c p : ℕ) (o : Outcome) → IsUnmoved old o → IsIdle (is_busy old) o → IsRunning o → G (item.Call c (call.TerminateProcess p)) → P o → P (terminate_process c p o)
unfolding terminate_process
terminate_process-survives k G old P s c p o u idle runs noted x =
    by_test P (is_simple o.state.flags.strategy) _ _
    (λ _. at_row-finds P (row_has (has_number p)) _ (call_at c (call.TerminateProcess p)) o (s.answered c (reply.Refused fault.NotFound) o (inl idle.1) x) x
    (λ place row at found. call_at-survives k G old P s c (call.TerminateProcess p) place row o u idle runs at noted found x))
    (λ _. s.answered c (reply.Refused fault.NotFound) o (inl idle.1) x)

get_shared-survives : (k : Kind) (G : Item → Type 0) (old : Outcome) (P : Outcome → Type 0) → SurvivesEvent k G old P → (c : ℕ) (id : Name) (spec : Option ChildSpec) (o : Outcome) → IsIdle (is_busy old) o → P o → P (get_shared c id spec o)
unfolding get_shared
get_shared-survives k G old P s c id None o idle x = s.answered c (reply.Refused fault.NotFound) o (inl idle.1) x
get_shared-survives k G old P s c id (Some spec) o idle x =
    by_test P (is_named id spec) _ _ (λ _. s.answered c (reply.Spec spec) o (inl idle.1) x) (λ _. s.answered c (reply.Refused fault.NotFound) o (inl idle.1) x)

get_childspec-survives : (k : Kind) (G : Item → Type 0) (old : Outcome) (P : Outcome → Type 0) → SurvivesEvent k G old P → (c : ℕ) (id : Name) (o : Outcome) → IsUnmoved old o → IsIdle (is_busy old) o → IsRunning o → G (item.Call c (call.GetChildspec id)) → P o → P (get_childspec c id o)
unfolding get_childspec
get_childspec-survives k G old P s c id o u idle runs noted x =
    by_test P (is_simple o.state.flags.strategy) _ _ (λ _. get_shared-survives k G old P s c id (slice_get o.state.specs 0) o idle x)
    (λ _. at_row-finds P (has_id id) _ (call_at c (call.GetChildspec id)) o (s.answered c (reply.Refused fault.NotFound) o (inl idle.1) x) x (λ place row at found. call_at-survives k G old P s c (call.GetChildspec id) place row o u idle runs at noted found x))

take_call-survives : (k : Kind) (G : Item → Type 0) (old : Outcome) (P : Outcome → Type 0) → SurvivesEvent k G old P → (c : ℕ) (call : Call) (o : Outcome) → IsUnmoved old o → IsIdle (is_busy old) o → IsRunning o → G (item.Call c call) → P o → P (take_call c call o)
unfolding take_call
take_call-survives k G old P s c (call.StartChild spec) o u idle runs noted x = start_child-survives k G old P s c spec o u idle runs noted x
take_call-survives k G old P s c call.StartDynamic o u idle runs noted x = start_dynamic-survives k G old P s c o u idle runs noted x
take_call-survives k G old P s c (call.RestartChild id) o u idle runs noted x = call_child-survives k G old P s c id (call.RestartChild id) o u idle runs noted (λ place found. found) x
take_call-survives k G old P s c (call.DeleteChild id) o u idle runs noted x = call_child-survives k G old P s c id (call.DeleteChild id) o u idle runs noted (λ place found. found) x
take_call-survives k G old P s c (call.TerminateChild id) o u idle runs noted x = call_child-survives k G old P s c id (call.TerminateChild id) o u idle runs noted (λ place found. found) x
take_call-survives k G old P s c (call.TerminateProcess p) o u idle runs noted x = terminate_process-survives k G old P s c p o u idle runs noted x
take_call-survives k G old P s c call.WhichChildren o u idle runs noted x = s.answered c (reply.Which (which_of o.state.rows)) o (inl idle.1) x
take_call-survives k G old P s c call.CountChildren o u idle runs noted x = s.answered c (reply.Count (counts_of o.state)) o (inl idle.1) x
take_call-survives k G old P s c (call.GetChildspec id) o u idle runs noted x = get_childspec-survives k G old P s c id o u idle runs noted x

ask-survives : (k : Kind) (G : Item → Type 0) (old : Outcome) (P : Outcome → Type 0) → SurvivesEvent k G old P → (c : ℕ) (call : Call) (o : Outcome) → IsUnmoved old o → G (item.Call c call) → P o → P (ask c call o)
unfolding ask
ask-survives k G old P s c call o u noted x =
    by_test P (is_over o.state.phase) _ _ (λ _. s.answered c reply.NoProc o (inr (ap (λ (y : Outcome). y.state.follows) u)) x)
    (λ runs. by_test P (is_busy o) _ _ (λ busy. s.call_waits c call o u busy noted x) (λ idle. take_call-survives k G old P s c call o u (sym (same_work old o u) ∙ idle, idle) runs noted x))

-- an item that the event brings, or that waited
take_item-survives : (k : Kind) (G : Item → Type 0) (old : Outcome) (P : Outcome → Type 0) → SurvivesEvent k G old P → (i : Item) (o : Outcome) → IsUnmoved old o → G i → P o → P (take_item i o)
unfolding take_item
take_item-survives k G old P s (item.Note n) o u noted x =
    by_test P (is_over o.state.phase) o (take_note n o) (λ _. x) (λ runs. take_note-survives k G old P s n o u runs noted x)
take_item-survives k G old P s (item.Call c call) o u noted x = ask-survives k G old P s c call o u noted x

pub take_waiting-survives : (k : Kind) (G : Item → Type 0) (old : Outcome) (P : Outcome → Type 0) → SurvivesEvent k G old P → (x : Waiting) (o : Outcome) → IsUnmoved old o → ((i : Item) → x ≡ waiting.Item i → G i) → k ≡ kind.Resumed → slice_get old.state.waiting 0 ≡ Some x → IsIdle (is_busy old) o → IsRunning o → P o → P (take_waiting x o)
unfolding take_waiting
take_waiting-survives k G old P s (waiting.Item i) o u got resumed first idle runs x = take_item-survives k G old P s i o u (got i refl) x
take_waiting-survives k G old P s (waiting.Retry n) o u got resumed first idle runs x = retry-survives k G old P s n o u idle runs resumed first x

-- the first that waits is taken
resume-survives : (k : Kind) (G : Item → Type 0) (old : Outcome) (P : Outcome → Type 0) → SurvivesEvent k G old P → (ws : List Waiting) → k ≡ kind.Resumed → old.state.waiting ≡ ws → ((i : Item) → IsFirst ws i → G i) → IsIdle (is_busy old) old → IsRunning old → P old → P (resume ws old)
unfolding resume
resume-survives k G old P s [] resumed is got idle runs x = x
resume-survives k G old P s (w ∷ ws) resumed is got idle runs x =
    take_waiting-survives k G old P s w (with_waiting ws old) refl got resumed (ap (λ (l : List Waiting). slice_get l 0) is) idle runs (s.taken w ws resumed idle runs is x)

if_idle-survives : (P : Outcome → Type 0) (done o : Outcome) → P o → (IsIdle (is_busy o) o → IsRunning o → P done) → P (if is_busy o then o else if is_over o.state.phase then o else done)
if_idle-survives P done o x h =
    by_test P (is_busy o) o (if is_over o.state.phase then o else done) (λ _. x) (λ idle. by_test P (is_over o.state.phase) o done (λ _. x) (λ runs. h (idle, idle) runs))

-- what each kind of change keeps, every decision keeps. The event brings an item; one that waited only if no work is open.
pub decide-survives_event : (k : Kind) (G : Item → Type 0) (old : Outcome) (P : Outcome → Type 0) → SurvivesEvent k G old P → ((i : Item) → Brings k old.state.waiting i → (k ≡ kind.Resumed → is_busy old ≡ false) → G i) → P old → P (decide k old)
unfolding decide
decide-survives_event (kind.Opened own) G old P s got x = by_test P (is_over old.state.phase) (open_rows own old) old (λ over. s.opens own refl over x) (λ _. x)
decide-survives_event (kind.Took i) G old P s got x = take_item-survives (kind.Took i) G old P s i old refl (got i refl (λ resumed. absurd (search (rules, resumed)))) x
decide-survives_event kind.Resumed G old P s got x =
    if_idle-survives P (resume old.state.waiting old) old x
    (λ idle runs. resume-survives kind.Resumed G old P s old.state.waiting refl refl (λ i first. got i first (λ _. idle.1)) idle runs x)
decide-survives_event kind.Ticked G old P s got x = s.ticks refl x
decide-survives_event kind.Stopped G old P s got x = if_idle-survives P (terminate ending.Asked old) old x (λ idle runs. s.ends ending.Asked old (refl, refl) (λ e. cc) idle runs x)

-- the event takes the item, or no work is open
abbrev IsTaken : Kind → Outcome → Item → Type 0
IsTaken k old i = (k ≡ kind.Took i) ⊎ (is_busy old ≡ false)

taken_or_idle : (k : Kind) (old : Outcome) (ws : List Waiting) (i : Item) → Brings k ws i → (k ≡ kind.Resumed → is_busy old ≡ false) → IsTaken k old i
taken_or_idle (kind.Opened _) old ws i b idle = absurd b
taken_or_idle (kind.Took j) old ws i b idle = inl (ap (λ (x : Item). kind.Took x) b)
taken_or_idle kind.Resumed old ws i b idle = inr (idle refl)
taken_or_idle kind.Ticked old ws i b idle = absurd b
taken_or_idle kind.Stopped old ws i b idle = absurd b

noted_so : (k : Kind) (old : Outcome) (x : Note) (o : Outcome) → IsUnmoved old o → IsTaken k old (item.Note x) → IsNoted k (is_busy old) x o
noted_so k old x o u g = ⊎_elim (λ took. inl took) (λ idle. inr (idle, same_work old o u ∙ idle)) g

-- where less has to be known of the event
event-survives : (k : Kind) (old : Outcome) (P : Outcome → Type 0) → Survives k (is_busy old) P → SurvivesEvent k (IsTaken k old) old P
event-survives k old P s =
    record {
      answered = λ c r o quiet x. s.answered c r o x;
      taken = λ w ws resumed idle runs is x. s.taken w ws old idle runs is x;
      call_waits = λ c call o u busy g x. s.call_waits c call o x;
      exit_waits = λ p r place row o u at has g x. s.exit_waits p r o (noted_so k old (note.Exit p r) o u g) x;
      up = λ p place row q kept o u at is same g x. s.up p place row q kept o at is same (noted_so k old (note.Up p) o u g) x;
      up_closed = λ p place row q kept c o u at is same follows g x. s.up_closed p place row q kept c o at is same follows x;
      ignored = λ p place row q kept o u at is same g x. s.ignored p place row q kept o at is same (noted_so k old (note.Ignored p) o u g) x;
      opening_failed = λ place row q kept o u runs at is follows g x. s.opening_failed place row q kept o runs at is follows x;
      restart_failed = λ place row q kept o u at is follows g x. s.restart_failed place row q kept o at is follows x;
      added_failed = λ place row q kept c o u at is follows g x. s.added_failed place row q kept c o at is follows x;
      restarted_failed = λ place row q kept c o u at is follows g x. s.restarted_failed place row q kept c o at is follows x;
      stopped = λ p r place row o u at told g x. s.stopped p r place row o at told (noted_so k old (note.Exit p r) o u g) x;
      died = λ p place row o u idle runs at is g x. s.died p place row o idle runs at is x;
      restarts = λ p place row o u idle runs at is x. s.restarts p place row o idle runs at (⊎_elim (λ (h : Dies (IsTaken k old) p place row o true). inl h.0) (λ h. inr h.0) is) x;
      ends = λ e o u other idle runs x. s.ends e o other idle runs x;
      ticks = λ is x. s.ticks old is x;
      opens = λ own is over x. s.opens own old is refl over x;
      adds = λ c id spec o u idle runs named few got x. s.adds c id spec o idle runs named x;
      starts_again = λ c id place row o u idle runs at has is noted found x. s.starts_again c id place row o idle runs at has is x;
      removed = λ place row o u idle runs at down x. s.removed place row o idle runs at down x;
      given_up = λ place row o u idle runs at down x. s.given_up place row o idle runs at down x;
      stops_child = λ c p place row o u idle runs at up has got x. s.stops_child c p place row o idle runs at up x;
    }

pub decide-survives : (k : Kind) (P : Outcome → Type 0) (o : Outcome) → Survives k (is_busy o) P → P o → P (decide k o)
decide-survives k P o s x = decide-survives_event k (IsTaken k o) o P (event-survives k o P s) (λ i b idle. taken_or_idle k o o.state.waiting i b idle) x
