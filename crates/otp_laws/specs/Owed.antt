-- A child that ends is started again (Supervisor Behaviour, Child Specification, restart, Restart Strategy and Maximum Restart
-- Intensity): the event that takes its end orders its start, or opens work that still has to; and the work goes on until it has.
use Rattle.std.specs.Prelude.{◌≡◌, ◌⊎◌, ℕ, ◌++◌, Bool, true, false, List, [], ◌∷◌, Option, None, Some, Contains, is_some, max, nat_lt, slice_get, unwrap_or}
use Rattle.otp_reason.specs.declared.name.Name.{Name}
use Rattle.otp_reason.specs.declared.note.Note.TheVariants as note
use Rattle.otp_reason.specs.declared.reason.Reason.{Reason}
use Rattle.otp_table.specs.declared.row.Row.{Row}
use Rattle.otp_table.specs.declared.row.RowState.TheVariants.{Starting, Up}
use Rattle.otp_window.specs.Period.{in_period}
use Rattle.otp_spec.specs.declared.child.ChildSpec.{ChildSpec}
use Rattle.otp_rules.specs.declared.call.Call.{Call}
use Rattle.otp_rules.specs.declared.call.Call.TheVariants as call
use Rattle.otp_rules.specs.declared.call.CallFault.{CallFault}
use Rattle.otp_rules.specs.declared.call.Reply.TheVariants as reply
use Rattle.otp_rules.specs.declared.ending.Ending.TheVariants as ending
use Rattle.otp_rules.specs.declared.event.Effect.TheVariants as effect
use Rattle.otp_rules.specs.declared.event.Event.{Event}
use Rattle.otp_rules.specs.declared.event.Item.TheVariants as item
use Rattle.otp_rules.specs.declared.event.Kind.{Kind}
use Rattle.otp_rules.specs.declared.event.Kind.TheVariants as kind
use Rattle.otp_rules.specs.declared.event.Waiting.TheVariants as waiting
use Rattle.otp_rules.specs.declared.work.Due.{Due}
use Rattle.otp_rules.specs.declared.work.Sequel.{Sequel}
use Rattle.otp_rules.specs.declared.work.Sequel.TheVariants as sequel
use Rattle.otp_rules.specs.State.{State, is_over}
use Rattle.otp_rules.specs.Places.{is_temporary}
use Rattle.otp_rules.specs.Step.{step}
use Rattle.otp_rules.specs.Run.{orders_of, state_after}
use Rattle.otp_rules.specs.Homes.{Brings}
use Rattle.otp_rules.specs.Progress.{taken, ComesBackAfter, HasProcess, IsFirstRow, WaitsRetry}
use Rattle.otp_laws.specs.Musts.{IsEnding}

-- the event takes the note that this process ended for this reason, while the supervisor runs and no work is open; it was the
-- process of the child in this row, which was up
pub record IsEndOf (s : State) (k : Kind) (p : ℕ) (r : Reason) (row : Row) : Type 0 where
  pub brings : Brings k s.waiting (item.Note (note.Exit p r))
  pub idle : is_some s.follows ≡ false
  pub runs : is_over s.phase ≡ false
  pub place : ℕ
  pub first : IsFirstRow (HasProcess p) s.rows place row
  pub up : row.state ≡ Up p

-- the event takes the next try of the restart for which the child in this row waits, while the supervisor runs and no work is open
pub record IsNextTryOf (s : State) (k : Kind) (n : ℕ) (row : Row) : Type 0 where
  pub takes : taken k s.waiting ≡ Some (waiting.Retry n)
  pub idle : is_some s.follows ≡ false
  pub runs : is_over s.phase ≡ false
  pub place : ℕ
  pub first : IsFirstRow (WaitsRetry n) s.rows place row

-- with a restart at this event the period holds more than the intensity
abbrev pub is_too_many : State → Event → Bool
is_too_many s e = nat_lt s.flags.intensity (in_period s.flags.period (s.stamps ++ max e.reading s.last ∷ []) (max e.reading s.last))

-- the start of the child with this id; one that is tried again keeps a number
abbrev pub due_of_id : Option Name → Option ℕ → Due
due_of_id id kept = record { id = id; kept = kept }

-- the child with this id is still to be started, by open work that this follows
pub record IsOwedBy (f : Sequel) (id : Option Name) (s : State) : Type 0 where
  pub runs : is_over s.phase ≡ false
  pub work : s.follows ≡ Some f
  pub kept : Option ℕ
  pub due : Contains s.to_start (due_of_id id kept)

-- by work that restarts children
abbrev pub IsOwed : Option Name → State → Type 0
IsOwed = IsOwedBy sequel.Nothing

-- the event orders the start of the child with this id, under the event's number, or work that this follows still has to
abbrev pub StartsOrOwesBy : Sequel → Option Name → State → Event → Type 0
StartsOrOwesBy f id s e = Contains (step s e).orders (effect.Start id (unwrap_or e.number 0)) ⊎ IsOwedBy f id (step s e).state

abbrev pub StartsOrOwes : Option Name → State → Event → Type 0
StartsOrOwes = StartsOrOwesBy sequel.Nothing

-- such an event starts the child again, or the restart was one too many, and the supervisor ends
abbrev pub IsRestartedBy : Row → State → Event → Type 0
IsRestartedBy row s e = (is_too_many s e ≡ false → StartsOrOwes row.id s e) × (is_too_many s e ≡ true → IsEnding (step s e).state ending.Intensity)

-- from each state: a permanent child is started again whenever it ends, a transient one after an end that isn't quiet
abbrev pub EndsRestart : Type 0
EndsRestart = (s : State) (e : Event) (p : ℕ) (r : Reason) (row : Row) → IsEndOf s e.kind p r row → ComesBackAfter r row.spec.restart → IsRestartedBy row s e

-- an event that takes another end starts nobody, and counts no restart
pub record StartsNobody (s : State) (e : Event) : Type 0 where
  pub none : (id : Option Name) (n : ℕ) → Contains (step s e).orders (effect.Start id n) → ⊥
  pub stamps : (step s e).state.stamps ≡ s.stamps

-- from each state: so it is after each end of a temporary child, and each quiet one of a transient child
abbrev pub EndsStay : Type 0
EndsStay = (s : State) (e : Event) (p : ℕ) (r : Reason) (row : Row) → IsEndOf s e.kind p r row → (ComesBackAfter r row.spec.restart → ⊥) → StartsNobody s e

-- from each state: a child whose last start failed is started at the next try
abbrev pub TriesRestart : Type 0
TriesRestart = (s : State) (e : Event) (n : ℕ) (row : Row) → IsNextTryOf s e.kind n row → is_temporary row.spec.restart ≡ false → IsRestartedBy row s e

-- the event takes the note that the start of the child in this row failed, which the open restart ordered: the work closes, and
-- the next try of that child's restart waits
pub record FailsRestart (s : State) (e : Event) : Type 0 where
  pub p : ℕ
  pub r : Reason
  pub takes : e.kind ≡ kind.Took (item.Note (note.Failed p r))
  pub restarts : s.follows ≡ Some sequel.Nothing
  pub place : ℕ
  pub row : Row
  pub kept : ℕ
  pub at : slice_get s.rows place ≡ Some row
  pub starting : row.state ≡ Starting p kept
  pub closes : (step s e).state.follows ≡ None
  pub waits : Contains (step s e).state.waiting (waiting.Retry kept)

-- from each state: who is owed a start has it ordered by the event, or is owed it after; or another start of this work failed
abbrev pub OwedStays : Type 0
OwedStays = (s : State) (e : Event) (id : Option Name) → IsOwed id s → StartsOrOwes id s e ⊎ FailsRestart s e

-- these events order a start of the child with this id
abbrev pub StartsIn : Option Name → State → List Event → Type 0
StartsIn id s events = (n : ℕ) × Contains (orders_of s events) (effect.Start id n)

-- one of these events takes the note that a start of the open restart failed
pub record FailsIn (s : State) (events : List Event) : Type 0 where
  pub before : List Event
  pub e : Event
  pub later : List Event
  pub are : events ≡ before ++ e ∷ later
  pub fails : FailsRestart (state_after s before) e

-- whatever happens: the start that is owed is ordered, or is still owed, or another start of the same work failed
abbrev pub OwedUntilStarted : Type 0
OwedUntilStarted = (s : State) (events : List Event) (id : Option Name) → IsOwed id s → StartsIn id s events ⊎ (IsOwed id (state_after s events) ⊎ FailsIn s events)

-- the event takes this call under this number, while the supervisor runs and no work is open
pub record IsCallOf (s : State) (k : Kind) (c : ℕ) (x : Call) : Type 0 where
  pub brings : Brings k s.waiting (item.Call c x)
  pub idle : is_some s.follows ≡ false
  pub runs : is_over s.phase ≡ false

-- the one answer that the event gives refuses the call
abbrev pub IsRefused : State → Event → ℕ → Type 0
IsRefused s e c = (why : CallFault) × ((step s e).state.replies ≡ s.replies ++ record { call = c; reply = reply.Refused why } ∷ [])

-- from each state: a call that asks for a start has it ordered, or is refused (supervisor, start_child/2 and restart_child/2)
pub record CallsStart : Type 0 where
  pub child : (s : State) (e : Event) (c : ℕ) (spec : ChildSpec) → IsCallOf s e.kind c (call.StartChild spec) → IsRefused s e c ⊎ StartsOrOwesBy (sequel.Added c) (Some spec.id) s e
  pub dynamic : (s : State) (e : Event) (c : ℕ) → IsCallOf s e.kind c call.StartDynamic → IsRefused s e c ⊎ StartsOrOwesBy (sequel.Added c) None s e
  pub again : (s : State) (e : Event) (c : ℕ) (id : Name) → IsCallOf s e.kind c (call.RestartChild id) → IsRefused s e c ⊎ StartsOrOwesBy (sequel.Restarted c) (Some id) s e
