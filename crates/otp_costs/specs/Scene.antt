-- A supervisor that is played in a world where all goes well: each start succeeds, and each process that is asked to shut
-- down ends, or is killed, at once (own).
use Rattle.std.specs.Prelude.{◌≡◌, ◌⊎◌, ℕ, ◌+◌, ◌≤◌, Bool, List, [], ◌++◌, Option, Some, None, is_some, drop, not, slice_get, unwrap_or, true, false, if◌then◌else◌}
use Prim.Native.Nat.{zero, suc}
use Rattle.std.specs.List.{filter, filter_map}
use Rattle.otp_core.specs.declared.cut.TheConstants.{MAX_EVENTS_IN_ALL}
use Rattle.otp_reason.specs.declared.note.Note.{Note}
use Rattle.otp_reason.specs.declared.note.Note.TheVariants as note
use Rattle.otp_reason.specs.declared.reason.Reason.TheVariants as reason
use Rattle.otp_rules.specs.declared.call.Call.TheVariants as call
use Rattle.otp_rules.specs.declared.event.Effect.{Effect}
use Rattle.otp_rules.specs.declared.event.Effect.TheVariants as effect
use Rattle.otp_rules.specs.declared.event.Event.{Event}
use Rattle.otp_rules.specs.declared.event.Item.TheVariants as item
use Rattle.otp_rules.specs.declared.event.Kind.{Kind}
use Rattle.otp_rules.specs.declared.event.Kind.TheVariants as kind
use Rattle.otp_rules.specs.Effects.{is_reply}
use Rattle.otp_rules.specs.Needs.{needs_number}
use Rattle.otp_rules.specs.Next.{next_kind}
use Rattle.otp_rules.specs.Run.{empty_state}
use Rattle.otp_rules.specs.State.{State}
use Rattle.otp_rules.specs.Step.{step}
use Rattle.otp_spec.specs.declared.child.ChildSpec.{ChildSpec}
use Rattle.otp_spec.specs.declared.flags.SupFlags.{SupFlags}
use Rattle.otp_spec.specs.Flags.{is_simple}

-- a supervisor, and what the processes of its children tell next
pub record Scene : Type 0 where
  pub state : State
  -- the greatest process number that was given
  pub last : ℕ
  -- the orders since the last crash, but for answers
  pub orders : List Effect
  -- what processes tell and the supervisor has not yet heard, in order
  pub notes : List Note
  -- how many events there were
  pub events : ℕ

-- what the process of a child does by an order
unfoldable pub note_of : Effect → Option Note
note_of (effect.Start _ number) = Some (note.Up number)
note_of (effect.Ask _ number) = Some (note.Exit number reason.Shutdown)
note_of (effect.Kill _ number) = Some (note.Exit number reason.Killed)
note_of (effect.Reply _) = None
note_of effect.Ready = None
note_of (effect.End _) = None

-- an event, which has the next process number where it starts a child
unfoldable pub event_for : ℕ → Kind → Scene → Event
event_for time kind s =
    record { reading = time; number = if needs_number s.state time kind then Some (s.last + 1) else None; kind = kind }

-- after an event: processes do what its orders ask
unfoldable pub after_event : Event → Scene → Scene
after_event e s =
    record {
      state = (step s.state e).state;
      last = unwrap_or e.number s.last;
      orders = s.orders ++ filter (λ order. not (is_reply order)) (step s.state e).orders;
      notes = s.notes ++ filter_map note_of (step s.state e).orders;
      events = s.events + 1;
    }

-- something happens at this time, in milliseconds
unfoldable pub happened : ℕ → Kind → Scene → Scene
happened time kind s = after_event (event_for time kind s) s

-- what happens next by itself: what a process tells, or else what the supervisor does
unfoldable pub next_of : ℕ → State → Option Note → Option Kind
next_of time s (Some told) = Some (kind.Took (item.Note told))
next_of time s None = next_kind s time false

abbrev pub next_in : ℕ → Scene → Option Kind
next_in time s = next_of time s.state (slice_get s.notes 0)

-- the first note is heard
abbrev pub heard : Scene → Scene
heard s = record s { notes = drop 1 s.notes }

unfoldable pub turned : ℕ → Scene → Option Kind → Scene
turned time s None = s
turned time s (Some kind) = happened time kind (heard s)

-- so often what comes next by itself
unfoldable pub turns : ℕ → ℕ → Scene → Scene
turns zero time s = s
turns (suc n) time s = turned time (turns n time s) (next_in time (turns n time s))

-- all that follows by itself has happened, at this time
pub record Settles (time : ℕ) (old new : Scene) : Type 0 where
  pub count : ℕ
  pub runs : new ≡ turns count time old
  pub done : next_in time new ≡ None

-- there were as many events as a supervisor has in its life
abbrev pub IsFull : Scene → Type 0
IsFull s = MAX_EVENTS_IN_ALL ≤ s.events

-- what comes next by itself comes to that, and there is more to come
pub record FillsUp (time : ℕ) (s : Scene) : Type 0 where
  pub count : ℕ
  pub is_full : IsFull (turns count time s)
  pub more : is_some (next_in time (turns count time s)) ≡ true

-- a supervisor that was never opened
abbrev pub unopened : SupFlags → List ChildSpec → Scene
unopened flags specs = record { state = empty_state flags specs; last = 0; orders = []; notes = []; events = 0 }

-- somebody starts a child of simple_one_for_one; the others have all their children by then
abbrev pub joined : Bool → Scene → Scene
joined false s = s
joined true s = happened 0 (kind.Took (item.Call 1 call.StartDynamic)) s

-- a supervisor that was opened, and whose children run; under simple_one_for_one one child that was started by a call
pub record Begins (simple : Bool) (s t : Scene) : Type 0 where
  pub opened : Scene
  pub opens : Settles 0 (happened 0 (kind.Opened 0) s) opened
  pub joins : Settles 0 (joined simple opened) t

-- a supervisor of these flags and children was opened, and its children run
pub record Opens (flags : SupFlags) (specs : List ChildSpec) (s : Scene) : Type 0 where
  pub opened : Scene
  pub opens : Settles 0 (happened 0 (kind.Opened 0) (unopened flags specs)) opened
  pub joins : Settles 0 (joined (is_simple flags.strategy) opened) s

-- the call that starts the first child of simple_one_for_one comes too late, or what follows from it does not end
pub record JoinFills (simple : Bool) (s : Scene) : Type 0 where
  pub opened : Scene
  pub opens : Settles 0 (happened 0 (kind.Opened 0) s) opened
  pub fills : IsFull opened ⊎ FillsUp 0 (joined simple opened)

-- the opening can't be played to its end: a supervisor has no more events
abbrev pub BeginFills : Bool → Scene → Type 0
BeginFills simple s = IsFull s ⊎ (FillsUp 0 (happened 0 (kind.Opened 0) s) ⊎ JoinFills simple s)

abbrev pub OpeningFills : SupFlags → List ChildSpec → Type 0
OpeningFills flags specs = BeginFills (is_simple flags.strategy) (unopened flags specs)
