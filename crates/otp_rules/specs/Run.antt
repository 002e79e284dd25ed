-- Runs: a history of events from a base.
use Rattle.std.specs.Prelude.{◌≡◌, ℕ, List, [], ◌∷◌, ◌++◌, Option, Some, None, ◌==◌, if◌then◌else◌}
use Rattle.otp_spec.specs.declared.child.ChildSpec.{ChildSpec}
use Rattle.otp_spec.specs.declared.flags.SupFlags.{SupFlags}
use Rattle.otp_rules.specs.declared.call.Answered.{Answered}
use Rattle.otp_rules.specs.declared.call.Reply.{Reply}
use Rattle.otp_rules.specs.declared.event.Event.{Event}
use Rattle.otp_rules.specs.declared.event.Effect.{Effect}
use Rattle.otp_rules.specs.declared.work.Phase.TheVariants.{Unopened}
use Rattle.otp_rules.specs.State.{State}
use Rattle.otp_rules.specs.Step.{step}

-- the state that was never opened
abbrev pub empty_state : SupFlags → List ChildSpec → State
empty_state flags specs =
    record {
      flags = flags;
      specs = specs;
      rows = [];
      stamps = [];
      to_stop = [];
      to_start = [];
      follows = None;
      waiting = [];
      replies = [];
      ends = [];
      last = 0;
      phase = Unopened;
    }

-- the state after these events
abbrev pub state_after : State → List Event → State
state_after s [] = s
state_after s (e ∷ es) = state_after (step s e).state es

-- the orders of these events
abbrev pub orders_of : State → List Event → List Effect
orders_of s [] = []
orders_of s (e ∷ es) = (step s e).orders ++ orders_of (step s e).state es

-- the state after two lists of events is that of the second after the first, and their orders follow each other
abbrev pub RunsJoined : Type 0
RunsJoined =
    (s : State) (events later : List Event)
    → (state_after s (events ++ later) ≡ state_after (state_after s events) later)
    × (orders_of s (events ++ later) ≡ orders_of s events ++ orders_of (state_after s events) later)

-- so one event more does its step: the orders are those before and its own
abbrev pub RunGoesOn : Type 0
RunGoesOn =
    (s : State) (events : List Event) (e : Event)
    → (state_after s (events ++ e ∷ []) ≡ (step (state_after s events) e).state)
    × (orders_of s (events ++ e ∷ []) ≡ orders_of s events ++ (step (state_after s events) e).orders)

abbrev pub answered : ℕ → Answered → Option Reply → Option Reply
answered call a (Some later) = Some later
answered call a None = if a.call == call then Some a.reply else None

-- the last answer to the call with this number, if there is one
abbrev pub reply_of : ℕ → List Answered → Option Reply
reply_of call [] = None
reply_of call (a ∷ later) = answered call a (reply_of call later)
