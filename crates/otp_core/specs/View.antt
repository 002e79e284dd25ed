-- What a caller sees of a core.
use Rattle.std.specs.Prelude.{ℕ, List, [], Bool, false, drop, take}
use Rattle.otp_rules.specs.declared.event.Event.{Event}
use Rattle.otp_rules.specs.declared.event.Effect.{Effect}
use Rattle.otp_rules.specs.Cuts.{base_of}
use Rattle.otp_rules.specs.State.{State}
use Rattle.otp_rules.specs.Run.{empty_state, state_after}
use Rattle.otp_spec.specs.declared.child.ChildSpec.{ChildSpec}
use Rattle.otp_spec.specs.declared.flags.SupFlags.{SupFlags}
use Rattle.otp_base.specs.declared.base.Counts.{Counts}
use Rattle.otp_base.specs.States.{nothing}

pub record View : Type 0 where
  -- the supervisor that was never opened, or the checkpoint from which it was resumed
  pub base : State
  -- what that checkpoint counts
  pub earlier : Counts
  -- all events since, those that were cut off too
  pub history : List Event
  -- how many of them, the first, were cut off
  pub cut : ℕ
  -- the orders that have not been cleared
  pub effects : List Effect
  -- memory for the next event is there
  pub prepared : Bool

-- the core of a supervisor that was never opened, for children of these specifications
abbrev pub new_core : SupFlags → List ChildSpec → View
new_core flags specs =
    record { base = empty_state flags specs; earlier = nothing; history = []; cut = 0; effects = []; prepared = false }

-- the state that the history leads to: nothing else is known of it
abbrev pub state_of : View → State
state_of v = state_after v.base v.history

-- the events that were cut off, and those that are stored
abbrev pub past_of : View → List Event
past_of v = take v.cut v.history

abbrev pub stored_of : View → List Event
stored_of v = drop v.cut v.history

-- the checkpoint: the state at the cut, without the answers and ends before it
abbrev pub checkpoint_of : View → State
checkpoint_of v = base_of (state_after v.base (past_of v))

-- the state that the stored events lead to from there
abbrev pub stored_state : View → State
stored_state v = state_after (checkpoint_of v) (stored_of v)
