-- Which effects are orders to children or to the parent.
use Rattle.std.specs.Prelude.{◌+◌, ◌≤◌, Bool, true, false, not, count_by, length}
use Rattle.otp_rules.specs.declared.event.Effect.{Effect}
use Rattle.otp_rules.specs.declared.event.Effect.TheVariants as effect
use Rattle.otp_rules.specs.declared.event.Event.{Event}
use Rattle.otp_rules.specs.State.{State}
use Rattle.otp_rules.specs.Step.{step}

-- the effect only tells that a call was answered
abbrev pub is_reply : Effect → Bool
is_reply (effect.Reply _) = true
is_reply _ = false

-- the effect is an order, to a child or to the parent
abbrev pub is_order : Effect → Bool
is_order x = not (is_reply x)

-- an event gives one order more than there are rows at most: to each child one, and one of work that goes on
abbrev pub OrdersFew : Type 0
OrdersFew = (s : State) (e : Event) → count_by is_order (step s e).orders ≤ length s.rows + 1
