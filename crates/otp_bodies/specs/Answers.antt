-- What a turn answers.
use Rattle.std.specs.Prelude.{◌≡◌, ℕ, ◌+◌, ◌≤◌, Option, Result, Ok, Err, not, ◌&&◌, nat_lt, Some, None, if◌then◌else◌}
use Rattle.otp_bodies.specs.declared.office.turns.TurnAnswer.{TurnAnswer}
use Rattle.otp_bodies.specs.declared.office.turns.TurnAnswer.TheVariants as answer
use Rattle.otp_bodies.specs.declared.office.turns.TurnFault.{TurnFault}
use Rattle.otp_rules.specs.declared.event.Kind.{Kind}
use Rattle.otp_rules.specs.declared.event.Kind.TheVariants as kind
use Rattle.otp_rules.specs.declared.work.Phase.TheVariants.{Ended}
use Rattle.otp_rules.specs.State.{is_over, own_number}
use Rattle.otp_core.specs.View.{state_of}
use Rattle.otp_bodies.specs.declared.office.turns.TurnFault.TheVariants as fault
use Rattle.otp_bodies.specs.Offices.{OfficeView}
use Rattle.otp_bodies.specs.Orders.{has_some}
use Rattle.otp_core.specs.Full.{is_full}

-- how many turns of a table an answer stands for, between two counts: one for an event and for a look that found the inbox
-- empty. An ended supervisor may have looked, or the number was one of an earlier opening
abbrev pub HasTurned : Result TurnAnswer TurnFault → ℕ → ℕ → Type 0
HasTurned (Ok answer.Opened) before after = after ≡ before + 1
HasTurned (Ok answer.Ticked) before after = after ≡ before + 1
HasTurned (Ok answer.Stopped) before after = after ≡ before + 1
HasTurned (Ok answer.Resumed) before after = after ≡ before + 1
HasTurned (Ok answer.Took) before after = after ≡ before + 1
HasTurned (Ok answer.Quiet) before after = after ≡ before + 1
HasTurned (Ok answer.Ended) before after = (before ≤ after) × (after ≤ before + 1)
HasTurned (Ok answer.Pending) before after = after ≡ before
HasTurned (Ok answer.Full) before after = after ≡ before
HasTurned (Err why) before after = after ≡ before

abbrev pub answer_of : Kind → TurnAnswer
answer_of (kind.Opened _) = answer.Opened
answer_of (kind.Took _) = answer.Took
answer_of kind.Resumed = answer.Resumed
answer_of kind.Ticked = answer.Ticked
answer_of kind.Stopped = answer.Stopped

-- the answer of a turn that changes nothing: where orders are still to be sent, and where the core is full, too
unfoldable pub early_answer : OfficeView → ℕ → Option (Result TurnAnswer TurnFault)
early_answer o number =
    if nat_lt number (own_number (state_of o.core).phase) then Some (Ok answer.Ended)
    else if nat_lt (own_number (state_of o.core).phase) number && not (is_over (state_of o.core).phase) then Some (Err fault.WrongNumber)
    else if has_some o.outbox then Some (Ok answer.Pending)
    else if is_full o.core then Some (Ok answer.Full)
    else None
