-- What contracts see of a client, and what it is to have sent a call.
use Rattle.std.specs.Prelude.{◌≡◌, ℕ, [], ◌∷◌, ◌++◌}
use Rattle.otp_inbox.specs.Tokens.{SenderState}
use Rattle.otp_signals.specs.declared.view.Holding.{Holding}
use Rattle.otp_signals.specs.Holdings.{after_draw}
use Rattle.otp_rules.specs.declared.call.Call.{Call}
use Rattle.otp_bodies.specs.declared.letter.Message.{Message}
use Rattle.otp_rules.specs.declared.event.Item.TheVariants as item
use Rattle.otp_bodies.specs.Messages.{plain_message}

pub record ClientView : Type 0 where
  pub owner : Holding
  pub sender : SenderState Message

-- the number is the last that the client drew, and the call under it the last item that it sent
pub record Submitted (number : ℕ) (call : Call) (old new : ClientView) : Type 0 where
  pub drawn : new.owner ≡ after_draw number old.owner
  pub sent : new.sender ≡ record old.sender { sent = old.sender.sent ++ plain_message (item.Call number call) ∷ [] }

-- one number was drawn, and nothing was sent
pub record DrewOne (old new : ClientView) : Type 0 where
  pub number : ℕ
  pub drawn : new ≡ record old { owner = after_draw number old.owner }
