-- What whoever opened a tree hears of its root, where it hears nothing. (own)
use Rattle.std.specs.Prelude.{◌≡◌, ◌⊎◌, ℕ, ◌+◌, [], ◌∷◌, ◌++◌, Option, Some, MatchOption}
use Rattle.otp_hand.specs.Hands.{TreeClientView}
use Rattle.otp_inbox.specs.Tokens.{TakerState}
use Rattle.otp_rules.specs.declared.call.Call.{Call}
use Rattle.otp_rules.specs.declared.ending.SupEnd.{SupEnd}
use Rattle.otp_bodies.specs.declared.letter.Message.{Message}
use Rattle.otp_bodies.specs.Messages.{message}
use Rattle.otp_rules.specs.declared.event.Item.TheVariants as item

-- its inbox was found empty
abbrev pub FoundNone : TakerState Message → TreeClientView → TreeClientView → Type 0
FoundNone w old new = new ≡ record old { waiter = Some (record w { empty_finds = w.empty_finds + 1 }) }

-- a call was found in it, which no supervisor sends
pub record FoundCall (w : TakerState Message) (old new : TreeClientView) : Type 0 where
  pub number : ℕ
  pub call : Call
  pub end : Option SupEnd
  pub took : new ≡ record old { waiter = Some (record w { taken = w.taken ++ message (item.Call number call) end ∷ [] }) }

-- no note was lost: the inbox of the tree of so many supervisors was found empty, or a call was found there; it isn't looked
-- into by the client of another tree
pub record FoundNoNote (tables : ℕ) (w : TakerState Message) (old new : TreeClientView) : Type 0 where
  pub own : w.inbox ≡ tables → FoundNone w old new ⊎ FoundCall w old new
  pub other : (w.inbox ≡ tables → ⊥) → new ≡ old

abbrev pub HeardNothing : ℕ → TreeClientView → TreeClientView → Type 0
HeardNothing tables old new = MatchOption old.waiter (new ≡ old) (λ w. FoundNoNote tables w old new)
