-- How the letter goes that a hand still had to send, and whether a turn of a supervisor was served. (own)
use Rattle.std.specs.Prelude.{◌≡◌, ℕ, ◌<◌, ◌≤◌, ◌++◌, ◌∷◌, List, [], Bool, true, false, Option, Some, None, Result, Ok, Err, length, slice_get, slice_set}
use Rattle.otp_inbox.specs.Tokens.{SenderState}
use Rattle.otp_bodies.specs.declared.letter.Message.{Message}
use Rattle.otp_bodies.specs.Messages.{message}
use Rattle.otp_hand.specs.declared.runner.Unsent.{Unsent}
use Rattle.otp_hand.specs.Hands.{HandView}
use Rattle.otp_bodies.specs.declared.office.turns.TurnAnswer.{TurnAnswer}
use Rattle.otp_bodies.specs.declared.office.turns.TurnAnswer.TheVariants as answer
use Rattle.otp_bodies.specs.declared.office.turns.TurnFault.{TurnFault}

-- a turn with this answer was served: memory was refused neither to it nor to an earlier one, whose orders are still to be sent
abbrev pub is_served : Result TurnAnswer TurnFault → Bool
is_served (Ok answer.Pending) = false
is_served (Ok answer.Opened) = true
is_served (Ok answer.Ticked) = true
is_served (Ok answer.Stopped) = true
is_served (Ok answer.Resumed) = true
is_served (Ok answer.Took) = true
is_served (Ok answer.Quiet) = true
is_served (Ok answer.Ended) = true
is_served (Ok answer.Full) = true
is_served (Err _) = false

module _ {J S : Type 0} where
  -- of these senders the one to that supervisor of so many, or to whoever opened the tree, sent the letter last, with the end that it
  -- tells
  pub record WentOut (tables : ℕ) (u : Unsent J S) (old new : List (SenderState Message)) : Type 0 where
    pub place : ℕ
    pub there : u.ticket.table ≤ tables → place ≡ u.ticket.table
    pub reaches : place < length old
    pub sent : (s : SenderState Message) → slice_get old place ≡ Some s → new ≡ slice_set old place (record s { sent = s.sent ++ message u.letter.item u.letter.end ∷ [] })

  -- where there was one it went, or was refused and is kept with all that it brings
  abbrev pub WentOrStayed : Bool → ℕ → Option (Unsent J S) → List (SenderState Message) → List (SenderState Message) → Option (Unsent J S) → Type 0
  WentOrStayed sent tables None old new kept = (sent ≡ true) × (new ≡ old) × (kept ≡ None)
  WentOrStayed true tables (Some u) old new kept = WentOut tables u old new × (kept ≡ None)
  WentOrStayed false tables (Some u) old new kept = (new ≡ old) × (kept ≡ Some u)

  -- so it was with the hand's letter, and nothing else of the hand changed
  pub record SentOrKept (sent : Bool) (tables : ℕ) (unsent : Option (Unsent J S)) (old new : HandView J S) : Type 0 where
    pub letter : WentOrStayed sent tables unsent old.senders new.senders new.unsent
    pub others : new ≡ record old { senders = new.senders; unsent = new.unsent }
