-- What of a hand and of a client no turn and no call changes. (own)
use Rattle.std.specs.Prelude.{◌≡◌, ◌≢◌, ℕ, ◌+◌, List, Option, Some, None, map}
use Rattle.otp_inbox.specs.Tokens.{SenderState, TakerState}
use Rattle.otp_bodies.specs.declared.letter.Message.{Message}
use Rattle.otp_hand.specs.Hands.{TreeClientView, HandView}
use Rattle.otp_hand.specs.Sendings.{parts_at}

abbrev pub part_of : SenderState Message → ℕ
part_of s = s.parts

-- the parts of the right to send that each of these senders has
abbrev pub parts_in : List (SenderState Message) → List ℕ
parts_in senders = map part_of senders

-- where a hand stands among so many, and its parts of the right to send to each supervisor
pub record Standing : Type 0 where
  pub index : ℕ
  pub count : ℕ
  pub parts : List ℕ

module _ {J S : Type 0} where
  abbrev pub standing_of : HandView J S → Standing
  standing_of h = record { index = h.scheduler.own.index; count = h.scheduler.count; parts = parts_in h.senders }

  -- where each hand stands, with its parts of the right to send
  abbrev pub standings : List (HandView J S) → List Standing
  standings hands = map standing_of hands

-- from which inbox a client takes the root's notes, and its parts of the right to send to each supervisor
pub record Reach : Type 0 where
  pub waits : Option ℕ
  pub parts : List ℕ

abbrev pub inbox_of : Option (TakerState Message) → Option ℕ
inbox_of None = None
inbox_of (Some w) = Some w.inbox

abbrev pub reach_of : TreeClientView → Reach
reach_of c = record { waits = inbox_of c.waiter; parts = parts_in c.senders }

-- so many parts were split off the sender at this place, and no other lost any
pub record IsSplitAt (place parts : ℕ) (old new : List (SenderState Message)) : Type 0 where
  pub here : parts_at place new + parts ≡ parts_at place old
  pub others : (k : ℕ) → k ≢ place → parts_at k new ≡ parts_at k old

-- what these senders have of the right to send was split off others
abbrev pub AreSplit : List (SenderState Message) → List (SenderState Message) → List (SenderState Message) → Type 0
AreSplit split old new = (k : ℕ) → parts_at k new + parts_at k split ≡ parts_at k old
