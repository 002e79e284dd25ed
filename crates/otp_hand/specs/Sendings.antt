-- What senders to each supervisor sent, and what they have of the right to send. (own)
use Rattle.std.specs.Prelude.{ℕ, ◌+◌, List, [], ◌++◌, Option, Some, None, map, min, slice_get, sum_by}
use Rattle.otp_inbox.specs.Lists.{together}
use Rattle.otp_inbox.specs.Tokens.{SenderState, all_parts, all_sent, plus, sent_lists}
use Rattle.otp_bodies.specs.declared.letter.Message.{Message}

abbrev pub parts_of : Option (SenderState Message) → ℕ
parts_of None = 0
parts_of (Some s) = s.parts

-- the parts of the right to send to one supervisor that these senders have
abbrev pub parts_at : ℕ → List (SenderState Message) → ℕ
parts_at place senders = parts_of (slice_get senders place)

-- the parts of the right to send to one supervisor that several lists of senders have together
abbrev pub parts_to : ℕ → List (List (SenderState Message)) → ℕ
parts_to place all = sum_by (parts_at place) all

abbrev pub sent_in : Option (SenderState Message) → List Message
sent_in None = []
sent_in (Some s) = all_sent s

-- what the one of these senders that sends to this supervisor sent, with those that it took in
abbrev pub sent_at : ℕ → List (SenderState Message) → List Message
sent_at place senders = sent_in (slice_get senders place)

-- what several lists of senders together sent to this supervisor
abbrev pub sent_to : ℕ → List (List (SenderState Message)) → List Message
sent_to place all = together (map (sent_at place) all)

-- a sender that took in another
abbrev pub with_sender : SenderState Message → SenderState Message → SenderState Message
with_sender other s = record { inbox = s.inbox; parts = min (s.parts + other.parts) all_parts; sent = s.sent; joined = s.joined ++ sent_lists other; shares = plus s.shares other.shares }
