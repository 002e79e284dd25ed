use Rattle.std.proofs.Common.{◌≡◌, ◌+◌, ◌-◌, ◌^◌, length, min, take}
use Rattle.std.specs.Prelude.{sum_by}
use Rattle.otp_inbox.specs.Tokens.{count_limit}
use Rattle.otp_hand.specs.Sendings.{sent_at}
use Rattle.otp_close.proofs.Leavings.{counted_by}
use Rattle.otp_close.proofs.rooms.count_sent.Given as goal

abbrev pub invariant-loop-hand : goal.invariant-loop-hand
invariant-loop-hand g l = l.count ≡ min (min (length (sent_at l.place l.client.senders)) count_limit + sum_by (counted_by l.place) (take l.hand-index l.hands)) (2 ^ 64 - 1)
