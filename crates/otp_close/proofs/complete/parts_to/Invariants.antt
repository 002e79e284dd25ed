use Rattle.std.proofs.Common.{◌≡◌, ◌+◌, ◌-◌, ◌^◌, min, take}
use Rattle.std.specs.Prelude.{sum_by}
use Rattle.otp_hand.specs.Sendings.{parts_at}
use Rattle.otp_close.proofs.Sums.{parts_by}
use Rattle.otp_close.proofs.complete.parts_to.Given as goal

abbrev pub invariant-loop-hand : goal.invariant-loop-hand
invariant-loop-hand g l = l.parts ≡ min (parts_at l.place l.client.senders + sum_by (parts_by l.place) (take l.hand-index l.hands)) (2 ^ 64 - 1)
