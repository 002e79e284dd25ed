use Rattle.std.proofs.Common.{◌≡◌, ◌<◌, length}
use Rattle.otp_run.specs.Lists.{AllAt}
use Rattle.otp_hand.specs.Hands.{senders_of}
use Rattle.otp_close.proofs.complete.reach_as_far.Given as goal

abbrev pub invariant-loop-place : goal.invariant-loop-place
invariant-loop-place g l = AllAt (λ k hand. k < l.place → length (senders_of hand) ≡ l.count) l.hands
