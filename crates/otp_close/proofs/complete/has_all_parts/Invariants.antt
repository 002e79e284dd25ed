use Rattle.std.proofs.Common.{◌≡◌, ℕ, ◌<◌}
use Rattle.otp_inbox.specs.Tokens.{all_parts}
use Rattle.otp_close.specs.Closes.{all_senders}
use Rattle.otp_hand.specs.Sendings.{parts_to}
use Rattle.otp_close.proofs.complete.has_all_parts.Given as goal

abbrev pub invariant-loop-place : goal.invariant-loop-place
invariant-loop-place g l = (k : ℕ) → k < l.place → parts_to k (all_senders l.client l.hands) ≡ all_parts
