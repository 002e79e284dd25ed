use Rattle.std.proofs.Common.{◌≡◌, drop}
use Rattle.otp_try_pages.specs.Scale.{millis_from}
use Rattle.otp_try_pages.proofs.scale.millis_in.Given as goal

abbrev pub invariant-loop-byte : goal.invariant-loop-byte
invariant-loop-byte l = millis_from l.total (drop l.byte-index l.word) ≡ millis_from 0 l.fn.word
