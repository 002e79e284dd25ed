use Rattle.std.proofs.Common.{◌≡◌, drop}
use Rattle.otp_suggest.specs.Found.{child_in}
use Rattle.otp_suggest.proofs.found.child_in.Given as goal

abbrev pub invariant-loop-spec : goal.invariant-loop-spec
invariant-loop-spec l = child_in l.path l.name (drop l.spec-index l.specs) ≡ child_in l.path l.name l.specs
