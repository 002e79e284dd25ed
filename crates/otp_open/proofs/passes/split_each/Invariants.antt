use Rattle.std.proofs.Common.{◌≡◌, map, take}
use Rattle.otp_open.specs.Passes.{renewed}
use Rattle.otp_open.proofs.passes.split_each.Given as goal

abbrev pub invariant-loop-pass : goal.invariant-loop-pass
invariant-loop-pass l = (l.passes ≡ l.fn.passes) × (l.all.items ≡ map renewed (take l.pass-index l.fn.passes))
