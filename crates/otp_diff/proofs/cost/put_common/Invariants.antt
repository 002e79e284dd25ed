use Rattle.std.proofs.Common.{◌≡◌, ◌++◌, drop}
use Rattle.otp_diff.specs.Costs.{common}
use Rattle.otp_diff.proofs.cost.put_common.Given as goal

abbrev pub invariant-loop-name : goal.invariant-loop-name
invariant-loop-name l = l.names ++ common l.news (drop l.name-index l.olds) ≡ l.fn.names ++ common l.news l.olds
