use Rattle.std.proofs.Common.{◌≡◌, ◌++◌, drop, map}
use Rattle.otp_base.specs.Change.{shared}
use Rattle.otp_base.proofs.change.rows.share.Given as goal

abbrev pub invariant-loop-row : goal.invariant-loop-row
invariant-loop-row l = l.list.items ++ map (shared l.specs) (drop l.row-index l.rows) ≡ map (shared l.specs) l.rows
