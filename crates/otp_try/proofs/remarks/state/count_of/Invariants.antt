use Rattle.std.proofs.Common.{◌≡◌, ◌+◌, ◌≤◌, drop}
use Rattle.std.specs.Prelude.{count_by}
use Rattle.otp_try.specs.Standing.{does}
use Rattle.otp_try.proofs.remarks.state.count_of.Given as goal

abbrev pub invariant-loop-row : goal.invariant-loop-row
invariant-loop-row l =
    (l.count ≤ l.row-index) × (l.count + count_by (does l.doing) (drop l.row-index l.rows) ≡ count_by (does l.doing) l.rows)
