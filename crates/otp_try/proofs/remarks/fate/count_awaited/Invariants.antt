use Rattle.std.proofs.Common.{◌≡◌, ◌+◌, ◌≤◌, drop}
use Rattle.std.specs.Prelude.{count_by}
use Rattle.otp_try.specs.Fate.{is_awaited}
use Rattle.otp_try.proofs.remarks.fate.count_awaited.Given as goal

abbrev pub invariant-loop-row : goal.invariant-loop-row
invariant-loop-row l =
    (l.count ≤ l.row-index) × (l.count + count_by is_awaited (drop l.row-index l.rows) ≡ count_by is_awaited l.rows)
