use Rattle.std.proofs.Common.{◌≡◌, arith, get_or}
use Rattle.std.specs.Prelude.{count_by}
use Rattle.otp_table.specs.Counted.{is_of}
use Rattle.otp_table.proofs.ByKind.{awaited_kinds}
use Rattle.otp_table.proofs.counts.ChildCounts.awaited.Goals as goal

pub returns : goal.returns
returns c rows counted =
    let first : get_or c.args.self.now.by_kind 1 0 ≡ count_by (is_of 1) rows = counted.kinds 1 (omega arith) in
    let three : get_or c.args.self.now.by_kind 3 0 ≡ count_by (is_of 3) rows = counted.kinds 3 (omega arith) in
    let four : get_or c.args.self.now.by_kind 4 0 ≡ count_by (is_of 4) rows = counted.kinds 4 (omega arith) in
    let five : get_or c.args.self.now.by_kind 5 0 ≡ count_by (is_of 5) rows = counted.kinds 5 (omega arith) in
    omega (arith, first, three, four, five, c.told.ensures, awaited_kinds rows)
