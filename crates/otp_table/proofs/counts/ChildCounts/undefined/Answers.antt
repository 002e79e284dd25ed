use Rattle.std.proofs.Common.{◌∙◌, arith, sym}
use Rattle.otp_table.proofs.ByKind.{undefined_kind}
use Rattle.otp_table.proofs.counts.ChildCounts.undefined.Goals as goal

pub returns : goal.returns
returns c rows counted = counted.kinds 0 (omega arith) ∙ sym (undefined_kind rows)
