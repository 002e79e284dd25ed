use Rattle.std.proofs.Common.{◌∙◌, arith, sym}
use Rattle.otp_table.proofs.ByKind.{timed_kind}
use Rattle.otp_table.proofs.counts.ChildCounts.timed.Goals as goal

pub returns : goal.returns
returns c rows counted = counted.kinds 4 (omega arith) ∙ sym (timed_kind rows)
