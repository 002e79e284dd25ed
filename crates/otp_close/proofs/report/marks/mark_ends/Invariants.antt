use Rattle.std.proofs.Common.{◌<◌}
use Rattle.otp_run.specs.Lists.{AllAt}
use Rattle.otp_close.specs.Marks.{IsMarked, StayMarked}
use Rattle.otp_close.proofs.report.marks.mark_ends.Given as goal

abbrev pub invariant-loop-place : goal.invariant-loop-place
invariant-loop-place l =
    record {
      marked : AllAt (λ k x. k < l.place → IsMarked l.marks x.0) l.fn.ends;
      others : StayMarked l.fn.marks l.marks;
    }
