use Rattle.std.proofs.Common.{◌≡◌, length}
use Rattle.otp_spec.specs.Lawful.{faults_of}
use Rattle.otp_spec.specs.declared.marks.TheConstants.{MARKS}
use Rattle.otp_spec.specs.Marks.{AreSeen}
use Rattle.otp_spec.proofs.FaultLemmas.{faults_from}
use Rattle.otp_spec.proofs.check.check_many.Given as goal

-- no fault stands before this place, and the marks before it are set
abbrev pub invariant-loop-index : goal.invariant-loop-index
invariant-loop-index l =
    record {
      before : faults_of l.specs l.auto_shutdown ≡ faults_from l.specs l.auto_shutdown l.index;
      seen : AreSeen l.specs l.index l.seen;
      len : length l.seen ≡ MARKS;
    }
