use Rattle.std.proofs.Common.{◌≡◌}
use Rattle.otp_spec.specs.Lawful.{faults_of}
use Rattle.otp_spec.proofs.FaultLemmas.{faults_from}
use Rattle.otp_spec.proofs.check.check_few.Given as goal

-- no fault stands before this place
abbrev pub invariant-loop-index : goal.invariant-loop-index
invariant-loop-index l = faults_of l.specs l.auto_shutdown ≡ faults_from l.specs l.auto_shutdown l.index
