use Rattle.std.proofs.Common.{sym, ap, ◌∙◌}
use Rattle.otp_spec.specs.Faults.{answer_of}
use Rattle.otp_spec.proofs.FaultLemmas.{fault_found, fault_passed, no_fault_left}
use Rattle.otp_spec.proofs.check.check_few.Goals as goal

pub returns-in-Some : goal.returns-in-Some
returns-in-Some c =
    sym (ap answer_of (fault_found _ _ _ _ _ c.loop-index-test.true c.loop-index.invariant (sym c.fault_at.ensures ∙ c.in-Some.is)))

pub loop-index-preserved : goal.loop-index-preserved
loop-index-preserved c =
    fault_passed _ _ _ _ c.loop-index-test.true c.loop-index.invariant (sym c.fault_at.ensures ∙ c.in_default.is)

pub returns : goal.returns
returns c = sym (ap answer_of (no_fault_left _ _ _ c.loop-index-test.false c.loop-index.invariant))
