use Rattle.std.proofs.Common.{◌∙◌, ap, arith, false, refl, sym, true}
use Rattle.std.proofs.lemmas.List.{length-replicate, length-set}
use Rattle.otp_spec.specs.declared.marks.TheConstants.{MARKS}
use Rattle.otp_spec.specs.Faults.{answer_of}
use Rattle.otp_spec.proofs.FaultLemmas.{fault_found, fault_passed, no_fault_left}
use Rattle.otp_spec.proofs.Unseen.{none_repeats_at, seen_on}
use Rattle.otp_spec.proofs.check.check_many.Goals as goal

pub loop-index-init : goal.loop-index-init
loop-index-init c =
    record {
      before = refl;
      seen = λ k d lt within. absurd (omega (arith, lt));
      len = length-replicate MARKS false;
    }

pub fault_at-requires : goal.fault_at-requires
fault_at-requires c unseen = none_repeats_at _ _ _ _ _ c.mark_of-mark.ensures.mark c.loop-index.invariant.seen unseen

pub returns-in-Some : goal.returns-in-Some
returns-in-Some c =
    sym (ap answer_of (fault_found _ _ _ _ _ c.loop-index-test.true c.loop-index.invariant.before (sym c.fault_at.ensures ∙ c.in-Some.is)))

pub loop-index-preserved : goal.loop-index-preserved
loop-index-preserved c =
    record {
      before = fault_passed _ _ _ _ c.loop-index-test.true c.loop-index.invariant.before (sym c.fault_at.ensures ∙ c.in_default.is);
      seen = seen_on _ _ _ _ _ c.loop-index-test.true (omega (arith, c.mark_of-mark.ensures.limit, c.loop-index.invariant.len)) c.mark_of-mark.ensures.mark c.loop-index.invariant.seen;
      len = length-set c.loop-index.seen c.mark_of-mark.result true ∙ c.loop-index.invariant.len;
    }

pub returns : goal.returns
returns c = sym (ap answer_of (no_fault_left _ _ _ c.loop-index-test.false c.loop-index.invariant.before))
