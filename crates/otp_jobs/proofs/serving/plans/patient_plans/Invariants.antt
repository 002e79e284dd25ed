use Rattle.std.proofs.Common.{◌≡◌, ◌+◌, ◌++◌, length, map}
use Rattle.otp_jobs.specs.Patient.{patient_of, patient_seen}
use Rattle.otp_jobs.proofs.serving.plans.patient_plans.Given as goal

abbrev pub invariant-loop-plan : goal.invariant-loop-plan
invariant-loop-plan l =
    record {
      left : l.plan-iterator.rest.len ≡ length l.plan-iterator.rest.items;
      whole : map patient_seen l.all.items ++ map patient_of l.plan-iterator.rest.items ≡ map patient_of l.fn.plans.items;
      count : length l.all.items + length l.plan-iterator.rest.items ≡ length l.fn.plans.items;
    }
