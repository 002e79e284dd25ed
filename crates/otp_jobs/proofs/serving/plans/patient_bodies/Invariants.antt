use Rattle.std.proofs.Common.{◌≡◌, ◌++◌, length, map}
use Rattle.otp_jobs.specs.Patient.{patient_body}
use Rattle.otp_jobs.proofs.serving.plans.patient_bodies.Given as goal

abbrev pub invariant-loop-body : goal.invariant-loop-body
invariant-loop-body l =
    record {
      left : l.body-iterator.rest.len ≡ length l.body-iterator.rest.items;
      whole : l.all.items ++ map patient_body l.body-iterator.rest.items ≡ map patient_body l.fn.bodies.items;
    }
