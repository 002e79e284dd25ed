use Rattle.std.proofs.Common.{◌≡◌, ◌+◌, ◌-◌, ◌≤◌}
use Rattle.otp_spec.specs.declared.limits.TheConstants.{MAX_TABLES}
use Rattle.otp_jobs.specs.Plans.{joined, total}
use Rattle.otp_jobs.proofs.plan.joined.Given as goal

abbrev pub invariant-loop : goal.invariant-loop
invariant-loop l =
    (joined l.size (l.count - l.counter) l.rest ≡ joined 1 l.count l.sizes) × (l.size + total l.rest ≤ MAX_TABLES)
