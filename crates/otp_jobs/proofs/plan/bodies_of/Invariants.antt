use Rattle.std.proofs.Common.{◌≡◌, ◌+◌, ◌≤◌, ◌++◌, drop, map, Some, None}
use Rattle.otp_spec.specs.declared.limits.TheConstants.{MAX_TABLES}
use Rattle.otp_file.specs.RolesFaults.{unknown_from}
use Rattle.otp_jobs.specs.Plans.{bodies_from, total}
use Rattle.otp_jobs.proofs.plan.bodies_of.Given as goal

-- the bodies so far, and those of the children that are left
abbrev pub invariant-loop-place : goal.invariant-loop-place
invariant-loop-place l =
    (map Some l.bodies.items ++ bodies_from l.nested l.numbers.next l.numbers.sizes.now l.place (drop l.place l.specs) ≡ bodies_from l.nested l.initial.numbers.next l.initial.numbers.sizes.now 0 l.specs) ×
    (unknown_from l.nested l.place (drop l.place l.specs) ≡ None) ×
    (l.numbers.next + total l.numbers.sizes.now ≤ MAX_TABLES)
