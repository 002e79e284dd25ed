use Rattle.std.proofs.Common.{◌≡◌, drop}
use Rattle.otp_file.specs.RolesFaults.{unknown_from}
use Rattle.otp_file.proofs.roles.fault.unknown_in.Given as goal

abbrev pub invariant-loop-place : goal.invariant-loop-place
invariant-loop-place l = unknown_from l.nested l.place (drop l.place l.specs) ≡ unknown_from l.nested 0 l.specs
