use Rattle.std.proofs.Common.{◌≡◌, drop}
use Rattle.otp_file.specs.RolesFaults.{misfit_from}
use Rattle.otp_file.proofs.roles.fault.misfit_in.Given as goal

abbrev pub invariant-loop-place : goal.invariant-loop-place
invariant-loop-place l = misfit_from l.nested l.place (drop l.place l.specs) ≡ misfit_from l.nested 0 l.specs
