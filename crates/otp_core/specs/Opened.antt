-- What a refused opening says.
use Rattle.std.specs.Prelude.{◌≡◌, Option, Some, None}
use Rattle.otp_spec.specs.declared.fault.SpecFault.{SpecFault}
use Rattle.otp_core.specs.declared.opening.OpenFault.{OpenFault}
use Rattle.otp_core.specs.declared.opening.OpenFault.TheVariants as fault

-- the refusal names the fault, and is for want of memory only where there is none
abbrev pub IsOpenFault : OpenFault → Option SpecFault → Type 0
IsOpenFault (fault.Spec why) found = found ≡ Some why
IsOpenFault fault.OutOfMemory found = found ≡ None
