use Rattle.std.specs.Prelude.{Bool, true, false, ◌&&◌, nat_le, if◌then◌else◌, Option, Some, None}
use Rattle.otp_spec.specs.declared.flags.SupFlags.{SupFlags}
use Rattle.otp_spec.specs.declared.flags.Strategy.{Strategy}
use Rattle.otp_spec.specs.declared.flags.Strategy.TheVariants.{OneForOne, OneForAll, RestForOne, SimpleOneForOne}
use Rattle.otp_spec.specs.declared.flags.AutoShutdown.TheVariants.{Never}
use Rattle.otp_spec.specs.declared.limits.TheConstants.{MAX_INTENSITY, MAX_PERIOD, DEFAULT_INTENSITY, DEFAULT_PERIOD}
use Rattle.otp_spec.specs.declared.fault.SpecFault.{SpecFault}
use Rattle.otp_spec.specs.declared.fault.SpecFault.TheVariants.{BadFlag}

-- the flags that a supervisor has where none is named (Supervisor Behaviour, "Supervisor Flags")
abbrev pub default_flags : SupFlags
default_flags = record {
  strategy = OneForOne;
  intensity = DEFAULT_INTENSITY;
  period = DEFAULT_PERIOD;
  auto_shutdown = Never;
}

-- a supervisor whose children are all of one specification (Supervisor Behaviour, "Simplified one_for_one Supervisors")
abbrev pub is_simple : Strategy → Bool
is_simple OneForOne = false
is_simple OneForAll = false
is_simple RestForOne = false
is_simple SimpleOneForOne = true

-- the flags are within their limits: a period of at least 1 second (`supervisor`, sup_flags), and
-- an intensity of at most 1000 and a period of at most 1,000,000 seconds (own)
abbrev pub are_lawful_flags : SupFlags → Bool
are_lawful_flags flags = nat_le flags.intensity MAX_INTENSITY && nat_le 1 flags.period && nat_le flags.period MAX_PERIOD

-- the fault of the flags, if there is one (own)
abbrev pub flags_fault : SupFlags → Option SpecFault
flags_fault flags = if are_lawful_flags flags then None else Some BadFlag
