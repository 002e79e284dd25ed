-- What a supervisor is opened with (supervisor, init/1).
use Rattle.std.specs.Prelude.{◌≡◌, ◌≤◌, not, ◌&&◌, ◌==◌, nat_lt, if◌then◌else◌, length, List, Option, Some, None}
use Rattle.otp_spec.specs.declared.child.ChildSpec.{ChildSpec}
use Rattle.otp_spec.specs.declared.fault.SpecFault.{SpecFault}
use Rattle.otp_spec.specs.declared.fault.SpecFault.TheVariants.{BadFlag, SimpleNeedsOne, TooManyChildren}
use Rattle.otp_spec.specs.declared.flags.SupFlags.{SupFlags}
use Rattle.otp_spec.specs.declared.flags.Strategy.TheVariants.{SimpleOneForOne}
use Rattle.otp_spec.specs.declared.limits.TheConstants.{MAX_CHILDREN, MAX_INTENSITY, MAX_PERIOD}
use Rattle.otp_spec.specs.declared.supervisor.SupSpec.TheInside.{Inside}
use Rattle.otp_spec.specs.Flags.{are_lawful_flags, is_simple}
use Rattle.otp_spec.specs.Lawful.{first_fault}

-- the flags, and the specifications of the children in start order
pub record Supervisor : Type 0 where
  pub flags : SupFlags
  pub specs : List ChildSpec

abbrev pub supervisor_of : Inside → Supervisor
supervisor_of s = record { flags = s.flags; specs = s.specs.items }

-- a supervisor may be opened with them: each limit is kept (own), the period is at least a second, dynamic children
-- have one specification (Supervisor Behaviour, Simplified one_for_one Supervisors), and the specifications are lawful
pub record IsLawful (flags : SupFlags) (specs : List ChildSpec) : Type 0 where
  pub intensity : flags.intensity ≤ MAX_INTENSITY
  pub some_period : 1 ≤ flags.period
  pub period : flags.period ≤ MAX_PERIOD
  pub limit : length specs ≤ MAX_CHILDREN
  pub simple : flags.strategy ≡ SimpleOneForOne → length specs ≡ 1
  pub faultless : first_fault specs (Some flags.auto_shutdown) ≡ None

abbrev pub IsLawfulInside : Inside → Type 0
IsLawfulInside s = IsLawful s.flags s.specs.items

-- the first fault: the flags, one specification for dynamic children
-- (Supervisor Behaviour, Simplified one_for_one Supervisors), at most so many (own), and then the specifications
unfoldable pub supervisor_fault : SupFlags → List ChildSpec → Option SpecFault
supervisor_fault flags specs =
    if not (are_lawful_flags flags) then Some BadFlag
    else if is_simple flags.strategy && not (length specs == 1) then Some SimpleNeedsOne
    else if nat_lt MAX_CHILDREN (length specs) then Some TooManyChildren
    else first_fault specs (Some flags.auto_shutdown)
