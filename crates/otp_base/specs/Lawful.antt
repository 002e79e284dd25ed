-- Which checkpoints are lawful.
use Rattle.std.specs.Prelude.{◌≡◌, ◌+◌, ◌-◌, ◌*◌, ◌≤◌, ◌<◌, ℕ, Bool, true, false, ◌&&◌, List, All, Option, None, Some, get_or, length, nat_le, nat_lt}
use Rattle.std.specs.List.Sorted.{IsNonDecreasing}
use Rattle.otp_spec.specs.declared.flags.SupFlags.{SupFlags}
use Rattle.otp_spec.specs.declared.limits.TheConstants.{MAX_CHILDREN, MAX_READING}
use Rattle.otp_spec.specs.Supervisor.{supervisor_fault, IsLawful as IsLawfulPlan}
use Rattle.otp_rules.specs.declared.ending.Ending.TheVariants.{Intensity}
use Rattle.otp_rules.specs.declared.work.Phase.{Phase}
use Rattle.otp_rules.specs.declared.work.Phase.TheVariants.{Ended}
use Rattle.otp_rules.specs.declared.work.Sequel.{Sequel}
use Rattle.otp_rules.specs.declared.work.Sequel.TheVariants as sequel
use Rattle.otp_base.specs.declared.base.Base.{Base}
use Rattle.otp_base.specs.declared.base.Counts.{Counts}
use Rattle.otp_base.specs.declared.fault.BaseFault.{BaseFault}
use Rattle.otp_base.specs.declared.fault.BaseFault.TheVariants as fault
use Rattle.otp_base.specs.declared.fault.ResumeFault.{ResumeFault}
use Rattle.otp_base.specs.declared.fault.ResumeFault.TheVariants as resume
use Rattle.otp_base.specs.declared.lawful.TheConstants.{MAX_COUNT}

-- the supervisor is ending by the intensity, or has ended by it
abbrev pub ends_by_intensity : Option Sequel → Phase → Bool
ends_by_intensity (Some (sequel.End Intensity)) phase = true
ends_by_intensity None (Ended own Intensity) = true
ends_by_intensity _ phase = false

-- of restarts in their order there are more than the intensity, all within one period of milliseconds
-- (Supervisor Behaviour, Maximum Restart Intensity)
abbrev pub is_crowded : ℕ → ℕ → List ℕ → Bool
is_crowded intensity period stamps =
    nat_lt intensity (length stamps) && nat_le (get_or stamps (length stamps - 1) 0 - get_or stamps 0 0) (1000 * period)

-- the last restarts of a supervisor: they are one too many exactly where it ends by them
pub record AreRestarts (flags : SupFlags) (stamps : List ℕ) (last : ℕ) (follows : Option Sequel) (phase : Phase) : Type 0 where
  pub ordered : IsNonDecreasing stamps
  pub latest : All (λ t. t ≤ last) stamps
  pub few : length stamps ≤ flags.intensity + 1
  pub rate : is_crowded flags.intensity flags.period stamps ≡ ends_by_intensity follows phase

abbrev pub HasRestarts : Base → Type 0
HasRestarts b = AreRestarts b.flags b.stamps.items b.last b.follows b.phase

-- what is counted can be counted on
abbrev pub AreCounts : Counts → Type 0
AreCounts c = (c.starts ≤ c.events) × (c.events ≤ MAX_COUNT)

-- a core can go on from the checkpoint
pub record IsLawful (b : Base) : Type 0 where
  pub plan : IsLawfulPlan b.flags b.specs.items
  pub faultless : supervisor_fault b.flags b.specs.items ≡ None
  pub few : length b.rows.items ≤ MAX_CHILDREN
  pub last : b.last ≤ MAX_READING
  pub restarts : HasRestarts b
  pub counts : AreCounts b.counts

-- the checkpoint has this fault
abbrev pub HasFault : Base → BaseFault → Type 0
HasFault b (fault.Spec why) = supervisor_fault b.flags b.specs.items ≡ Some why
HasFault b fault.Rows = MAX_CHILDREN < length b.rows.items
HasFault b fault.Reading = MAX_READING < b.last
HasFault b fault.Restarts = HasRestarts b → ⊥
HasFault b fault.Counts = AreCounts b.counts → ⊥

-- the refusal names a fault of the checkpoint, or is for want of memory
abbrev pub IsResumeFault : Base → ResumeFault → Type 0
IsResumeFault b (resume.Base why) = HasFault b why
IsResumeFault b resume.OutOfMemory = IsLawful b
