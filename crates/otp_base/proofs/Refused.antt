-- A fault that is seen without memory is what the refusal says.
use Rattle.std.proofs.Common.{◌≡◌, Bool, true, false, not, Option, None, Some, subst}
use Rattle.std.specs.Prelude.{List, if◌then◌else◌}
use Rattle.otp_spec.specs.declared.child.ChildSpec.{ChildSpec}
use Rattle.otp_spec.specs.declared.fault.SpecFault.{SpecFault}
use Rattle.otp_spec.specs.declared.flags.SupFlags.{SupFlags}
use Rattle.otp_spec.specs.Supervisor.{supervisor_fault}
use Rattle.otp_rules.specs.State.{State}
use Rattle.otp_base.specs.declared.change.fault.ChangeFault.{ChangeFault}
use Rattle.otp_base.specs.declared.change.fault.ChangeFault.TheVariants as fault
use Rattle.otp_base.specs.Change.{is_quiet, is_turned, plan_fault, spec_fault, IsRefusal}

-- it is neither of those that come later
abbrev IsEarly : Option ChangeFault → Type 0
IsEarly (Some fault.Running) = ⊥
IsEarly (Some fault.OutOfMemory) = ⊥
IsEarly _ = Unit {0}

early : (quiet : Bool) (found : Option SpecFault) (turned : Bool) → IsEarly (if not quiet then Some fault.Busy else spec_fault found (if turned then Some fault.Turned else None))
early false found turned = tt
early true (Some _) turned = tt
early true None true = tt
early true None false = tt

plan_early : (flags : SupFlags) (specs : List ChildSpec) (s : State) → IsEarly (plan_fault flags specs s)
unfolding plan_fault
plan_early flags specs s = early (is_quiet s) (supervisor_fault flags specs) (is_turned s.flags.strategy flags.strategy s.rows)

pub refusal : (flags : SupFlags) (specs : List ChildSpec) (s : State) (why : ChangeFault) → plan_fault flags specs s ≡ Some why → IsRefusal flags specs s why
refusal flags specs s fault.Busy h = h
refusal flags specs s (fault.Spec _) h = h
refusal flags specs s fault.Turned h = h
refusal flags specs s fault.Running h = absurd (subst (λ (x : Option ChangeFault). IsEarly x) h (plan_early flags specs s))
refusal flags specs s fault.OutOfMemory h = absurd (subst (λ (x : Option ChangeFault). IsEarly x) h (plan_early flags specs s))
