-- A supervisor of a tree goes on under other flags and other specifications (supervisor, code_change/3, but for what is own).
use Rattle.std.specs.Prelude.{◌≡◌, ℕ, List, [], ⊤}
use Rattle.otp_base.specs.Lawful.{HasFault}
use Rattle.otp_base.specs.States.{state_in as state_of_base}
use Rattle.otp_base.specs.declared.base.Base.{Base}
use Rattle.otp_base.specs.declared.fault.BaseFault.{BaseFault}
use Rattle.otp_base.specs.declared.fault.ResumeFault.{ResumeFault}
use Rattle.otp_base.specs.declared.fault.ResumeFault.TheVariants as resume
use Rattle.otp_base.specs.Change.{IsRefusal, MayChange, changed}
use Rattle.otp_base.specs.declared.change.fault.ChangeFault.{ChangeFault}
use Rattle.otp_base.specs.declared.change.fault.ChangeFault.TheVariants as change
use Rattle.otp_driver.specs.Members.{Member, greatest, state_in}
use Rattle.otp_driver.specs.declared.driven.fault.ChangeRefusal.{ChangeRefusal}
use Rattle.otp_driver.specs.declared.driven.fault.ChangeRefusal.TheVariants.{OutOfMemory, OrdersWait, Change, Base as NoBase, Runs, Turns}
use Rattle.otp_rules.specs.Cuts.{short_base_of}
use Rattle.otp_rules.specs.State.{State}
use Rattle.otp_spec.specs.declared.child.ChildSpec.{ChildSpec}
use Rattle.otp_spec.specs.declared.flags.SupFlags.{SupFlags}

-- it goes on so: of what happened before the state is kept, without its answers and ends, and the greatest number that a process had
abbrev pub changed_member : SupFlags → List ChildSpec → Member → Member
changed_member flags specs m =
    record { base = changed flags specs (short_base_of (state_in m)); given = greatest m; history = []; effects = []; taken = 0 }

-- it may: no order waits, and the change may be made
pub record MayGoOn (flags : SupFlags) (specs : List ChildSpec) (m : Member) : Type 0 where
  pub orders : m.effects ≡ []
  pub change : MayChange flags specs (short_base_of (state_in m))

-- why a change isn't made, as the driver says it
abbrev pub change_refusal : ChangeFault → ChangeRefusal
change_refusal change.OutOfMemory = OutOfMemory
change_refusal why = Change why

-- why no core goes on from a checkpoint, as the driver says it
abbrev pub resume_refusal : ResumeFault → ChangeRefusal
resume_refusal resume.OutOfMemory = OutOfMemory
resume_refusal (resume.Base why) = NoBase why

-- no core goes on from the checkpoint that the change of this state gives, where this is the greatest number: it has this fault
abbrev pub HasNoCore : SupFlags → List ChildSpec → State → ℕ → BaseFault → Type 0
HasNoCore flags specs s number why =
    (b : Base) × (state_of_base b ≡ changed flags specs s) × (b.counts.greatest_number ≡ number) × HasFault b why

-- why this state isn't changed: memory was refused, or one of these
abbrev pub IsUnchangedState : SupFlags → List ChildSpec → State → ChangeRefusal → Type 0
IsUnchangedState flags specs s OutOfMemory = ⊤
IsUnchangedState flags specs s (Change why) = IsRefusal flags specs s why
IsUnchangedState flags specs s _ = ⊥

-- why no core goes on from it
abbrev pub IsUnchangedAs : SupFlags → List ChildSpec → State → ℕ → ChangeRefusal → Type 0
IsUnchangedAs flags specs s number OutOfMemory = ⊤
IsUnchangedAs flags specs s number OrdersWait = ⊥
IsUnchangedAs flags specs s number (Change why) = IsRefusal flags specs s why
IsUnchangedAs flags specs s number (NoBase why) = MayChange flags specs s × HasNoCore flags specs s number why
IsUnchangedAs flags specs s number Runs = ⊥
IsUnchangedAs flags specs s number Turns = ⊥

-- why a supervisor doesn't go on so: memory was refused, an order waits, or one of these
abbrev pub IsUnchanged : SupFlags → List ChildSpec → Member → ChangeRefusal → Type 0
IsUnchanged flags specs m OutOfMemory = ⊤
IsUnchanged flags specs m OrdersWait = ¬ (m.effects ≡ [])
IsUnchanged flags specs m (Change why) = IsRefusal flags specs (short_base_of (state_in m)) why
IsUnchanged flags specs m (NoBase why) =
    MayChange flags specs (short_base_of (state_in m)) × HasNoCore flags specs (short_base_of (state_in m)) (greatest m) why
IsUnchanged flags specs m Runs = ⊥
IsUnchanged flags specs m Turns = ⊥
