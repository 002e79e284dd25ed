-- Under other flags and specifications each process is still one child's, and has no number that is still to come.
use Rattle.std.specs.Prelude.{◌≡◌, ◌+◌, ◌<◌, ◌≤◌, ℕ, All, Bool, List, false, refl}
use Rattle.std.proofs.Common.{◌∙◌, arith, get_or}
use Rattle.otp_base.specs.Lawful.{IsResumeFault}
use Rattle.otp_base.specs.States.{state_in}
use Rattle.otp_base.specs.declared.base.Base.{Base}
use Rattle.otp_base.specs.declared.fault.ResumeFault.{ResumeFault}
use Rattle.otp_base.specs.declared.fault.ResumeFault.TheVariants as resume
use Rattle.otp_base.specs.Change.{MayChange, changed}
use Rattle.otp_base.specs.Laws.{ChildrenStay}
use Rattle.otp_base.proofs.Counted.{by_state}
use Rattle.otp_driver.specs.DrivenChanged.{IsUnchanged, IsUnchangedAs, resume_refusal}
use Rattle.otp_driver.specs.Members.{Member, greatest, state_in as state_of_member}
use Rattle.otp_driver.specs.declared.driven.fault.ChangeRefusal.{ChangeRefusal}
use Rattle.otp_driver.specs.declared.driven.fault.ChangeRefusal.TheVariants as refusal
use Rattle.otp_rules.specs.Cuts.{short_base_of}
use Rattle.otp_rules.specs.Fit.{IsDistinct, rows_in}
use Rattle.otp_rules.specs.Needs.{IsLawfulHistory, numbers_of}
use Rattle.otp_rules.specs.Processes.{ProcessesStayOwned}
use Rattle.otp_rules.specs.Run.{state_after}
use Rattle.otp_rules.specs.State.{State}
use Rattle.otp_rules.specs.declared.event.Event.{Event}
use Rattle.otp_spec.specs.declared.child.ChildSpec.{ChildSpec}
use Rattle.otp_spec.specs.declared.flags.SupFlags.{SupFlags}
use Rattle.otp_table.specs.Rows.{has_process, row_has}
use Rattle.otp_table.specs.declared.row.RowState.{RowState}
use Rattle.otp_table.specs.declared.row.RowState.TheVariants.{Undefined}

-- after events whose numbers are above those that were given before
pub owned_after : ProcessesStayOwned → (base : State) (history : List Event) (given next : ℕ)
    → IsDistinct (given + 1) base → All (λ n. given < n) (numbers_of history)
    → IsLawfulHistory base history → given < next → All (λ n. n < next) (numbers_of history)
    → IsDistinct next (state_after base history)
owned_after owned base history given next apart above lawful low numbers =
    let later : All (λ n. given + 1 ≤ n) (numbers_of history) = λ i d inside. let more : given < get_or (numbers_of history) i d = above i d inside in omega (arith, more) in
    owned base history (given + 1) next lawful later numbers (omega (arith, low)) apart

pub changed_apart : ChildrenStay → (flags : SupFlags) (specs : List ChildSpec) (s : State) (next : ℕ)
    → MayChange flags specs (short_base_of s) → IsDistinct next s → IsDistinct next (changed flags specs (short_base_of s))
changed_apart stay flags specs s next may apart =
    let same : (t : RowState → Bool) → t Undefined ≡ false → rows_in t (changed flags specs (short_base_of s)).rows ≡ rows_in t s.rows =
    λ t none. stay flags specs (short_base_of s) (row_has t) may (by_state t none) in
    ((λ q. omega (arith, same (has_process q) refl, apart.0 q)), (λ q above. same (has_process q) refl ∙ apart.1 q above))

-- where no core goes on from the checkpoint that the change gives, it is told why
pub unresumed : (flags : SupFlags) (specs : List ChildSpec) (s : State) (number : ℕ) (b : Base) (why : ResumeFault)
    → state_in b ≡ changed flags specs s → b.counts.greatest_number ≡ number → MayChange flags specs s → IsResumeFault b why
    → IsUnchangedAs flags specs s number (resume_refusal why)
unresumed flags specs s number b resume.OutOfMemory state counts may fault = tt
unresumed flags specs s number b (resume.Base why) state counts may fault = (may, (b, state, counts, fault))

-- what is said of the state of a supervisor is said of it
pub unchanged : (flags : SupFlags) (specs : List ChildSpec) (m : Member) (why : ChangeRefusal)
    → IsUnchangedAs flags specs (short_base_of (state_of_member m)) (greatest m) why → IsUnchanged flags specs m why
unchanged flags specs m refusal.OutOfMemory said = said
unchanged flags specs m refusal.OrdersWait said = absurd said
unchanged flags specs m (refusal.Change why) said = said
unchanged flags specs m (refusal.Base why) said = said
unchanged flags specs m refusal.Runs said = said
unchanged flags specs m refusal.Turns said = said
