use Rattle.std.specs.Prelude.{◌≡◌, ◌+◌, ◌<◌, ℕ, All, max}
use Rattle.std.proofs.Common.{◌∙◌, ap, arith, subst, sym}
use Rattle.otp_base.specs.Change.{MayChange, changed}
use Rattle.otp_core.specs.View.{View, state_of}
use Rattle.otp_rules.specs.Cuts.{short_base_of}
use Rattle.otp_rules.specs.Fit.{IsDistinct}
use Rattle.otp_rules.specs.Needs.{last_number, numbers_of}
use Rattle.otp_rules.specs.State.{State}
use Rattle.otp_driver.specs.DrivenChanged.{IsUnchangedAs}
use Rattle.otp_driver.specs.declared.driven.fault.ChangeRefusal.{ChangeRefusal}
use Rattle.otp_driver.proofs.DrivenChanged.{changed_apart, owned_after, unresumed}
use Rattle.otp_driver.proofs.driven.supervisor.changed_core.Goals as goal

pub returns-in-Ok-clause-apart : goal.returns-in-Ok-clause-apart
returns-in-Ok-clause-apart c =
    let core : View = c.args.core.now in
    let next : ℕ = max core.earlier.greatest_number (last_number core.history) + 1 in
    let numbers : All (λ n. n < next) (numbers_of core.history) = c.greatest_number-greatest.ensures.next next (omega (arith, c.greatest_number-greatest.ensures.greatest)) in
    let here : IsDistinct next (state_of core) =
    owned_after c.processes_are_owned.ensures.from_any core.base core.history core.earlier.greatest_number next
    c.requires.apart c.requires.above c.history-lawful.ensures.lawful (omega arith) numbers in
    let may : MayChange c.args.flags.now c.args.specs.now (short_base_of (state_of core)) = c.in_ok-base.ensures.possible in
    let apart : IsDistinct next (changed c.args.flags.now c.args.specs.now (short_base_of (state_of core))) =
    changed_apart c.children_stay.ensures c.args.flags.now c.args.specs.now (state_of core) next may here in
    let base : c.in-Ok.core.base ≡ changed c.args.flags.now c.args.specs.now (short_base_of (state_of core)) =
    ap (λ (v : View). v.base) c.in-Ok.ensures.core ∙ c.in_ok-base.ensures.state in
    let number : c.in-Ok.core.earlier.greatest_number + 1 ≡ next =
    ap (λ (v : View). v.earlier.greatest_number + 1) c.in-Ok.ensures.core ∙ ap (λ (n : ℕ). n + 1) c.in_ok-base.ensures.number in
    subst (λ (n : ℕ). IsDistinct n c.in-Ok.core.base) (sym number) (subst (λ (s : State). IsDistinct next s) (sym base) apart)

pub returns-clause-fault : goal.returns-clause-fault
returns-clause-fault c =
    let core : View = c.args.core.now in
    subst (λ (why : ChangeRefusal). IsUnchangedAs c.args.flags.now c.args.specs.now (short_base_of (state_of core)) (max core.earlier.greatest_number (last_number core.history)) why)
    (sym c.resume_refusal.ensures)
    (unresumed c.args.flags.now c.args.specs.now (short_base_of (state_of core)) (max core.earlier.greatest_number (last_number core.history)) c.in_ok-base.base c.in-Err.why
    c.in_ok-base.ensures.state c.in_ok-base.ensures.number c.in_ok-base.ensures.possible c.in-Err.ensures.fault)
