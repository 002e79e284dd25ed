use Rattle.std.proofs.Common.{◌≡◌, List, None, subst, sym, ◌∙◌}
use Rattle.otp_spec.specs.declared.child.ChildSpec.{ChildSpec}
use Rattle.otp_spec.specs.declared.flags.SupFlags.{SupFlags}
use Rattle.otp_base.specs.States.{state_in}
use Rattle.otp_rules.specs.InOrder.{IsInOrder}
use Rattle.otp_rules.specs.State.{State}
use Rattle.otp_base.specs.Change.{MayChange, plan_fault}
use Rattle.otp_base.proofs.Kept.{no_plan_fault, order_stays}
use Rattle.otp_base.proofs.Refused.{refusal}
use Rattle.otp_base.proofs.Resumes.{resumes}
use Rattle.otp_base.proofs.change.changing.change.Goals as goal

pub returns-in-Some-clause-fault : goal.returns-in-Some-clause-fault
returns-in-Some-clause-fault c = refusal c.args.flags.now c.args.specs.now (state_in c.args.base.now) c.in-Some.why (sym c.plan_fault.ensures.fault ∙ c.in-Some.is)

pub returns-clause-resumes : goal.returns-clause-resumes
returns-clause-resumes c =
    let flags : SupFlags = c.args.flags.now in
    let specs : List ChildSpec = c.args.specs.now in
    let planned : plan_fault flags specs (state_in c.args.base.now) ≡ None = sym c.plan_fault.ensures.fault ∙ c.in_default.is in
    λ lawful.
    resumes flags specs c.args.base.now c.in_ok-new.new c.in_ok-new.ensures.state c.in_ok-new.ensures.counts
    (c.plan_fault.ensures.lawful c.in_default.is) (no_plan_fault flags specs (state_in c.args.base.now) planned).1 lawful

pub returns-clause-order : goal.returns-clause-order
returns-clause-order c =
    let flags : SupFlags = c.args.flags.now in
    let specs : List ChildSpec = c.args.specs.now in
    let planned : plan_fault flags specs (state_in c.args.base.now) ≡ None = sym c.plan_fault.ensures.fault ∙ c.in_default.is in
    let may : MayChange flags specs (state_in c.args.base.now) = record { planned = planned; kept = c.in_ok-rows.ensures.kept } in
    λ n h. subst (λ (s : State). IsInOrder n s) (sym c.in_ok-new.ensures.state) (order_stays flags specs (state_in c.args.base.now) n may h)
