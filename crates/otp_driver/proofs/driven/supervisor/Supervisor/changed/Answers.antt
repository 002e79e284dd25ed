use Rattle.std.specs.Prelude.{◌≡◌, length}
use Rattle.std.proofs.Common.{List, ap, arith, subst, sym}
use Rattle.otp_core.specs.View.{View}
use Rattle.otp_rules.specs.Needs.{numbers_of}
use Rattle.otp_rules.specs.State.{State}
use Rattle.otp_rules.specs.declared.event.Effect.{Effect}
use Rattle.otp_rules.specs.declared.event.Event.{Event}
use Rattle.otp_driver.specs.DrivenChanged.{IsUnchanged}
use Rattle.otp_driver.specs.MemberInside.{member_of}
use Rattle.otp_driver.specs.Members.{Member}
use Rattle.otp_driver.proofs.DrivenChanged.{unchanged}
use Rattle.otp_driver.proofs.driven.supervisor.Supervisor.changed.Goals as goal

pub invariant_of-result : goal.invariant_of-result
invariant_of-result c =
    let core : View = c.in-Ok.core in
    let none : length (numbers_of core.history) ≡ 0 = ap (λ (es : List Event). length (numbers_of es)) c.in-Ok.ensures.history in
    let few : length core.effects ≡ 0 = ap (λ (es : List Effect). length es) c.in-Ok.ensures.effects in
    record {
      flags = sym (ap (λ (s : State). s.flags) c.in-Ok.ensures.base);
      apart = c.in-Ok.ensures.apart;
      above = λ k d inside. absurd (omega (arith, inside, none));
      answered = λ k d inside. absurd (omega (arith, inside, few));
    }

pub returns-in-Err-clause-fault : goal.returns-in-Err-clause-fault
returns-in-Err-clause-fault c =
    subst (λ (m : Member). IsUnchanged c.args.flags.now c.args.specs.now m c.in-Err.why) c.self.view_is
    (unchanged c.args.flags.now c.args.specs.now (member_of c.self.inside) c.in-Err.why c.in-Err.ensures.fault)
