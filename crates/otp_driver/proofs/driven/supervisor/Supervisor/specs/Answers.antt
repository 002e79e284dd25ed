use Rattle.std.proofs.Common.{◌∙◌, ap}
use Rattle.otp_core.specs.View.{View, checkpoint_of, past_of, stored_of}
use Rattle.otp_rules.specs.State.{State}
use Rattle.otp_driver.specs.Members.{Member}
use Rattle.otp_driver.proofs.Plans.{specs_stay}
use Rattle.otp_driver.proofs.driven.supervisor.Supervisor.specs.Goals as goal

pub returns : goal.returns
returns c =
    let core : View = c.self.inside.core in
    c.as_slice.ensures.value
    ∙ ap (λ (s : State). s.specs) c.machine.ensures.state
    ∙ specs_stay c.step_keeps_plan.ensures (checkpoint_of core) (stored_of core)
    ∙ specs_stay c.step_keeps_plan.ensures core.base (past_of core)
    ∙ ap (λ (m : Member). m.base.specs) c.self.view_is
