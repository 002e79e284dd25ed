use Rattle.std.proofs.Common.{arith, subst, sym}
use Rattle.otp_core.specs.View.{View}
use Rattle.otp_driver.specs.MemberInside.{IsMember}
use Rattle.otp_driver.specs.declared.driven.supervisor.Supervisor.TheInside.{Inside}
use Rattle.otp_driver.proofs.driven.supervisor.Supervisor.pass.Goals as goal

pub invariant_of-self-else-next-effects : goal.invariant_of-self-else-next-effects
invariant_of-self-else-next-effects c =
    let s : Inside = c.self.inside in
    let i = c.self.invariant in
    subst (λ (v : View). IsMember (record { flags = s.flags; core = v; taken = 0; seen = s.seen })) (sym c.clear_effects.ensures)
    (record { flags = i.flags; apart = i.apart; above = i.above; answered = λ k d inside. absurd (omega (arith, inside)) })
