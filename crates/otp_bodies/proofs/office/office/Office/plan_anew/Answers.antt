use Rattle.std.proofs.Common.{◌≡◌, [], ap, drop, subst, sym, ◌∙◌}
use Rattle.otp_core.specs.View.{View}
use Rattle.otp_bodies.specs.Offices.{IsOffice, OfficeView}
use Rattle.otp_bodies.specs.Orders.{orders_in}
use Rattle.otp_bodies.proofs.Anew.{planned_anew}
use Rattle.otp_bodies.proofs.office.office.Office.plan_anew.Goals as goal

pub invariant_of-self : goal.invariant_of-self
invariant_of-self g c =
    let none : c.self.inside.core.history ≡ [] = ap (λ (o : OfficeView). o.core.history) c.self.view_is ∙ c.requires in
    let Is : View → Type 0 = λ v. IsOffice (record { core = v; owner = c.self.inside.owner; outbox = orders_in (drop 0 v.effects); sent = c.self.inside.sent.count; first_slot = c.self.inside.first_slot }) in
    subst Is (sym (c.replace-old.ensures.after ∙ c.of.ensures.core)) (planned_anew _ c.args.supervisor.flags c.args.supervisor.specs c.of.ensures.limit none c.self.invariant)
