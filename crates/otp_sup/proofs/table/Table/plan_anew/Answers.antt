use Rattle.std.proofs.Common.{◌≡◌, List, None, ap, subst, sym, ◌∙◌}
use Rattle.otp_bodies.specs.Bodies.{BodiesView}
use Rattle.otp_bodies.specs.declared.bodies.Kept.{Kept}
use Rattle.otp_signals.specs.Counts.{after_publish}
use Rattle.otp_rules.specs.declared.call.CountsNow.{CountsNow}
use Rattle.otp_sup.proofs.Anew.{anew_table}
use Rattle.otp_sup.specs.Facts.{IsTable, TableView}
use Rattle.otp_sup.proofs.table.Table.plan_anew.Goals as goal

pub invariant_of-self : goal.invariant_of-self
invariant_of-self g c =
    let plans = g.N.PlanNaming.plan in
    let Is : List Kept → Type 0 = λ kept. IsTable plans (record { office = c.plan_anew.new.self; taker = c.self.inside.taker; bodies = kept; counts = c.publish.new.self; ends_told = c.self.inside.ends.items }) in
    let Free : TableView → Type 0 = λ t. plans t.taker.inbox ≡ None in
    subst Is (sym (ap (λ (b : BodiesView). b.kept) c.replace-old.ensures.after ∙ c.settle.ensures))
    (anew_table plans _ c.plan_anew.new.self c.args.supervisor c.args.bodies.kept c.publish.new.self c.self.invariant
    (ap (λ (t : TableView). t.office.core.history) c.self.view_is ∙ c.requires.history) (subst Free (sym c.self.view_is) c.requires.free) c.plan_anew.ensures c.keeps_rules.ensures
    c.requires.bodies c.has_one_each.ensures (c.publish.ensures ∙ ap (λ (n : CountsNow). after_publish n c.self.inside.counts) c.counts.ensures.counts))
