use Rattle.std.proofs.Common.{◌≡◌, ℕ, List, ap, length, subst, sym, ◌∙◌}
use Rattle.otp_bodies.specs.Bodies.{are_ready, count_opened}
use Rattle.otp_bodies.specs.declared.bodies.Kept.{Kept}
use Rattle.otp_inbox.specs.Tokens.{TakerState}
use Rattle.otp_bodies.specs.declared.letter.Message.{Message}
use Rattle.otp_sup.proofs.Planned.{begun_by}
use Rattle.otp_sup.specs.Plans.{IsPlanned}
use Rattle.otp_open.proofs.Handed.{enough_ready}
use Rattle.otp_open.proofs.opening.open_at.Goals as goal

pub new-table-requires-clause-plan : goal.new-table-requires-clause-plan
new-table-requires-clause-plan g c =
    let plans = g.N.PlanNaming.plan in
    let own : c.args.place.taker.inbox ≡ c.args.number = ap (λ (t : TakerState Message). t.inbox) c.requires.ready.taker in
    begun_by (plans c.args.place.taker.inbox) c.args.plan.supervisor c.open-office.result.core.base (ap (λ o. o.core.base) c.open-office.ensures)
    (subst (λ (n : ℕ). IsPlanned (plans n) c.args.plan.supervisor) (sym own) c.requires.plan)

pub new-table-requires-clause-bodies : goal.new-table-requires-clause-bodies
new-table-requires-clause-bodies g c =
    let plan = c.args.plan.supervisor in
    let wanted = count_opened plan.flags plan.specs in
    ap (λ o. are_ready (count_opened o.core.base.flags o.core.base.specs) c.hand_in_list-bodies.result.kept) c.open-office.ensures
    ∙ ap (λ (l : List Kept). are_ready wanted l) c.hand_in_list-bodies.ensures ∙ enough_ready wanted (length c.args.plan.bodies.items) c.requires.bodies
