use Rattle.std.proofs.Common.{◌≡◌, ℕ, List, ap, arith, length, subst, ◌∙◌}
use Rattle.std.proofs.lemmas.List.{length-map}
use Rattle.otp_bodies.specs.Bodies.{are_ready, count_opened, handed_in}
use Rattle.otp_sup.specs.Anew.{PlannedUnder}
use Rattle.otp_bodies.specs.declared.bodies.Kept.{Kept}
use Rattle.otp_draft.specs.Plans.{body_at}
use Rattle.otp_open.proofs.Handed.{enough_ready}
use Rattle.otp_open.proofs.adding.plan_one.Goals as goal

pub hand_in_list-bodies-requires-clause-room : goal.hand_in_list-bodies-requires-clause-room
hand_in_list-bodies-requires-clause-room g c =
    let long = ap length c.number_bodies.ensures ∙ length-map c.args.plan.bodies.items (body_at c.args.first) in
    let room = c.requires.space.room in
    omega (arith, long, room)

pub plan_anew-requires-clause-bodies : goal.plan_anew-requires-clause-bodies
plan_anew-requires-clause-bodies g c =
    let plan = c.args.plan.supervisor in
    let wanted = count_opened plan.flags plan.specs in
    let long = ap length c.number_bodies.ensures ∙ length-map c.args.plan.bodies.items (body_at c.args.first) in
    let enough = c.requires.bodies in
    ap (λ (l : List Kept). are_ready wanted l) c.hand_in_list-bodies.ensures ∙ enough_ready wanted (length c.number_bodies.new.bodies.items) (omega (arith, long, enough))

pub returns-in-Ok-clause-planned : goal.returns-in-Ok-clause-planned
returns-in-Ok-clause-planned g c = λ is.
    let long = ap length c.number_bodies.ensures ∙ length-map c.args.plan.bodies.items (body_at c.args.first) in
    subst (λ (l : List Kept). PlannedUnder g.N.PlanNaming.plan c.args.sup.now.inbox c.args.plan.supervisor l) (c.hand_in_list-bodies.ensures ∙ ap (λ (n : ℕ). handed_in n) long) (c.in-Ok.ensures {u = tt}).planned
