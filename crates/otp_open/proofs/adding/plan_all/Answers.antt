use Rattle.std.proofs.Common.{◌≡◌, ◌+◌, ◌<◌, ◌∙◌, length, ap, rules, subst, sym, arith}
use Rattle.std.specs.Prelude.{All}
use Rattle.otp_draft.specs.Plans.{IsNear}
use Rattle.otp_open.specs.Adds.{ArePlannedFrom, Fit}
use Rattle.otp_sup.specs.Anew.{PlannedUnder}
use Rattle.otp_bodies.specs.Bodies.{handed_in}
use Rattle.std.proofs.lemmas.Bool.{false≢true}
use Rattle.otp_open.specs.Plans.{HasBodies}
use Rattle.otp_open.proofs.Adds.{fit_next, of_next, of_others, some_space}
use Rattle.otp_open.proofs.adding.plan_all.Goals as goal
use Rattle.otp_open.proofs.adding.plan_all.Goals.{then-not-plan_one, else-not-plan_one}

pub next_of-space-requires : goal.next_of-space-requires
next_of-space-requires g c =
    let i = c.loop-plan.invariant in
    let next = (c.in-Some.ensures {u = tt}).steps.0 in
    let left = i.left_spaces in
    let some : 0 < length c.loop-plan.spaces.rest.items = some_space _ _ c.loop-plan.spaces.rest.items (subst (λ l. Fit l c.loop-plan.spaces.rest.items) next i.fit) in
    omega (arith, left, some)

pub plan_one-requires-clause-free : goal.plan_one-requires-clause-free
plan_one-requires-clause-free g c =
    ap g.N.PlanNaming.plan (c.in-Some-sup_at.ensures {u = tt}).there ∙ c.requires.free c.loop-plan.number c.loop-plan.invariant.from_first

pub plan_one-requires-clause-few : goal.plan_one-requires-clause-few
plan_one-requires-clause-few g c =
    let shorter = ap length (c.in-Some.ensures {u = tt}).steps.0 in
    let count = c.loop-plan.invariant.count in
    let from_first = c.loop-plan.invariant.from_first in
    let few = c.requires.few in
    omega (arith, shorter, count, from_first, few)

pub plan_one-requires-clause-bodies : goal.plan_one-requires-clause-bodies
plan_one-requires-clause-bodies g c = of_next HasBodies _ _ _ (c.in-Some.ensures {u = tt}).steps.0 c.loop-plan.invariant.bodies

pub plan_one-requires-clause-near : goal.plan_one-requires-clause-near
plan_one-requires-clause-near g c = of_next (λ plan. All IsNear plan.bodies.items) _ _ _ (c.in-Some.ensures {u = tt}).steps.0 c.loop-plan.invariant.near

pub plan_one-requires-clause-space : goal.plan_one-requires-clause-space
plan_one-requires-clause-space g c = (fit_next _ _ _ _ _ _ (c.in-Some.ensures {u = tt}).steps.0 c.next_of-space.ensures.next c.loop-plan.invariant.fit).0

pub loop-plan-preserved : goal.loop-plan-preserved
loop-plan-preserved g c =
    let i = c.loop-plan.invariant in
    let next = (c.in-Some.ensures {u = tt}).steps.0 in
    let fewer = (c.in-Some.ensures {u = tt}).steps.1 in
    let shorter = ap length next in
    let before = i.left in
    let spaces = c.next_of-space.ensures.next in
    let fewer_spaces = c.next_of-space.ensures.len in
    let shorter_spaces = ap length spaces in
    let before_spaces = i.left_spaces in
    let count = i.count in
    let from_first = i.from_first in
    record {
      left = omega arith;
      left_spaces = omega arith;
      count = omega arith;
      from_first = omega arith;
      bodies = of_others HasBodies _ _ _ next i.bodies;
      near = of_others (λ plan. All IsNear plan.bodies.items) _ _ _ next i.near;
      fit = (fit_next _ _ _ _ _ _ next spaces i.fit).1;
      planned =
          elim c.if-not-plan_one.branch [
            | then-not-plan_one w ↦ (λ all later. absurd (false≢true (sym w.are_all-is ∙ all)))
            | else-not-plan_one w ↦ (λ all later. i.planned (sym w.are_all-is ∙ all)
                (subst (λ l. ArePlannedFrom g.N.PlanNaming.plan c.loop-plan.number l) (sym next)
                (subst (λ n. PlannedUnder g.N.PlanNaming.plan n c.in-Some.plan.supervisor (handed_in (length c.in-Some.plan.bodies.items))) (c.in-Some-sup_at.ensures {u = tt}).there (c.plan_one.ensures.planned (search rules)), later)))
          ];
      occupied =
          elim c.if-not-plan_one.branch [
            | then-not-plan_one w ↦ (λ none. (c.in-Some-sup_at.sup.now.inbox, c.plan_one.ensures.occupied (search rules)))
            | else-not-plan_one w ↦ (λ none. i.occupied (sym w.are_all-is ∙ none))
          ];
    }
