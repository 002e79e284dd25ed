use Rattle.std.proofs.Common.{◌≡◌, ◌+◌, ◌<◌, ◌∙◌, Some, suc, add-zero, length, length-append, ap, subst, sym, arith}
use Rattle.std.specs.Prelude.{slice_get}
use Rattle.otp_run.specs.Lists.{AllAt}
use Rattle.otp_run.proofs.Places.{push_at}
use Rattle.otp_open.specs.Plans.{HasBodies}
use Rattle.otp_open.specs.Readies.{AreReadyFor}
use Rattle.otp_open.proofs.Adds.{of_next, of_others}
use Rattle.otp_open.proofs.Readies.{ready_next, some_place}
use Rattle.otp_open.proofs.opening.open_all.Goals as goal

pub next_of-place-requires : goal.next_of-place-requires
next_of-place-requires g c =
    let i = c.loop-plan.invariant in
    let next = (c.in-Some.ensures {u = tt}).steps.0 in
    let left = i.left_places in
    let some : 0 < length c.loop-plan.places.rest.items = some_place _ _ _ c.loop-plan.places.rest.items (subst (λ l. AreReadyFor c.loop-plan.number l c.loop-plan.places.rest.items) next i.ready) in
    omega (arith, left, some)

pub open_at-requires-clause-ready : goal.open_at-requires-clause-ready
open_at-requires-clause-ready g c = (ready_next _ _ _ _ _ _ _ (c.in-Some.ensures {u = tt}).steps.0 c.next_of-place.ensures.next c.loop-plan.invariant.ready).0

pub open_at-requires-clause-plan : goal.open_at-requires-clause-plan
open_at-requires-clause-plan g c =
    let n = c.loop-plan.number in
    let all = c.args.plans.items in
    let at : slice_get all n ≡ Some c.in-Some.plan = ap (slice_get all) (sym (add-zero n)) ∙ sym (c.loop-plan.invariant.plans 0) ∙ ap (λ l. slice_get l 0) (c.in-Some.ensures {u = tt}).steps.0 in
    rw at at (c.requires.plans n)

pub open_at-requires-clause-bodies : goal.open_at-requires-clause-bodies
open_at-requires-clause-bodies g c = of_next HasBodies _ _ _ (c.in-Some.ensures {u = tt}).steps.0 c.loop-plan.invariant.bodies

pub open_at-requires-clause-few : goal.open_at-requires-clause-few
open_at-requires-clause-few g c =
    let shorter = ap length (c.in-Some.ensures {u = tt}).steps.0 in
    let count = c.loop-plan.invariant.count in
    let few = c.requires.few in
    omega (arith, shorter, count, few)

pub loop-plan-preserved : goal.loop-plan-preserved
loop-plan-preserved g c =
    let i = c.loop-plan.invariant in
    let next = (c.in-Some.ensures {u = tt}).steps.0 in
    let fewer = (c.in-Some.ensures {u = tt}).steps.1 in
    let shorter = ap length next in
    let before = i.left in
    let places = c.next_of-place.ensures.next in
    let fewer_places = c.next_of-place.ensures.len in
    let shorter_places = ap length places in
    let before_places = i.left_places in
    let count = i.count in
    let room = i.room in
    record {
      left = omega arith;
      left_places = omega arith;
      plans = λ k. ap (λ l. slice_get l (suc k)) (sym next) ∙ i.plans (suc k) ∙ ap (slice_get c.args.plans.items) (omega arith);
      count = omega arith;
      many = ap length c.push_reserved.ensures.items ∙ length-append _ _ ∙ ap (λ m. m + 1) i.many;
      room = omega (arith, room, shorter, c.push_reserved.ensures);
      bodies = of_others HasBodies _ _ _ next i.bodies;
      ready = (ready_next _ _ _ _ _ _ _ next places i.ready).1;
      placed = subst (AllAt (λ k sup. sup.inbox ≡ k)) (sym c.push_reserved.ensures.items) (push_at (λ k sup. sup.inbox ≡ k) _ _ i.placed (c.open_at.ensures ∙ sym i.many));
    }
