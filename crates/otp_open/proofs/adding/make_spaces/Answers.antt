use Rattle.std.proofs.Common.{◌≡◌, ◌≤◌, ◌++◌, ◌∷◌, [], ◌∙◌, ap, arith, get_or, length, subst, sym, take}
use Rattle.std.proofs.lemmas.List.{take_all, take_more}
use Rattle.otp_open.specs.Adds.{Fit}
use Rattle.otp_open.proofs.Adds.{fit_more}
use Rattle.otp_open.proofs.adding.make_spaces.Goals as goal

pub loop-place-preserved : goal.loop-place-preserved
loop-place-preserved g c =
    let plans = c.args.plans.now in
    let n = c.loop-place.place in
    let p = c.index-plans-place.result in
    let more = take_more plans n p (omega (arith, c.loop-place-test.true)) ∙ ap (λ x. take n plans ++ x ∷ []) (sym c.index-plans-place.is) in
    let kept = c.in-Ok-keep.ensures {u = tt} in
    let made = c.in-Ok.ensures {u = tt} in
    let room = made.room in
    let len = c.len.ensures in
    let q = get_or plans n p in
    let ok = q.bodies.ok.0 in
    let many : length q.bodies.items ≤ c.in-Ok.space.room = omega (arith, room, len, ok) in
    subst (λ l. Fit l c.keep.new.list.items) (sym more)
    (subst (Fit (take n plans ++ p ∷ [])) (sym kept) (fit_more (take n plans) _ p c.in-Ok.space c.loop-place.invariant (record { none = made.none; room = subst (λ plan. length plan.bodies.items ≤ c.in-Ok.space.room) (sym c.index-plans-place.is) many })))

pub returns : goal.returns
returns g c = subst (λ l. Fit l c.loop-place.spaces.items) (take_all c.loop-place.place c.args.plans.now (omega (arith, c.loop-place-test.false))) c.loop-place.invariant
