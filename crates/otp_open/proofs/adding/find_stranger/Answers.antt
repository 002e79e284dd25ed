use Rattle.std.proofs.Common.{◌≡◌, ap, arith, length, refl, rules, subst, sym, ◌∙◌}
use Rattle.std.specs.List.{AllPass}
use Rattle.std.specs.Prelude.{All, IsTrue, MatchOption}
use Rattle.std.proofs.lemmas.Option.{slice_get_read}
use Rattle.otp_draft.specs.Plans.{IsNear}
use Rattle.otp_open.specs.Adds.{IsWithin, is_within}
use Rattle.otp_open.proofs.EachOpened.{all_so_far, one_more}
use Rattle.otp_open.proofs.adding.find_stranger.Goals as goal

pub loop-place-preserved : goal.loop-place-preserved
loop-place-preserved g c =
    let plans = c.args.plans.now in
    let n = c.loop-place.place in
    let p = c.index-plans-place.result in
    let at = slice_get_read plans (length plans) n p refl (omega (arith, c.loop-place-test.true)) c.index-plans-place.is in
    let passes : IsTrue c.are_within.result = search rules in
    let near = subst (λ l. All IsNear l) c.as_slice.ensures.value (c.are_within.ensures.near passes) in
    let within = subst (λ l. AllPass (is_within (length plans)) l) c.as_slice.ensures.value (c.are_within.ensures.within passes) in
    record {
      near = one_more (λ plan. All IsNear plan.bodies.items) plans n p c.loop-place.invariant.near at (subst (λ plan. All IsNear plan.bodies.items) (sym c.index-plans-place.is) near);
      within = one_more (IsWithin (length plans)) plans n p c.loop-place.invariant.within at (subst (λ plan. IsWithin (length plans) plan) (sym c.index-plans-place.is) within);
    }

pub returns-then-not-are_within-clause-strange : goal.returns-then-not-are_within-clause-strange
returns-then-not-are_within-clause-strange g c =
    let plans = c.args.plans.now in
    let n = c.loop-place.place in
    let p = c.index-plans-place.result in
    let at = slice_get_read plans (length plans) n p refl (omega (arith, c.loop-place-test.true)) c.index-plans-place.is in
    let strange = c.are_within.ensures.strange (search rules) in
    subst (λ o. MatchOption o ⊥ (λ plan. ¬ (IsWithin (length plans) plan))) (sym at)
    (λ within. strange (
    subst (λ l. AllPass (is_within (length plans)) l) (sym c.as_slice.ensures.value) (subst (λ plan. IsWithin (length plans) plan) c.index-plans-place.is within)
    ))

pub returns-clause-near : goal.returns-clause-near
returns-clause-near g c =
    let plans = c.args.plans.now in
    all_so_far (λ plan. All IsNear plan.bodies.items) plans (length plans) (λ k less. c.loop-place.invariant.near k (omega (arith, less, c.loop-place-test.false))) refl

pub returns-clause-within : goal.returns-clause-within
returns-clause-within g c =
    let plans = c.args.plans.now in
    all_so_far (IsWithin (length plans)) plans (length plans) (λ k less. c.loop-place.invariant.within k (omega (arith, less, c.loop-place-test.false))) refl
