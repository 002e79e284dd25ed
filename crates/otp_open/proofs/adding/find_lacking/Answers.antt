use Rattle.std.proofs.Common.{◌≡◌, arith, length, refl, subst, sym}
use Rattle.std.specs.Prelude.{MatchOption}
use Rattle.std.proofs.lemmas.Option.{slice_get_read}
use Rattle.otp_open.specs.Plans.{HasBodies, LacksBody}
use Rattle.otp_open.proofs.EachOpened.{all_so_far, one_more}
use Rattle.otp_open.proofs.adding.find_lacking.Goals as goal

pub loop-place-preserved : goal.loop-place-preserved
loop-place-preserved g c =
    let plans = c.args.plans.now in
    let n = c.loop-place.place in
    let at = slice_get_read plans (length plans) n c.index-plans-place.result refl (omega (arith, c.loop-place-test.true)) c.index-plans-place.is in
    one_more HasBodies plans n c.index-plans-place.result c.loop-place.invariant at (c.lacks_body.ensures.has c.if-lacks_body.false)

pub returns-then-lacks_body-clause-lacks : goal.returns-then-lacks_body-clause-lacks
returns-then-lacks_body-clause-lacks g c =
    let plans = c.args.plans.now in
    let n = c.loop-place.place in
    let at = slice_get_read plans (length plans) n c.index-plans-place.result refl (omega (arith, c.loop-place-test.true)) c.index-plans-place.is in
    subst (λ o. MatchOption o ⊥ LacksBody) (sym at) (c.lacks_body.ensures.lacks c.if-lacks_body.true)

pub returns-clause-none : goal.returns-clause-none
returns-clause-none g c =
    let plans = c.args.plans.now in
    all_so_far HasBodies plans (length plans) (λ k less. c.loop-place.invariant k (omega (arith, less, c.loop-place-test.false))) refl
