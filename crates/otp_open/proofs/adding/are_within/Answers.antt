use Rattle.std.proofs.Common.{◌≡◌, ◌++◌, ◌∷◌, [], ◌∙◌, ap, arith, false, length, refl, rules, subst, sym, take, true}
use Rattle.std.specs.List.{AllPass}
use Rattle.std.specs.Prelude.{All, IsTrue}
use Rattle.std.proofs.lemmas.List.{take_all, take_more}
use Rattle.std.proofs.lemmas.List.Elements.{All-push}
use Rattle.otp_draft.specs.Plans.{IsNear}
use Rattle.otp_open.specs.Adds.{is_within}
use Rattle.otp_open.proofs.adding.are_within.Goals as goal

pub loop-place-preserved : goal.loop-place-preserved
loop-place-preserved g c =
    let bodies = c.args.bodies.now in
    let n = c.loop-place.place in
    let b = c.index-bodies-place.result in
    let more = take_more bodies n b (omega (arith, c.loop-place-test.true)) ∙ ap (λ x. take n bodies ++ x ∷ []) (sym c.index-bodies-place.is) in
    let within : IsTrue c.is_within.result = search rules in
    record {
      near = subst (λ l. All IsNear l) (sym more) (All-push IsNear (take n bodies) b c.loop-place.invariant.near (c.is_within.ensures.near within));
      within =
          subst (λ l. AllPass (is_within c.args.count) l) (sym more)
          (All-push (λ x. is_within c.args.count x ≡ true) (take n bodies) b c.loop-place.invariant.within (sym c.is_within.ensures.value ∙ within));
    }

pub returns-then-not-is_within-clause-strange : goal.returns-then-not-is_within-clause-strange
returns-then-not-is_within-clause-strange g c = λ _ all.
    let b = c.index-bodies-place.result in
    let passes : is_within c.args.count b ≡ true = subst (λ x. is_within c.args.count x ≡ true) (sym c.index-bodies-place.is) (all c.loop-place.place b (omega (arith, c.loop-place-test.true))) in
    let fails : is_within c.args.count b ≡ false = search rules in
    absurd (search rules)

pub returns-clause-near : goal.returns-clause-near
returns-clause-near g c = λ _. subst (λ l. All IsNear l) (take_all c.loop-place.place c.args.bodies.now (omega (arith, c.loop-place-test.false))) c.loop-place.invariant.near

pub returns-clause-within : goal.returns-clause-within
returns-clause-within g c = λ _. subst (λ l. AllPass (is_within c.args.count) l) (take_all c.loop-place.place c.args.bodies.now (omega (arith, c.loop-place-test.false))) c.loop-place.invariant.within
