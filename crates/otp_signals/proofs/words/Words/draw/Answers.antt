use Rattle.std.proofs.Common.{◌<◌, ◌-◌, ◌+◌, length, length-append, [], ◌∷◌, arith, ap, sym, ◌∙◌, subst}
use Rattle.std.specs.Prelude.{All, Contains}
use Rattle.std.proofs.lemmas.List.Elements.{Contains-push, Contains-append_left}
use Rattle.otp_signals.specs.declared.view.Holding.{Holding}
use Rattle.otp_signals.specs.Rules.{Fits}
use Rattle.otp_signals.proofs.Moves.{draws}
use Rattle.otp_signals.proofs.FitsLemmas.{Fits-draw}
use Rattle.otp_signals.proofs.Membership.{All-Below}
use Rattle.otp_signals.proofs.words.Words.draw.Goals as goal

pub fetch_add-number-requires : goal.fetch_add-number-requires
fetch_add-number-requires g c =
    let i = c.owner.inside in
    let o = c.owner.invariant in
    let w = c.self.invariant in
    let q = o.2 in
    let n = c.if-owner-eq0.false in
    let left : 0 < i.seat.me.0.holding.quota = omega (arith, q, n) in
    (o.0 ∙ sym w.0, omega (arith, w.1.words), draws _ _ _ i.seat.me.0 i.seat.me.1 left)

pub invariant_of-owner : goal.invariant_of-owner
invariant_of-owner g c =
    let i = c.owner.inside in
    let o = c.owner.invariant in
    let e = c.fetch_add-number.ensures in
    let m = e.2.0 in
    let q = o.2 in
    let n = c.if-owner-eq0.false in
    let left : 0 < i.seat.me.0.holding.quota = omega (arith, q, n) in
    let number = c.fetch_add-number.result in
    let h : Holding = i.seat.me.0.holding in (
      e.0 ∙ o.0,
      ap (λ x. x.1) m ∙ o.1,
      ap (λ q. q - 1) o.2 ∙ sym (ap (λ x. x.0.holding.quota) m),
      ap (λ k. k + 1) o.3 ∙ sym (length-append h.drawn (number ∷ [])) ∙ sym (ap (λ x. length x.0.holding.drawn) m),
      subst (λ (k : Holding). Fits g.N.WordsNaming.words.words k) (sym (ap (λ x. x.0.holding) m)) (Fits-draw _ number h left e.2.2 o.4),
      ap (λ x. x.0.looks) m ∙ o.5,
    )

pub returns-clause-above : goal.returns-clause-above
returns-clause-above g c =
    let number = c.fetch_add-number.result in
    subst (λ (h : Holding). All (λ x. x < number) h.drawn) c.owner.view_is (All-Below number c.owner.inside.seat.me.0.holding.drawn c.fetch_add-number.ensures.2.3)

pub returns-clause-stands : goal.returns-clause-stands
returns-clause-stands g c =
    let number = c.fetch_add-number.result in
    let h : Holding = c.owner.inside.seat.me.0.holding in
    subst (λ l. Contains l number) (sym (ap (λ x. x.0.holding.drawn) c.fetch_add-number.ensures.2.0)) (Contains-push h.drawn number)

pub returns-clause-kept : goal.returns-clause-kept
returns-clause-kept g c = λ earlier had.
    let number = c.fetch_add-number.result in
    let h : Holding = c.owner.inside.seat.me.0.holding in
    let drew = subst (λ (k : Holding). Contains k.drawn earlier) (sym c.owner.view_is) had in
    subst (λ l. Contains l earlier) (sym (ap (λ x. x.0.holding.drawn) c.fetch_add-number.ensures.2.0)) (Contains-append_left h.drawn (number ∷ []) earlier drew)
