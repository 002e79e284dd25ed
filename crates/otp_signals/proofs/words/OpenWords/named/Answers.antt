use Rattle.std.proofs.Common.{length, ◌<◌, ap, sym, ◌∙◌, subst}
use Rattle.otp_signals.specs.declared.view.Holding.{Holding}
use Rattle.otp_signals.specs.Opens.{Opening}
use Rattle.otp_signals.specs.Rules.{Fits}
use Rattle.std.specs.Prelude.{Contains}
use Rattle.otp_signals.proofs.Sums.{has-slots_below}
use Rattle.otp_signals.proofs.Membership.{Contains-has}
use Rattle.otp_signals.proofs.FitsLemmas.{Fits-first}
use Rattle.otp_signals.proofs.words.OpenWords.named.Goals as goal

pub invariant_of-owner : goal.invariant_of-owner
invariant_of-owner g c =
    let i = c.self.invariant in
    let name = ap (λ (o : Opening). o.words) c.self.view_is ∙ c.requires in
    let me = i.2 in (
      i.1 ∙ name,
      ap (λ m. m.1) me,
      sym (ap (λ m. m.0.holding.quota) me),
      sym (ap (λ m. length m.0.holding.drawn) me),
      subst (λ (h : Holding). Fits g.N.WordsNaming.words.words h) (sym (ap (λ m. m.0.holding) me)) (Fits-first _ _ (sym (ap (λ t. t.words) name) ∙ i.0.words)),
      ap (λ m. m.0.looks) me,
    )

pub returns-clause-slots : goal.returns-clause-slots
returns-clause-slots g c = λ slot lo hi.
    let me = ap (λ m. m.0.holding) c.self.invariant.2 in
    let there = subst (λ (o : Opening). slot < o.slots) (sym c.self.view_is) hi in
    subst (λ (h : Holding). Contains h.slots slot) (sym me) (Contains-has slot _ (has-slots_below _ slot there))
