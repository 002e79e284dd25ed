use Rattle.std.proofs.Common.{◌≡◌, ◌-◌, true, length, arith, ap, sym, ◌∙◌, subst}
use Rattle.std.specs.Prelude.{Contains}
use Rattle.otp_signals.specs.declared.view.Holding.{Holding}
use Rattle.otp_signals.specs.Lists.{has}
use Rattle.otp_signals.specs.Rules.{Fits}
use Rattle.otp_signals.proofs.Sums.{has-cut, has-kept_above, has-kept_below}
use Rattle.otp_signals.proofs.FitsLemmas.{Fits-kept, Fits-cut}
use Rattle.otp_signals.proofs.Membership.{has-Contains, Contains-has}
use Rattle.otp_signals.proofs.words.Words.split.Goals as goal

pub cut-seat-requires-clause-slots : goal.cut-seat-requires-clause-slots
cut-seat-requires-clause-slots g c = λ slot lo hi. has-Contains slot _ (subst (λ (h : Holding). Contains h.slots slot) (sym c.owner.view_is) (c.requires.slots slot lo hi))

pub invariant_of-result : goal.invariant_of-result
invariant_of-result g c =
    let a = c.args in
    let h : Holding = c.owner.inside.seat.me.0.holding in
    let e = c.cut-seat.ensures.new in
    let me = ap (λ m. m.0.holding) e.1 in
    let q = c.owner.invariant.2 in
    let n = c.if-owner-quota.false in (
      e.0,
      ap (λ m. m.1) e.1,
      sym (ap (λ (k : Holding). k.quota) me),
      sym (ap (λ (k : Holding). length k.drawn) me),
      subst (λ (k : Holding). Fits g.N.WordsNaming.words.words k) (sym me) (Fits-cut _ a.slots.start a.slots.end a.quota h (omega (arith, q, n)) c.owner.invariant.4),
      ap (λ m. m.0.looks) e.1,
    )

pub invariant_of-owner : goal.invariant_of-owner
invariant_of-owner g c =
    let a = c.args in
    let h : Holding = c.owner.inside.seat.me.0.holding in
    let e = c.cut-seat.ensures.old in
    let me = ap (λ m. m.0.holding) e.1 in (
      e.0,
      ap (λ m. m.1) e.1,
      ap (λ q. q - a.quota) c.owner.invariant.2 ∙ sym (ap (λ (k : Holding). k.quota) me),
      c.owner.invariant.3 ∙ sym (ap (λ (k : Holding). length k.drawn) me),
      subst (λ (k : Holding). Fits g.N.WordsNaming.words.words k) (sym me) (Fits-kept _ a.slots.start a.slots.end a.quota h c.owner.invariant.4),
      ap (λ m. m.0.looks) e.1 ∙ c.owner.invariant.5,
    )

pub returns-clause-moved : goal.returns-clause-moved
returns-clause-moved g c = λ slot lo hi.
    let a = c.args in
    let h : Holding = c.owner.inside.seat.me.0.holding in
    let me = ap (λ m. m.0.holding) c.cut-seat.ensures.new.1 in
    let mine : has slot h.slots ≡ true = has-Contains slot h.slots (subst (λ (k : Holding). Contains k.slots slot) (sym c.owner.view_is) (c.requires.slots slot lo hi)) in
    subst (λ (k : Holding). Contains k.slots slot) (sym me) (Contains-has slot _ (has-cut a.slots.start a.slots.end slot h.slots lo hi mine))

pub returns-clause-lower : goal.returns-clause-lower
returns-clause-lower g c = λ slot hi had.
    let a = c.args in
    let h : Holding = c.owner.inside.seat.me.0.holding in
    let me = ap (λ m. m.0.holding) c.cut-seat.ensures.old.1 in
    let mine : has slot h.slots ≡ true = has-Contains slot h.slots (subst (λ (k : Holding). Contains k.slots slot) (sym c.owner.view_is) had) in
    subst (λ (k : Holding). Contains k.slots slot) (sym me) (Contains-has slot _ (has-kept_below a.slots.start a.slots.end slot h.slots hi mine))

pub returns-clause-upper : goal.returns-clause-upper
returns-clause-upper g c = λ slot lo had.
    let a = c.args in
    let h : Holding = c.owner.inside.seat.me.0.holding in
    let me = ap (λ m. m.0.holding) c.cut-seat.ensures.old.1 in
    let mine : has slot h.slots ≡ true = has-Contains slot h.slots (subst (λ (k : Holding). Contains k.slots slot) (sym c.owner.view_is) had) in
    subst (λ (k : Holding). Contains k.slots slot) (sym me) (Contains-has slot _ (has-kept_above a.slots.start a.slots.end slot h.slots lo mine))
