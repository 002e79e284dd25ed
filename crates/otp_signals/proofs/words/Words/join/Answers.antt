use Rattle.std.proofs.Common.{◌+◌, ◌<◌, ◌++◌, length, arith, ap, sym, ◌∙◌, subst}
use Rattle.otp_signals.specs.declared.signal.TheConstants.{NUMBER_LIMIT}
use Rattle.otp_signals.specs.declared.view.Holding.{Holding}
use Rattle.otp_signals.specs.Lists.{AsOften, AllIn, NoneInBoth, Rises, merge}
use Rattle.otp_signals.specs.Holdings.{joined}
use Rattle.otp_signals.specs.Rules.{Fits}
use Rattle.otp_signals.proofs.FitsLemmas.{Fits-joined}
use Rattle.otp_signals.proofs.Joins.{joins}
use Rattle.otp_signals.proofs.Ends.{learns, merged_numbers, merged_left, merged_right, merged_none, merged_length}
use Rattle.otp_signals.proofs.words.Words.join.Goals as goal

pub join_seat-requires : goal.join_seat-requires
join_seat-requires g c =
    let w = c.self.invariant in
    let o = c.owner.invariant in
    let p = c.other.invariant in
    (o.0 ∙ sym w.0, p.0 ∙ sym w.0, p.1, omega (arith, w.1.words), joins _ _ _ _ _)

pub load-requires : goal.load-requires
load-requires g c =
    let w = c.self.invariant in
    let o = c.owner.invariant in
    let m = c.join_seat.new.seat.me in
    (c.join_seat.ensures.0 ∙ o.0 ∙ sym w.0, omega (arith, w.1.words), learns _ _ _ m.0 m.1)

pub invariant_of-owner : goal.invariant_of-owner
invariant_of-owner g c =
    let o = c.owner.invariant in
    let p = c.other.invariant in
    let h : Holding = c.owner.inside.seat.me.0.holding in
    let k : Holding = c.other.inside.seat.me.0.holding in
    let e = c.join_seat.ensures in
    let l = c.load.ensures in
    let me = l.2.0 ∙ e.2 in
    let same = ap (λ m. m.0.holding) me in
    let room : length (joined h k).drawn + (joined h k).quota < NUMBER_LIMIT = subst (λ (x : Holding). length x.drawn + x.quota < NUMBER_LIMIT) (ap (λ m. m.0.holding) e.2) l.2.2 in (
      l.0 ∙ e.0 ∙ o.0,
      ap (λ m. m.1) me ∙ o.1,
      (λ i. o.2 i + p.2 i) ∙ sym (ap (λ (x : Holding). x.quota) same),
      (λ i. o.3 i + p.3 i) ∙ sym (merged_length h.drawn k.drawn) ∙ sym (ap (λ (x : Holding). length x.drawn) same),
      subst (λ (x : Holding). Fits g.N.WordsNaming.words.words x) (sym same) (Fits-joined g.N.WordsNaming.words.words h k room o.4 p.4),
      ap (λ m. m.0.looks) me ∙ o.5,
    )

pub returns-clause-numbers : goal.returns-clause-numbers
returns-clause-numbers g c =
    let same = ap (λ m. m.0.holding) (c.load.ensures.2.0 ∙ c.join_seat.ensures.2) in
    subst (λ (x : Holding × Holding × Holding). AsOften x.0.drawn (x.1.drawn ++ x.2.drawn)) (λ i. (sym same i, c.owner.view_is i, c.other.view_is i))
    (merged_numbers c.owner.inside.seat.me.0.holding.drawn c.other.inside.seat.me.0.holding.drawn)

pub returns-clause-kept : goal.returns-clause-kept
returns-clause-kept g c =
    let same = ap (λ m. m.0.holding) (c.load.ensures.2.0 ∙ c.join_seat.ensures.2) in
    subst (λ (x : Holding × Holding). AllIn x.1.drawn x.0.drawn) (λ i. (sym same i, c.owner.view_is i))
    (merged_left c.owner.inside.seat.me.0.holding.drawn c.other.inside.seat.me.0.holding.drawn)

pub returns-clause-gained : goal.returns-clause-gained
returns-clause-gained g c =
    let same = ap (λ m. m.0.holding) (c.load.ensures.2.0 ∙ c.join_seat.ensures.2) in
    subst (λ (x : Holding × Holding). AllIn x.1.drawn x.0.drawn) (λ i. (sym same i, c.other.view_is i))
    (merged_right c.owner.inside.seat.me.0.holding.drawn c.other.inside.seat.me.0.holding.drawn)

pub returns-clause-apart : goal.returns-clause-apart
returns-clause-apart g c =
    let h : Holding = c.owner.inside.seat.me.0.holding in
    let k : Holding = c.other.inside.seat.me.0.holding in
    let rises : Rises (merge h.drawn k.drawn) = subst (λ (x : Holding). Rises x.drawn) (ap (λ m. m.0.holding) c.join_seat.ensures.2) c.load.ensures.2.1 in
    subst (λ (x : Holding × Holding). NoneInBoth x.0.drawn x.1.drawn) (λ i. (c.owner.view_is i, c.other.view_is i)) (merged_none h.drawn k.drawn rises)
