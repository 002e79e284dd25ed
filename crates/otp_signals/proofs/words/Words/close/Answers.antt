use Rattle.std.proofs.Common.{◌≡◌, ◌+◌, length, arith, ap, sym, ◌∙◌, subst}
use Rattle.std.specs.Prelude.{slice_index}
use lib.ListN.{get_elem?}
use Rattle.otp_signals.specs.declared.view.Holding.{Holding}
use Rattle.otp_signals.specs.Lists.{numbers_to}
use Rattle.otp_signals.specs.Holdings.{IsWhole}
use Rattle.otp_signals.proofs.Ends.{whole, found_word}
use Rattle.otp_signals.proofs.words.Words.close.Goals as goal

pub free-requires : goal.free-requires
free-requires g c = λ k lt. let n = c.self.invariant.1.no_homes in let l = c.close_with-closed.ensures.counts.1 in absurd (omega arith)

pub returns-clause-numbers : goal.returns-clause-numbers
returns-clause-numbers g c =
    let f = c.close_with-closed.ensures.values.2 in
    let s = f.0 in
    let all : IsWhole c.owner.inside.seat.me.0.holding = subst (λ (h : Holding). IsWhole h) (sym c.owner.view_is) c.requires in
    let w = whole (slice_index s.words 0) s.views c.owner.inside.seat.id c.owner.inside.seat.me.0 f.1.1 f.1.0.numbers all in
    subst (λ (h : Holding). h.drawn ≡ numbers_to (length h.drawn)) c.owner.view_is w.0

pub returns-clause-next : goal.returns-clause-next
returns-clause-next g c =
    let f = c.close_with-closed.ensures.values.2 in
    let s = f.0 in
    let all : IsWhole c.owner.inside.seat.me.0.holding = subst (λ (h : Holding). IsWhole h) (sym c.owner.view_is) c.requires in
    let w = whole (slice_index s.words 0) s.views c.owner.inside.seat.id c.owner.inside.seat.me.0 f.1.1 f.1.0.numbers all in
    sym (found_word s.words 0 c.word-next.result (ap (λ l. get_elem? l 0) f.2 ∙ c.word-next.ensures)) ∙ w.1 ∙ ap (λ (h : Holding). length h.drawn + 1) c.owner.view_is
