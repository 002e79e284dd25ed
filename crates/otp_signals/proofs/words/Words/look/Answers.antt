use Rattle.std.proofs.Common.{◌≡◌, ◌+◌, ◌-◌, [], ◌∷◌, ◌++◌, arith, sym, ap, ◌∙◌}
use Rattle.otp_signals.proofs.Moves.{looks_at}
use Rattle.otp_signals.proofs.Witness.{seen_word}
use Rattle.otp_signals.proofs.words.Words.look.Goals as goal

pub load-word-requires : goal.load-word-requires
load-word-requires g c =
    let i = c.viewer.inside in
    let o = c.viewer.invariant in
    let w = c.self.invariant in
    (o.0 ∙ sym w.0, omega (arith, w.1.words), looks_at _ _ _ _ i.seat.me.0 i.seat.me.1 (omega (arith, c.self.view_is, c.requires)))

pub returns-clause-seen : goal.returns-clause-seen
returns-clause-seen g c =
    let e : c.args.slot + 1 - 1 ≡ c.args.slot = omega arith in
    seen_word c.viewer.inside.seat.me.0.looks c.load-word.new.seat.me.0.looks c.args.slot c.args.number c.load-word.result c.of_word.result
    (ap (λ m. m.0.looks) c.load-word.ensures.2 ∙ ap (λ j. c.viewer.inside.seat.me.0.looks ++ (j, c.load-word.result) ∷ []) e) c.of_word.ensures
