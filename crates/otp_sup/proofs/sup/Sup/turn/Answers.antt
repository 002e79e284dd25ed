use Rattle.std.proofs.Common.{◌≡◌, ◌∙◌, refl, arith, inl, rules, sym}
use Rattle.std.proofs.lemmas.Bool.{false≢true}
use Rattle.otp_sup.specs.Cuts.{CutWhereFull}
use Rattle.otp_sup.proofs.Cutting.{cut_after_full, cut_takes_none, full_pends_nothing, next_goes_on, uncut}
use Rattle.otp_bodies.proofs.More.{took_none}
use Rattle.otp_sup.proofs.sup.Sup.turn.Goals as goal
use Rattle.otp_sup.proofs.sup.Sup.turn.Goals.{then-was_full, else-was_full}

pub returns-clause-one_table : goal.returns-clause-one_table
returns-clause-one_table g c =
    let cut : CutWhereFull c.turn-answer.result c.turn-answer.new.self c.if-was_full.table = elim c.if-was_full.branch [
      | then-was_full w ↦
          let full = c.was_full.ensures.0 w.if-was_full.true in
          cut_after_full c.turn-answer.result w.cut.result c.turn-answer.new.self w.cut.new.self c.if-was_full.table full
          (full_pends_nothing _ _ _ _ _ _ c.turn-answer.ensures.turned full) w.cut.ensures w.table-is
      | else-was_full w ↦
          uncut c.turn-answer.result c.turn-answer.new.self c.if-was_full.table (λ full. false≢true (sym w.if-was_full.false ∙ c.was_full.ensures.1 full)) w.table-is
    ] in
    inl (record {
      old = c.deref_mut-table.result.now;
      turned = c.turn-answer.new.self;
      new = c.flush_all.new.table;
      rules = c.keeps_rules.ensures;
      of_inbox = search rules;
      turn = c.turn-answer.ensures.turned;
      cut = c.if-was_full.table;
      was_cut = cut;
      next = next_goes_on c.args.number c.args.reading c.args.told c.deref_mut-table.result.now c.turn-answer.new.self
          c.if-was_full.table c.flush_all.new.table _ _ _ c.turn-answer.ensures.turned cut c.flush_all.ensures.orders;
      quota = c.turn-answer.ensures.quota;
      sent = c.flush_all.ensures.orders;
      left = c.flush_all.ensures.sent;
      taker = c.flush_all.ensures.taker;
      started = c.flush_all.ensures.given;
      counts = c.flush_all.ensures.counts;
      ends = c.flush_all.ensures.ends;
      count = c.flush_all.ensures.count;
      kept = c.keeps_rules-2.ensures;
    })

pub returns-then-number-clause-port : goal.returns-then-number-clause-port
returns-then-number-clause-port g c = took_none _ _ _ _ refl (omega arith)

pub flush_all-requires-clause-inbox : goal.flush_all-requires-clause-inbox
flush_all-requires-clause-inbox g c =
    let cut : CutWhereFull c.turn-answer.result c.turn-answer.new.self c.if-was_full.table = elim c.if-was_full.branch [
      | then-was_full w ↦
          let full = c.was_full.ensures.0 w.if-was_full.true in
          cut_after_full c.turn-answer.result w.cut.result c.turn-answer.new.self w.cut.new.self c.if-was_full.table full
          (full_pends_nothing _ _ _ _ _ _ c.turn-answer.ensures.turned full) w.cut.ensures w.table-is
      | else-was_full w ↦
          uncut c.turn-answer.result c.turn-answer.new.self c.if-was_full.table (λ full. false≢true (sym w.if-was_full.false ∙ c.was_full.ensures.1 full)) w.table-is
    ] in
    let taker : c.if-was_full.table.taker ≡ c.turn-answer.new.self.taker = cut_takes_none c.turn-answer.result c.turn-answer.new.self c.if-was_full.table cut in
    search rules
