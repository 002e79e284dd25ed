use Rattle.std.proofs.Common.{ap, arith, sym, ◌∙◌}
use Rattle.otp_inbox.specs.Tokens.{SenderState, TakerState}
use Rattle.otp_bodies.specs.declared.letter.Message.{Message}
use Rattle.otp_sup.proofs.Credits.{credited_again, credited_only, started_again, started_one, taken_again, taken_only}
use Rattle.otp_bodies.proofs.More.{flushes_last, flushes_less, flushes_more, last_sent, more_again}
use Rattle.otp_bodies.proofs.Sent.{sent_again, sent_none}
use Rattle.otp_sup.proofs.sup.flush_all.Goals as goal

pub loop-table-init : goal.loop-table-init
loop-table-init g c =
    record {
      more = flushes_more c.flush_next-flushed.result _ _ _ _ _ _ c.flush_next-flushed.ensures.flushed;
      orders = sent_again c.flush_next-flushed.result _ _ _ _ _ _ _ _ (sent_none _ _) c.flush_next-flushed.ensures.flushed;
      taker = taken_only _ _ _ c.flush_next-flushed.ensures.taker;
      given = started_one _ _ _ _ _ (ap (λ (t : TakerState Message). t.given) c.flush_next-flushed.ensures.taker) c.flush_next-flushed.ensures.put;
      sender = credited_only _ _ _ c.flush_next-flushed.ensures.sender;
      credited = started_one _ _ _ _ _ (ap (λ (s : SenderState Message). s.shares) c.flush_next-flushed.ensures.sender) c.flush_next-flushed.ensures.put;
      beside = c.flush_next-flushed.ensures.beside;
      counts = c.flush_next-flushed.ensures.counts;
      ends = c.flush_next-flushed.ensures.ends;
      count = c.flush_next-flushed.ensures.count;
      last = flushes_last c.flush_next-flushed.result _ _ _ _ _ _ _ c.flush_next-flushed.ensures.flushed (omega arith);
    }

pub loop-table-preserved : goal.loop-table-preserved
loop-table-preserved g c =
    let refused = c.loop-table.invariant.more.refused in
    record {
      more = more_again _ _ _ _ _ _ c.loop-table.invariant.more (flushes_more c.flush_next-flushed-in-loop-table.result _ _ _ _ _ _ c.flush_next-flushed-in-loop-table.ensures.flushed);
      orders = sent_again c.flush_next-flushed-in-loop-table.result _ _ _ _ _ _ _ _ c.loop-table.invariant.orders c.flush_next-flushed-in-loop-table.ensures.flushed;
      taker = taken_again c.args.table.now.taker c.loop-table.table.taker c.flush_next-flushed-in-loop-table.new.table.taker c.loop-table.invariant.taker (taken_only _ _ _ c.flush_next-flushed-in-loop-table.ensures.taker);
      given = started_again _ _ _ _ _ _ c.loop-table.invariant.given (started_one _ _ _ _ _ (ap (λ (t : TakerState Message). t.given) c.flush_next-flushed-in-loop-table.ensures.taker) c.flush_next-flushed-in-loop-table.ensures.put);
      sender = credited_again c.args.sender.now c.loop-table.sender c.flush_next-flushed-in-loop-table.new.sender c.loop-table.invariant.sender (credited_only _ _ _ c.flush_next-flushed-in-loop-table.ensures.sender);
      credited = started_again _ _ _ _ _ _ c.loop-table.invariant.credited (started_one _ _ _ _ _ (ap (λ (s : SenderState Message). s.shares) c.flush_next-flushed-in-loop-table.ensures.sender) c.flush_next-flushed-in-loop-table.ensures.put);
      beside = c.flush_next-flushed-in-loop-table.ensures.beside ∙ c.loop-table.invariant.beside;
      counts = c.flush_next-flushed-in-loop-table.ensures.counts ∙ c.loop-table.invariant.counts;
      ends = c.flush_next-flushed-in-loop-table.ensures.ends ∙ c.loop-table.invariant.ends;
      count = c.flush_next-flushed-in-loop-table.ensures.count ∙ c.loop-table.invariant.count;
      last = flushes_last c.flush_next-flushed-in-loop-table.result _ _ _ _ _ _ _ c.flush_next-flushed-in-loop-table.ensures.flushed refused;
    }

pub loop-table-smaller : goal.loop-table-smaller
loop-table-smaller g c =
    flushes_less c.flush_next-flushed-in-loop-table.result _ _ _ _ _ _ c.flush_next-flushed-in-loop-table.ensures.flushed c.loop-table.flushed (sym c.was_sent.ensures ∙ c.loop-table-test.true)

pub returns-clause-sent : goal.returns-clause-sent
returns-clause-sent g c = last_sent c.loop-table.flushed _ _ _ c.loop-table.invariant.last (sym c.was_sent.ensures ∙ c.loop-table-test.false)
