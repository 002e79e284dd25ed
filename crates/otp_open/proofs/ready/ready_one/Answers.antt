use Rattle.std.proofs.Common.{ap, arith}
use Rattle.otp_signals.specs.declared.view.Holding.{Holding}
use Rattle.otp_open.proofs.ready.ready_one.Goals as goal

pub returns-clause-ready : goal.returns-clause-ready
returns-clause-ready g c =
    let made = c.in-Ok.ensures {u = tt} in
    let cut = c.in-Ok-split.ensures {u = tt} in
    let room = made.room in
    let len = c.len.ensures in
    let ok = c.args.plan.now.bodies.ok.0 in
    record {
      inbox = c.named-inbox.ensures.inbox;
      taker = c.named-inbox.ensures.taker;
      drawn = ap (λ (h : Holding). h.drawn) cut.new;
      posts = ap (λ (h : Holding). h.posts) cut.new;
      slots = cut.moved;
      counts = c.in-Ok-publish.ensures {u = tt};
      space = record { none = made.none; room = omega (arith, room, len, ok) };
    }

pub returns-clause-upper : goal.returns-clause-upper
returns-clause-upper g c = λ slot le held. (c.in-Ok-split.ensures {u = tt}).upper slot (omega (arith, le)) held
