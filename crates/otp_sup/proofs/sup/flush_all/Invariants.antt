use Rattle.std.proofs.Common.{◌≡◌, ◌+◌, length}
use Rattle.otp_bodies.specs.Flushes.{SentOrders}
use Rattle.otp_bodies.specs.Bodies.{bodies_in}
use Rattle.otp_bodies.specs.Ports.{TookMore, carried, taken_by}
use Rattle.otp_sup.specs.Shares.{HasStarted}
use Rattle.otp_bodies.proofs.More.{IsLast, left_after}
use Rattle.otp_sup.proofs.sup.flush_all.Given as goal

abbrev pub invariant-loop-table : goal.invariant-loop-table
invariant-loop-table g l =
    record {
      more : TookMore (taken_by (g.P.Port.processes l.fn.port) (g.P.Port.notes l.fn.port)) (taken_by (g.P.Port.processes l.port) (g.P.Port.notes l.port))
          (g.P.Port.refusals l.fn.port) (g.P.Port.refusals l.port);
      orders : SentOrders l.fn.table.office l.table.office (taken_by (g.P.Port.processes l.fn.port) (g.P.Port.notes l.fn.port)) (taken_by (g.P.Port.processes l.port) (g.P.Port.notes l.port));
      taker : l.table.taker ≡ record l.fn.table.taker { given = l.table.taker.given };
      given : HasStarted (length (g.P.Port.processes l.fn.port)) (length (g.P.Port.processes l.port)) l.fn.table.taker.given l.table.taker.given;
      sender : l.sender ≡ record l.fn.sender { shares = l.sender.shares };
      credited : HasStarted (length (g.P.Port.processes l.fn.port)) (length (g.P.Port.processes l.port)) l.fn.sender.shares l.sender.shares;
      beside : g.P.Port.beside l.port ≡ g.P.Port.beside l.fn.port;
      counts : l.table.counts ≡ l.fn.table.counts;
      ends : l.table.ends_told ≡ l.fn.table.ends_told;
      count : bodies_in l.table.bodies + carried (g.P.Port.processes l.port) ≡ bodies_in l.fn.table.bodies + carried (g.P.Port.processes l.fn.port);
      last : IsLast l.flushed l.table.office.outbox (g.P.Port.refusals l.fn.port) (g.P.Port.refusals l.port);
    }

abbrev pub decreases-loop-table : goal.decreases-loop-table
decreases-loop-table g l = left_after l.flushed (length l.table.office.outbox)
