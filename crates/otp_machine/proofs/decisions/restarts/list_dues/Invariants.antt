use Rattle.std.proofs.Common.{◌≡◌, ◌+◌, ◌≤◌, ◌++◌, drop}
use Rattle.std.specs.VecDeque.{deque_len, deque_capacity}
use Rattle.otp_rules.specs.Restarts.{dues}
use Rattle.otp_machine.proofs.decisions.restarts.list_dues.Given as goal

abbrev pub invariant-loop-row : goal.invariant-loop-row
invariant-loop-row l =
    record {
      listed : l.list.items ++ dues l.kept (drop l.row-index l.rows) ≡ l.fn.list.items ++ dues l.kept l.rows;
      room : deque_len l.list ≤ deque_len l.fn.list + l.row-index;
      kept : deque_capacity l.list ≡ deque_capacity l.fn.list;
    }
