use Rattle.std.proofs.Common.{◌≡◌, ◌+◌, ◌≤◌, ◌++◌, drop, vec_len, vec_capacity}
use Rattle.otp_rules.specs.Restarts.{running}
use Rattle.otp_machine.proofs.decisions.restarts.list_running.Given as goal

abbrev pub invariant-loop-row : goal.invariant-loop-row
invariant-loop-row l =
    record {
      listed : l.list.items ++ running (drop l.row-index l.rows) ≡ l.fn.list.items ++ running l.rows;
      room : vec_len l.list ≤ vec_len l.fn.list + l.row-index;
      kept : vec_capacity l.list ≡ vec_capacity l.fn.list;
    }
