use Rattle.std.proofs.Common.{◌≡◌, ◌+◌, ◌++◌, drop, map, vec_len, vec_capacity}
use Rattle.otp_rules.specs.Counts.{line_of}
use Rattle.otp_machine.proofs.decisions.counts.list_lines.Given as goal

abbrev pub invariant-loop-row : goal.invariant-loop-row
invariant-loop-row l =
    record {
      listed : l.list.items ++ map line_of (drop l.row-index l.rows) ≡ l.fn.list.items ++ map line_of l.rows;
      room : vec_len l.list ≡ vec_len l.fn.list + l.row-index;
      kept : vec_capacity l.list ≡ vec_capacity l.fn.list;
    }
