use Rattle.std.proofs.Common.{◌≡◌, ◌+◌, ◌≤◌, ◌++◌, length, map, drop}
use Rattle.std.specs.VecDeque.{deque_len, deque_capacity}
use Rattle.otp_rules.specs.Step.{rows_from, due_of}
use Rattle.otp_machine.proofs.decisions.step.list_children.Given as goal

abbrev pub invariant-loop-spec : goal.invariant-loop-spec
invariant-loop-spec l =
    record {
      rows : l.rows.rows ++ rows_from (length l.rows.rows) (drop l.spec-index l.specs) ≡ l.fn.rows.rows ++ rows_from (length l.fn.rows.rows) l.specs;
      starts : l.starts.items ++ map due_of (drop l.spec-index l.specs) ≡ l.fn.starts.items ++ map due_of l.specs;
      limit : length l.rows.rows ≡ length l.fn.rows.rows + l.spec-index;
      rows_room : length l.specs ≤ l.rows.room + l.spec-index;
      starts_len : deque_len l.starts ≡ deque_len l.fn.starts + l.spec-index;
      starts_room : deque_capacity l.starts ≡ deque_capacity l.fn.starts;
    }
