use Rattle.std.proofs.Common.{◌≡◌, ◌++◌, drop, length, map, take}
use Rattle.otp_rules.specs.Step.{killed, late_number}
use Rattle.otp_machine.proofs.decisions.step.kill_late.Given as goal

abbrev pub invariant-loop-place : goal.invariant-loop-place
invariant-loop-place l =
    record {
      done : take l.place l.rows.rows ++ map (λ row. killed row (late_number l.now row.state)) (drop l.place l.rows.rows) ≡ map (λ row. killed row (late_number l.now row.state)) l.fn.rows.rows;
      len : length l.rows.rows ≡ length l.fn.rows.rows;
      room : l.rows.room ≡ l.fn.rows.room;
    }
