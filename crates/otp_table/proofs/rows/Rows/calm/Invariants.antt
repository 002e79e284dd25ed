use Rattle.std.proofs.Common.{◌≡◌, ◌++◌, ◌≤◌, drop, length, slice_range, take}
use Rattle.otp_table.specs.Rows.{calm_rows}
use Rattle.otp_table.proofs.rows.Rows.calm.Given as goal

-- what is left to do leads where the whole does
abbrev pub invariant-loop-place : goal.invariant-loop-place
invariant-loop-place l =
    record {
      done : take l.place l.self.rows ++ calm_rows (slice_range l.self.rows l.place l.to) ++ drop l.to l.self.rows ≡ take l.from l.fn.self.rows ++ calm_rows (slice_range l.fn.self.rows l.from l.to) ++ drop l.to l.fn.self.rows;
      within : l.place ≤ l.to;
      len : length l.self.rows ≡ length l.fn.self.rows;
      room : l.self.room ≡ l.fn.self.room;
    }
