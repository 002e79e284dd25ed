use Rattle.std.proofs.Common.{◌≡◌, ◌+◌, length, take}
use Rattle.otp_base.proofs.parts.rows_of.Given as goal

-- the rows so far, and the room for the others
abbrev pub invariant-loop-row : goal.invariant-loop-row
invariant-loop-row l =
    record {
      rows : l.all.rows ≡ take l.row-index l.rows;
      room : l.all.room + l.row-index ≡ length l.rows;
    }
