use Rattle.std.proofs.Common.{◌≡◌, ℕ, ◌<◌, false, length, take, get_or}
use Rattle.std.specs.List.{list_any}
use Rattle.otp_table.specs.Rows.{has_slot}
use Rattle.otp_bodies.proofs.slots.taken_slots.Given as goal

abbrev pub invariant-loop-row : goal.invariant-loop-row
invariant-loop-row l =
    record {
      len : length l.taken ≡ 256;
      taken : (slot : ℕ) → slot < 256 → get_or l.taken slot false ≡ list_any (has_slot slot) (take l.row-index l.rows);
    }
