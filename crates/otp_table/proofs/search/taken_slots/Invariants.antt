use Rattle.std.proofs.Common.{◌≡◌, ℕ, ◌<◌, false, length, take, get_or}
use Rattle.std.specs.List.{list_any}
use Rattle.otp_table.specs.Rows.{has_slot}
use Rattle.otp_table.proofs.search.taken_slots.Given as goal
use Rattle.otp_spec.specs.declared.limits.TheConstants.{MAX_CHILDREN}

abbrev pub invariant-loop-row : goal.invariant-loop-row
invariant-loop-row l =
    record {
      len : length l.taken ≡ MAX_CHILDREN;
      taken : (slot : ℕ) → slot < MAX_CHILDREN → get_or l.taken slot false ≡ list_any (has_slot slot) (take l.row-index l.rows);
    }
