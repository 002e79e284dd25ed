-- Which slots rows have.
use Rattle.std.specs.Prelude.{◌≡◌, ℕ, ◌<◌, Bool, true, false, List, get_or}
use Rattle.std.specs.List.{list_any}
use Rattle.otp_spec.specs.declared.limits.TheConstants.{MAX_CHILDREN}
use Rattle.otp_table.specs.declared.row.Row.{Row}
use Rattle.otp_table.specs.Rows.{has_slot}

-- each row's slot is one of those that there are
abbrev pub AreBelow : List Row → Type 0
AreBelow rows = (slot : ℕ) → list_any (has_slot slot) rows ≡ true → slot < MAX_CHILDREN

-- the slots that the rows have are marked
abbrev pub AreTaken : List Row → List Bool → Type 0
AreTaken rows taken = (slot : ℕ) → slot < MAX_CHILDREN → get_or taken slot false ≡ list_any (has_slot slot) rows
