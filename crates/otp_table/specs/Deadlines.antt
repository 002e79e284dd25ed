-- A moment before which no child has a deadline.
use Rattle.std.specs.Prelude.{ℕ, ◌≡◌, ◌<◌, Bool, false, nat_lt, Some, None, List, get_or, length}
use Rattle.otp_table.specs.declared.row.Row.{Row}
use Rattle.otp_table.specs.declared.row.RowState.{RowState}
use Rattle.otp_table.specs.declared.row.RowState.TheVariants.{Undefined, Starting, Up, Asked, Killed, Restarting}

-- the process was told to shut down until a moment before this one (own)
abbrev pub is_before : ℕ → RowState → Bool
is_before moment Undefined = false
is_before moment (Starting _ _) = false
is_before moment (Up _) = false
is_before moment (Asked _ None) = false
is_before moment (Asked _ (Some deadline)) = nat_lt deadline moment
is_before moment (Killed _) = false
is_before moment (Restarting _) = false

-- none of these has a deadline before this moment
abbrev pub AreNotBefore : ℕ → List Row → Type 0
AreNotBefore moment rows = (k : ℕ) (d : Row) → k < length rows → is_before moment (get_or rows k d).state ≡ false
