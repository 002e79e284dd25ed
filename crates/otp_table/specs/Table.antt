use Rattle.std.specs.Prelude.{ℕ, List}
use Rattle.otp_table.specs.declared.row.Row.{Row}

-- a supervisor's children in start order, and how many more can be inserted without memory (own)
pub record Table : Type 0 where
  pub rows : List Row
  pub room : ℕ
