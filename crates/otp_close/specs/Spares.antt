-- Places of a closed tree that had no supervisor. (own)
use Rattle.std.specs.Prelude.{◌≡◌, ℕ, ◌≤◌, List, [], IfSome, length, min, slice_get, take}
use Rattle.otp_close.specs.declared.report.report.TableReport.{TableReport}

-- it had no event, nothing is left for it, and it had nothing to send
pub record IsUnused (t : TableReport) : Type 0 where
  pub history : t.core.history ≡ []
  pub left : t.left.items ≡ []
  pub unsent : t.unsent ≡ 0

-- all are, from this place on
abbrev pub AreUnusedFrom : ℕ → List TableReport → Type 0
AreUnusedFrom from all = (k : ℕ) → from ≤ k → IfSome (slice_get all k) IsUnused

-- the first of these, at least so many: all behind them are unused
pub record AreFirst (known : ℕ) (all first : List TableReport) : Type 0 where
  pub count : ℕ
  pub are : first ≡ take count all
  pub few : count ≤ length all
  pub many : min known (length all) ≤ count
  pub unused : AreUnusedFrom count all
