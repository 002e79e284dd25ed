-- How a hand divides its turns: among those for which something has come, the processes of its deque, those that stand aside, and those of
-- other deques. (own)
use Rattle.std.specs.Prelude.{◌⊎◌, ℕ, ◌+◌, ◌-◌, ◌^◌, ◌<◌, ◌≤◌, Bool, true, false, min}
use Rattle.otp_hand.specs.declared.waiting.around.TheConstants.{ENOUGH, PATIENCE}

-- what contracts see of what a hand knows of the deques
pub record Deques : Type 0 where
  -- how many processes its own has at most
  pub stock : ℕ
  -- how many turns ago the last came back of those that stand aside
  pub passed_by : ℕ
  -- how many looks into its own come before it tries the others again
  pub pause : ℕ
  -- how many turns in a row had processes for which something had come, while others were in its own
  pub in_front : ℕ

-- one more, as far as a number of 32 bits counts
abbrev pub one_more : ℕ → ℕ
one_more n = min (n + 1) (2 ^ 32 - 1)

-- how many its own has at most, once it was asked for one and had one or none
abbrev pub stock_after : Bool → ℕ → ℕ
stock_after true stock = stock - 1
stock_after false stock = 0

-- one of those that stand aside is to come back: few stand in the deque, or so many turns have passed
abbrev pub IsToComeBack : Deques → Type 0
IsToComeBack d = (d.stock < ENOUGH) ⊎ (PATIENCE ≤ one_more d.passed_by)

-- how many turns ago the last came back, once it was asked whether one is to come back
abbrev pub passed_after : Bool → ℕ → ℕ
passed_after true passed_by = 0
passed_after false passed_by = one_more passed_by
