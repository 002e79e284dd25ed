use Rattle.std.specs.Prelude.{ℕ, ◌-◌, ◌*◌, Bool, ◌&&◌, List, count_by, nat_le}

-- A stamp lies in the period that ends at t (Supervisor Behaviour, Maximum Restart Intensity).
-- The period is in seconds, stamps and t in milliseconds; both ends of the period are included (own).
abbrev pub is_in_period : ℕ → ℕ → ℕ → Bool
is_in_period period t stamp = nat_le stamp t && nat_le (t - stamp) (1000 * period)

-- How many of the stamps do so.
abbrev pub in_period : ℕ → List ℕ → ℕ → ℕ
in_period period stamps t = count_by (λ s. is_in_period period t s) stamps
