-- When a tree that is run is stopped, and when its hands leave it (own).
use Rattle.std.specs.Prelude.{ℕ, ◌+◌, ◌-◌, ◌^◌, Bool, false, Option, Some, None, min, nat_le}
use Rattle.otp_live.specs.declared.span.Span.{Span}

-- the sum of two numbers, as far as a number goes
abbrev pub sum_of : Option ℕ → Option ℕ → Option ℕ
sum_of (Some stop) (Some grace) = Some (min (stop + grace) (2 ^ 64 - 1))
sum_of _ _ = None

-- when the hands leave
abbrev pub leave_at : Span → Option ℕ
leave_at span = sum_of span.stop span.grace

-- a time has come, if there is one
abbrev pub is_past : Option ℕ → ℕ → Bool
is_past None reading = false
is_past (Some time) reading = nat_le time reading

-- the sooner of two times
abbrev pub sooner : Option ℕ → Option ℕ → Option ℕ
sooner (Some one) (Some other) = Some (min one other)
sooner (Some one) None = Some one
sooner None other = other
