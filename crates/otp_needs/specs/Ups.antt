-- What is asked of the ends that wait (own).
use Rattle.std.specs.Prelude.{ℕ, Bool, true, ◌==◌, ◌+◌, List, Option, None, Some, count_by, nat_le}
use Rattle.std.specs.List.{list_all}
use Rattle.otp_table.specs.declared.row.Row.{Row}
use Rattle.otp_rules.specs.declared.event.Waiting.{Waiting}
use Rattle.otp_rules.specs.Fit.{runs_as}
use Rattle.otp_rules.specs.Stops.{is_exit}

-- the number, if there is one, passes the test
abbrev pub passes : (ℕ → Bool) → Option ℕ → Bool
passes test None = true
passes test (Some p) = test p

-- of each of these processes an end waits, as many as the list names it
abbrev pub ends_counted : List ℕ → List Waiting → Bool
ends_counted numbers items = list_all (λ p. nat_le (count_by (λ q. q == p) numbers) (count_by (is_exit p) items)) numbers

-- of this process as many ends wait as children in these two lists run under its number
abbrev pub has_ends : List Row → List Row → List Waiting → ℕ → Bool
has_ends front back items p =
    nat_le (count_by (λ row. runs_as p row.state) front + count_by (λ row. runs_as p row.state) back) (count_by (is_exit p) items)
