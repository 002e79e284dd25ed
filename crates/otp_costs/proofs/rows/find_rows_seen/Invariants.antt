use Rattle.std.proofs.Common.{◌≡◌, List, [], take}
use Rattle.otp_costs.specs.Ranks.{ranked}
use Rattle.otp_costs.specs.Rows.{AreRowsFrom, is_worse}
use Rattle.otp_costs.specs.declared.rows.Row.{Row}
use Rattle.otp_costs.proofs.rows.find_rows_seen.Given as goal

abbrev pub invariant-loop-place : goal.invariant-loop-place
invariant-loop-place g l =
    (each : List Row) × (AreRowsFrom l.grain l.pick l.tree l.seats.items 0 (take l.place l.seats.items) each × ((l.rows.items ≡ ranked is_worse [] each) × (l.player ≡ l.tree)))
