use Rattle.std.proofs.Common.{◌≡◌, List, take}
use Rattle.otp_costs.specs.Ranks.{ranked}
use Rattle.otp_costs.specs.Rows.{HaveRows, is_worse}
use Rattle.otp_costs.specs.declared.rows.Row.{Row}
use Rattle.otp_costs.proofs.rows.put_rows.Given as goal

abbrev pub invariant-loop-at : goal.invariant-loop-at
invariant-loop-at l =
    (each : List Row) × (HaveRows l.pick l.fn.player l.seats l.place l.seat (take l.at l.groups) each × ((l.rows.items ≡ ranked is_worse l.fn.rows.items each) × (l.player ≡ l.fn.player)))
