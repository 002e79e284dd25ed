use Rattle.std.proofs.Common.{◌∙◌, List, subst}
use Rattle.std.specs.Prelude.{OnOk}
use Rattle.otp_costs.specs.Rows.{HaveRows, PutsRanked}
use Rattle.otp_costs.specs.declared.group.Group.{Group}
use Rattle.otp_costs.proofs.rows.put_seat.Goals as goal

pub returns-clause-rows : goal.returns-clause-rows
returns-clause-rows c =
    let Put : List Group → Type 0 =
    λ found. OnOk c.put_rows-put.result (PutsRanked (HaveRows c.args.pick.now c.args.player.now c.args.seats.now c.args.place c.args.seat.now found) c.args.rows.now.items c.put_rows-put.new.rows.items) in
    subst Put
    (c.as_slice.ensures.value ∙ c.in_ok-groups.ensures)
    c.put_rows-put.ensures.rows
