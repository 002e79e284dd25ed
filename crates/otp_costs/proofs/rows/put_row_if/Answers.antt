use Rattle.std.proofs.Common.{◌∷◌, Bool, List, [], refl, subst, sym}
use Rattle.otp_costs.specs.Rows.{HasRow}
use Rattle.otp_costs.specs.declared.rows.Row.{Row}
use Rattle.otp_costs.proofs.rows.put_row_if.Goals as goal

pub returns-in_ok-put_in-clause-rows : goal.returns-in_ok-put_in-clause-rows
unfolding HasRow
returns-in_ok-put_in-clause-rows c =
    let row : Row = c.in_ok-row.row in
    let own : List Row = row ∷ [] in (
      own,
      (
        subst (λ (b : Bool). HasRow b c.args.player.now c.args.seats.now c.args.place c.args.seat.now c.args.group.now own) (sym c.if-is_wanted.true)
            (row, (refl, c.in_ok-row.ensures.row)),
        c.in_ok-put_in.ensures,
      ),
    )
