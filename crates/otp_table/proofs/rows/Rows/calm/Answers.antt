use Rattle.std.proofs.Common.{◌∙◌, arith}
use Rattle.otp_table.specs.declared.row.Row.{Row}
use Rattle.otp_table.proofs.Calming.{calm_further, got}
use Rattle.otp_table.proofs.rows.Rows.calm.Goals as goal

pub loop-place-preserved : goal.loop-place-preserved
loop-place-preserved c =
    let row : Row = c.calm_row.ensures.found.0 in
    let at = got c.loop-place.self.rows c.loop-place.place row c.calm_row.ensures.found.1 in
    record {
      done = calm_further c.loop-place.self.rows c.calm_row.new.self.rows c.loop-place.place c.args.to row c.loop-place-test.true at.0 at.1 (c.calm_row.ensures.rows row c.calm_row.ensures.found.1) ∙ c.loop-place.invariant.done;
      within = omega (arith, c.loop-place-test.true);
      len = c.calm_row.ensures.len ∙ c.loop-place.invariant.len;
      room = c.calm_row.ensures.room ∙ c.loop-place.invariant.room;
    }
