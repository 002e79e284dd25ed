use Rattle.std.proofs.Common.{◌∙◌}
use Rattle.otp_rules.specs.Step.{killed, late_number}
use Rattle.otp_table.specs.declared.row.Row.{Row}
use Rattle.otp_machine.proofs.Steps.{mapped_further}
use Rattle.otp_machine.proofs.decisions.step.kill_late.Goals as goal

pub loop-place-preserved : goal.loop-place-preserved
loop-place-preserved c =
    let kill : Row → Row = λ row. killed row (late_number c.args.now row.state) in
    record {
      done = mapped_further kill c.loop-place.rows.rows c.kill_if_late.new.rows.rows c.loop-place.place c.kill_if_late.ensures.found.0
          c.kill_if_late.ensures.found.1 (c.kill_if_late.ensures.rows c.kill_if_late.ensures.found.0 c.kill_if_late.ensures.found.1)
          ∙ c.loop-place.invariant.done;
      len = c.kill_if_late.ensures.len ∙ c.loop-place.invariant.len;
      room = c.kill_if_late.ensures.room ∙ c.loop-place.invariant.room;
    }
