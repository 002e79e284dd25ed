use Rattle.otp_sim.specs.Runs.{with_text}
use Rattle.otp_sim.proofs.Playing.{last_finished}
use Rattle.otp_sim.proofs.engine.serve_last.Goals as goal

pub returns : goal.returns
returns g c =
    last_finished c.finish.result (with_text c.args.ready.now.items (g.S.Driven.sim c.args.driven.now)) (g.S.Driven.sim c.serve_line.new.driven) c.args.line.now _ _ _
    c.serve_line.new.ready.items c.end.result (c.in_default.ensures {u = tt}).ok c.end.ensures c.serve_line.ensures.failures c.finish.ensures.end
