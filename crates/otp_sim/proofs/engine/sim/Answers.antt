use Rattle.std.proofs.Common.{ap, ◌∙◌}
use Rattle.otp_sim.specs.Sim.{Sim, opened}
use Rattle.otp_sim.specs.Devices.{devices}
use Rattle.otp_sim.specs.Runs.{with_text}
use Rattle.otp_sim.proofs.Exits.{opened_lines, nothing_written, writes_from}
use Rattle.otp_sim.proofs.engine.sim.Goals as goal

pub serve-requires : goal.serve-requires
serve-requires g c =
    ap (λ (s : Sim). s.lines) c.in-Ok.ensures ∙ opened_lines c.args.supervisor.flags c.args.supervisor.specs

pub returns-in_default : goal.returns-in_default
returns-in_default g c =
    nothing_written (opened c.args.supervisor.flags c.args.supervisor.specs) (devices (g.R.Input.seen c.args.input.now) (g.W.Output.seen c.args.output.now))

pub returns : goal.returns
returns g c =
    writes_from c.serve.result (with_text c.open.new.out.items c.in-Ok.player) (opened c.args.supervisor.flags c.args.supervisor.specs) _ _
    c.in-Ok.ensures c.serve.ensures
