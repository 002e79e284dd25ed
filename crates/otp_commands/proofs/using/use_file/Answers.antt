use Rattle.std.proofs.Common.{refl, subst, sym}
use Rattle.otp_sim.specs.Devices.{Devices, devices}
use Rattle.otp_cli.specs.declared.words.Usage.{Usage}
use Rattle.otp_commands.specs.Used.{IsUsed}
use Rattle.otp_commands.proofs.using.use_file.Goals as goal

pub returns-in-Replay-clause-done : goal.returns-in-Replay-clause-done
returns-in-Replay-clause-done g c =
    let old : Devices = devices (g.R.Input.seen c.args.input.now) (g.W.Output.seen c.args.output.now) in
    let new : Devices = devices (g.R.Input.seen c.args.input.now) (g.W.Output.seen c.replay_shown.new.output) in
    subst (λ (usage : Usage). IsUsed (g.F.TreeFiles.known c.args.files.now) c.args.name.now usage c.replay_shown.result c.args.file.now old new) (sym c.in-Replay.is)
    (refl, c.replay_shown.ensures.done)
