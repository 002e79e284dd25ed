use Rattle.std.proofs.Common.{inr}
use Rattle.otp_commands.proofs.Replayed.{is_replay_as}
use Rattle.otp_commands.proofs.logs.replay_on.Goals as goal

pub returns-in-Ok : goal.returns-in-Ok
returns-in-Ok g c =
    inr (is_replay_as c.in-Ok.found c.args.is_json c.args.log c.args.text.now c.args.replaying.is_listed c.args.name.now c.replay_as.result c.args.file.now
    (g.W.Output.seen c.args.output.now) (g.W.Output.seen c.replay_as.new.output) (c.in-Ok.ensures {u = tt}) c.replay_as.ensures)
