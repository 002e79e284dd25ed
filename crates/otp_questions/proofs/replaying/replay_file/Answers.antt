use Rattle.std.proofs.Common.{ℕ, List, sym, subst}
use Rattle.otp_sim.specs.Devices.{Written}
use Rattle.otp_exit.specs.declared.ending.ProgramEnd.{ProgramEnd}
use Rattle.otp_replay.specs.Told.{Replays}
use Rattle.otp_replay.specs.declared.played.ReplayEnd.{ReplayEnd}
use Rattle.otp_try.specs.Pages.{tells_orders}
use Rattle.otp_try.specs.declared.play.Writer.TheVariants.{Log}
use Rattle.otp_questions.specs.Replayed.{IsReplay}
use Rattle.otp_questions.proofs.Replayed.{is_replay}
use Rattle.otp_questions.proofs.replaying.replay_file.Goals as goal

pub returns-in-Tried : goal.returns-in-Tried
returns-in-Tried g c =
    let old : Written = g.W.Output.seen c.args.output.now in
    let new : Written = g.W.Output.seen c.replay.new.output in
    let tells = tells_orders Log c.args.replaying.shows in
    let named =
    subst (λ (name : List ℕ). Replays c.replay.result c.in-Ok.tree name c.args.log.text.now tells c.args.replaying.is_listed old.bytes new.bytes) c.as_bytes.ensures.value c.replay.ensures in
    let replayed =
    subst (λ (end : ReplayEnd). Replays end c.in-Ok.tree c.args.log.name.now c.args.log.text.now tells c.args.replaying.is_listed old.bytes new.bytes) c.in-Tried.is named in
    subst (λ (e : ProgramEnd). IsReplay c.args.log.name c.args.log.text.now c.args.replaying.is_listed c.args.name.now e c.args.file.now old new) (sym c.end_of_try.ensures)
    (is_replay c.args.log.name c.args.log.text.now c.args.replaying.is_listed c.args.name.now c.args.file.now old new c.in-Tried.end
    (c.in-Ok.tree, ((c.in-Ok.ensures {u = tt}).tree, (tells, replayed))))
