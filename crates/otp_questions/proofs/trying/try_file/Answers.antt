use Rattle.std.proofs.Common.{sym, subst}
use Rattle.otp_sim.specs.Devices.{Devices, devices}
use Rattle.otp_try.specs.Pages.{tells_orders}
use Rattle.otp_questions.specs.Tried.{IsTrial}
use Rattle.otp_exit.specs.declared.ending.ProgramEnd.{ProgramEnd}
use Rattle.otp_questions.proofs.Tried.{is_trial}
use Rattle.otp_questions.proofs.trying.try_file.Goals as goal

pub returns : goal.returns
returns g c =
    let old : Devices = devices (g.R.Input.seen c.args.script.now) (g.W.Output.seen c.args.output.now) in
    let new : Devices = devices (g.R.Input.seen c.try_tree.new.input) (g.W.Output.seen c.try_tree.new.output) in
    subst (λ (e : ProgramEnd). IsTrial c.args.name.now c.args.called e c.args.file.now old new) (sym c.end_of_try.ensures)
    (is_trial c.args.name.now c.args.called c.args.file.now old new c.try_tree.result
    (c.in-Ok.tree, ((c.in-Ok.ensures {u = tt}).tree, (tells_orders c.args.playing.writer c.args.playing.shows, c.try_tree.ensures))))
