use Rattle.std.proofs.Common.{sym, subst}
use Rattle.otp_sim.specs.Devices.{Written}
use Rattle.otp_exit.specs.Devices.{HasTree}
use Rattle.otp_exit.specs.declared.ending.ProgramEnd.{ProgramEnd}
use Rattle.otp_questions.specs.Compared.{IsCompared}
use Rattle.otp_questions.proofs.Compared.{halted}
use Rattle.otp_questions.proofs.comparing.compare_files.Goals as goal

pub returns-in-Err-told : goal.returns-in-Err-told
returns-in-Err-told g c =
    let old : Written = g.W.Output.seen c.args.output.now in
    let one : HasTree c.args.file.now = (c.in-Ok.tree, (c.in-Ok.ensures {u = tt}).tree) in
    let two : HasTree c.args.other_file.now = (c.in-Ok-read_tree.other_tree, (c.in-Ok-read_tree.ensures {u = tt}).tree) in
    subst (λ (e : ProgramEnd). IsCompared c.args.is_json c.args.name.now c.args.other.now e c.args.file.now c.args.other_file.now old old) (sym c.end_of_halt.ensures)
    (halted c.args.is_json c.args.name.now c.args.other.now c.args.file.now c.args.other_file.now old c.in-Err-told.halt one two)
