use Rattle.std.proofs.Common.{◌≡◌, ℕ, List, sym, subst}
use Rattle.otp_sim.specs.Devices.{Written}
use Rattle.otp_exit.specs.declared.ending.ProgramEnd.{ProgramEnd}
use Rattle.otp_suggest.specs.Advised.{IsUnsuggested}
use Rattle.otp_trial.specs.declared.trial.Halt.TheVariants as halt
use Rattle.otp_questions.specs.Suggested.{IsSuggested}
use Rattle.otp_questions.proofs.Suggested.{unsaid}
use Rattle.otp_questions.proofs.suggesting.suggest_file.Goals as goal

pub returns-in-Err-told : goal.returns-in-Err-told
returns-in-Err-told g c =
    let old : Written = g.W.Output.seen c.args.output.now in
    subst (λ (e : ProgramEnd). IsSuggested c.args.is_json c.args.child c.args.asked c.args.name.now e c.args.file.now old old) (sym c.end_of_halt.ensures)
    (unsaid c.args.is_json c.args.child c.args.asked c.args.name.now c.args.file.now old c.in-Err-told.halt c.in-Ok-read_tree.tree
    (c.in-Ok-read_tree.ensures {u = tt}).tree
    ((c.in-Err-told.ensures {u = tt}).full))
