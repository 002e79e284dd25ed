use Rattle.std.proofs.Common.{ℕ, List, [], Bor, inr, refl, subst, sym}
use Rattle.otp_sim.specs.Devices.{Devices, devices}
use Rattle.otp_commands.specs.Judged.{Judges}
use Rattle.otp_commands.specs.Runs.{ChecksAll, Does}
use Rattle.otp_commands.specs.Trees.{no_trees}
use Rattle.otp_cli.specs.declared.words.Command.{Command}
use Rattle.otp_commands.proofs.Untold.{appends_nothing}
use Rattle.otp_commands.proofs.program.do_command.Goals as goal

pub returns-in-Check-clause-done : goal.returns-in-Check-clause-done
returns-in-Check-clause-done g c =
    let old : Devices = devices (g.R.Input.seen c.args.input.now) (g.W.Output.seen c.args.output.now) in
    let new : Devices = devices (g.R.Input.seen c.args.input.now) (g.W.Output.seen c.check_all.new.output) in
    subst (λ (command : Command). Does (g.F.TreeFiles.known c.args.files.now) no_trees command c.check_all.result old new) (sym c.in-Check.is) (
      refl,
      subst (λ (names : List (Bor (List ℕ))). ChecksAll c.in-Check.checking (λ (name : Bor (List ℕ)). (g.F.TreeFiles.known c.args.files.now).holds name.now) (λ (name : Bor (List ℕ)). name.now) names c.check_all.result
          old.output new.output)
          c.as_slice.ensures.value c.check_all.ensures,
    )

pub returns-in-Check-clause-first : goal.returns-in-Check-clause-first
returns-in-Check-clause-first g c = ([], (λ unasked. refl, inr (appends_nothing (g.E.Output.seen c.args.errors.now).bytes)))

pub returns-in-Judge-clause-done : goal.returns-in-Judge-clause-done
returns-in-Judge-clause-done g c =
    let old : Devices = devices (g.R.Input.seen c.args.input.now) (g.W.Output.seen c.args.output.now) in
    let new : Devices = devices (g.R.Input.seen c.args.input.now) (g.W.Output.seen c.judge_scripts.new.output) in
    subst (λ (command : Command). Does (g.F.TreeFiles.known c.args.files.now) no_trees command c.judge_scripts.result old new) (sym c.in-Judge.is) (
      refl,
      subst (λ (scripts : List (Bor (List ℕ))). Judges (g.F.TreeFiles.known c.args.files.now) c.in-Judge.file.now scripts c.judge_scripts.result old.output new.output)
          c.as_slice-in-Judge.ensures.value c.judge_scripts.ensures.done,
    )
