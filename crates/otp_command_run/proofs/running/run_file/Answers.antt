use Rattle.std.proofs.Common.{◌≡◌, ◌∙◌, ◌++◌, ◌||◌, ℕ, List, [], ap, length, subst}
use Rattle.std.specs.Io.KnownBytes.{Appends}
use Rattle.otp_jobs.specs.Runs.{run_text}
use Rattle.otp_close.specs.declared.report.report.TableReport.{TableReport}
use Rattle.otp_command_run.specs.Running.{IsSaid}
use Rattle.otp_command_run.proofs.Ran.{run_done, run_told}
use Rattle.otp_command_run.proofs.running.run_file.Goals as goal

pub returns-in-Ok-write_all-clause-done : goal.returns-in-Ok-write_all-clause-done
returns-in-Ok-write_all-clause-done g c =
    let plain : c.run_worked.new.out.items ≡ run_text c.args.how.settings.counted c.in-Ok-run_worked.whole =
    (c.in-Ok-run_worked.ensures {u = tt}).report ∙ ap (λ (l : List ℕ). l ++ run_text c.args.how.settings.counted c.in-Ok-run_worked.whole) c.new-report.ensures.items in
    run_done c.args.how.shows.is_json c.args.name.now c.args.how.settings.counted c.args.file.now _ _ _ c.in-Ok.tree c.in-Ok-run_worked.whole
    (c.in-Ok.ensures {u = tt}).tree
    (c.in-Ok-run_worked.ensures {u = tt}).runnable (
      (c.in-Ok-run_worked.ensures {u = tt}).run,
      (
        c.in-Ok-say.text.items,
        (
          subst (λ (l : List ℕ). IsSaid c.args.how.shows.is_json c.args.name.now c.args.file.now c.in-Ok-run_worked.whole.report.tables.items c.in-Ok-run_worked.whole.report.live l c.in-Ok-say.text.items)
              plain
              (subst (λ (tables : List TableReport). IsSaid c.args.how.shows.is_json c.args.name.now c.args.file.now tables c.in-Ok-run_worked.whole.report.live c.run_worked.new.out.items c.in-Ok-say.text.items)
              c.as_slice-tables.ensures.value (c.in-Ok-say.ensures {u = tt})),
          subst (λ (l : List ℕ). Appends (g.W.Output.seen c.args.output.now).bytes (g.W.Output.seen c.write_all.new.output).bytes l)
              c.as_slice.ensures.value (c.in-Ok-write_all.ensures {u = tt}).ok,
        ),
      ),
    )
    c.ending_of_live.ensures
