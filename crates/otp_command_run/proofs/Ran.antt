-- What came of a run of a tree, by how many processes it has left.
use Rattle.std.proofs.Common.{◌≡◌, ℕ, ◌⊎◌, Bool, true, false, inl, inr, List, [], Option, None, Ok, sym, subst}
use Rattle.std.specs.Prelude.{⊤}
use Rattle.otp_file.specs.Files.{Says}
use Rattle.otp_file.specs.Trees.{Tree, tables_of}
use Rattle.otp_file.specs.RolesFaults.{plan_fault}
use Rattle.otp_jobs.specs.declared.body.Calm.{Calm}
use Rattle.otp_jobs.specs.declared.worker.WorkedJob.{WorkedJob}
use Rattle.otp_sim.specs.Devices.{Written}
use Rattle.otp_jobs.specs.declared.serving.patient.PatientJob.{PatientJob}
use Rattle.otp_close.specs.declared.report.report.Report.{Report}
use Rattle.otp_tree.specs.declared.whole.CountedRun.{CountedRun}
use Rattle.otp_command_run.specs.Running.{HasReport, HasServedReport, IsEndOfRun, IsTreeRun, IsTreeServed}
use Rattle.otp_exit.specs.Told.{IsTold, TellsFirst}
use Rattle.otp_exit.specs.declared.ending.ProgramEnd.{ProgramEnd}
use Rattle.otp_exit.specs.declared.ending.ProgramEnd.TheVariants.{Done, NotFinished}

-- its report was written
pub run_done : (is_json : Bool) (name : List ℕ) (counted : Bool) (file : List ℕ) (old new : Written) (ending : ProgramEnd) (tree : Tree) (run : CountedRun WorkedJob Calm)
    → Says file (Ok tree) → plan_fault (tables_of tree) ≡ None → HasReport is_json name file counted (tables_of tree) run old.bytes new.bytes
    → IsEndOfRun run.report.live ending → IsTreeRun is_json name counted ending file old new
run_done is_json name counted file old new ending tree run says runnable report (inl (is, none)) =
    subst (λ (e : ProgramEnd). IsTreeRun is_json name counted e file old new) (sym is) (tree, (says, (runnable, (run, (report, none)))))
run_done is_json name counted file old new ending tree run says runnable report (inr (is, some)) =
    subst (λ (e : ProgramEnd). IsTreeRun is_json name counted e file old new) (sym is) (tree, (says, (runnable, (run, (report, some)))))

-- the same of a tree that was served for a time
pub serve_done : (is_json : Bool) (name file : List ℕ) (old new : Written) (ending : ProgramEnd) (tree : Tree) (report : Report PatientJob Calm)
    → Says file (Ok tree) → plan_fault (tables_of tree) ≡ None → HasServedReport is_json name file (tables_of tree) report old.bytes new.bytes
    → IsEndOfRun report.live ending → IsTreeServed is_json name ending file old new
serve_done is_json name file old new ending tree report says runnable served (inl (is, none)) =
    subst (λ (e : ProgramEnd). IsTreeServed is_json name e file old new) (sym is) (tree, (says, (runnable, (report, (served, none)))))
serve_done is_json name file old new ending tree report says runnable served (inr (is, some)) =
    subst (λ (e : ProgramEnd). IsTreeServed is_json name e file old new) (sym is) (tree, (says, (runnable, (report, (served, some)))))

abbrev IsSet : Bool → Type 0
IsSet true = ⊤
IsSet false = ⊥

-- and what was told before it ended
pub run_told : (drawn : Bool) (ending : ProgramEnd) (live : ℕ) (text : List ℕ) (a b : Written)
    → (drawn ≡ false → live ≡ 0 → text ≡ []) → IsEndOfRun live ending → IsTold text a b → TellsFirst drawn ending a b
run_told drawn ending live text a b quiet (inl (is, none)) told =
    subst (λ (e : ProgramEnd). TellsFirst drawn e a b) (sym is) (text, (λ unasked. quiet unasked none, told))
run_told drawn ending live text a b quiet (inr (is, some)) told =
    subst (λ (e : ProgramEnd). TellsFirst drawn e a b) (sym is) (text, (λ never. absurd (subst IsSet never tt), told))
