-- A tree of a file, by the plans that it is opened with.
use Rattle.std.proofs.Common.{Some, None, ◌≡◌, ℕ, zero, suc, ◌+◌, List, [], ◌∷◌, Option, arith, map, refl, ap, subst, ◌∙◌}
use Rattle.std.specs.Prelude.{slice_get}
use Rattle.otp_close.specs.Closes.{HaveBegun}
use Rattle.otp_file.specs.Trees.{Table}
use Rattle.otp_open.proofs.EachOpened.{none_lacks}
use Rattle.otp_open.specs.Plans.{HaveBodies, plans_of}
use Rattle.otp_open.specs.declared.plan.TablePlan.{TablePlan}
use Rattle.otp_close.specs.declared.report.report.TableReport.{TableReport}
use Rattle.otp_run.proofs.Places.{each_at}
use Rattle.otp_spec.specs.Supervisor.{Supervisor}
use Rattle.otp_sup.specs.Plans.{IsBegunBy}
use Rattle.otp_tree.specs.Closes.{IsRunOpenFault}
use Rattle.otp_tree.specs.declared.whole.RunFault.{RunFault}
use Rattle.otp_tree.specs.declared.whole.RunFault.TheVariants as run
use Rattle.otp_jobs.specs.Runs.{IsNoneBare}
use Rattle.otp_jobs.specs.Plans.{PlanView, plans_from, seen, supervisors_of}
use Rattle.otp_jobs.specs.declared.body.Calm.{Calm}
use Rattle.otp_jobs.specs.declared.worker.WorkedJob.{WorkedJob}

abbrev supervisor_seen : Option PlanView → Option Supervisor
supervisor_seen (Some view) = Some (record { flags = view.flags; specs = view.specs })
supervisor_seen None = None

planned_at : (plans : List (TablePlan WorkedJob Calm)) (k : ℕ) → plans_of plans k ≡ supervisor_seen (slice_get (map seen plans) k)
planned_at [] k = refl
planned_at (plan ∷ plans) zero = refl
planned_at (plan ∷ plans) (suc k) = planned_at plans k

said_at : (number : ℕ) (tables : List Table) (k : ℕ) → supervisor_seen (slice_get (plans_from number tables) k) ≡ supervisors_of tables k
said_at number [] k = refl
said_at number (table ∷ tables) zero = refl
said_at number (table ∷ tables) (suc k) = said_at (number + 1) tables k

-- each plan of a tree has the flags and the specifications of its table
pub opened_at : (plans : List (TablePlan WorkedJob Calm)) (tables : List Table) → map seen plans ≡ plans_from 0 tables → (k : ℕ) → plans_of plans k ≡ supervisors_of tables k
opened_at plans tables same k = planned_at plans k ∙ ap (λ (views : List PlanView). supervisor_seen (slice_get views k)) same ∙ said_at 0 tables k

-- so a report of the plans is one of the tree
pub have_begun : (plans other : ℕ → Option Supervisor) (reports : List TableReport) → ((k : ℕ) → plans k ≡ other k) → HaveBegun plans reports → HaveBegun other reports
have_begun plans other reports same begun =
    each_at (λ k (t : TableReport). IsBegunBy (plans k) t.core.base) (λ k t. IsBegunBy (other k) t.core.base) reports begun
    (λ k t within is. subst (λ (p : Option Supervisor). IsBegunBy p t.core.base) (same k) is)

-- where each plan has its bodies, none lacks one
pub none_bare : {J S : Type 0} (plans : List (TablePlan J S)) (why : RunFault J S) → HaveBodies plans → IsRunOpenFault plans why → IsNoneBare why
none_bare plans (run.Open back) all fault = none_lacks plans back.fault all fault.0
none_bare plans (run.Close why) all fault = tt
