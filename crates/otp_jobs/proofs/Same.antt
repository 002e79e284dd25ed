-- Plans whose jobs wait are those of the same tree.
use Rattle.std.proofs.Common.{Some, None, ◌≡◌, ℕ, zero, suc, ◌≤◌, List, [], ◌∷◌, Option, arith, length, map, refl, sym, ap, ◌∙◌, subst}
use Rattle.std.proofs.lemmas.List.{length-map}
use Rattle.std.specs.Prelude.{slice_get}
use Rattle.otp_jobs.specs.declared.body.Calm.{Calm}
use Rattle.otp_jobs.specs.declared.worker.WorkedJob.{WorkedJob}
use Rattle.otp_open.specs.Plans.{HaveBodies, Suffice, plans_of}
use Rattle.otp_open.specs.declared.plan.TablePlan.{TablePlan}
use Rattle.otp_run.proofs.Places.{map_at}
use Rattle.otp_run.specs.Lists.{AllAt}
use Rattle.otp_spec.specs.Supervisor.{Supervisor}
use Rattle.otp_jobs.specs.Patient.{PatientView, patient_body, patient_of, patient_seen}
use Rattle.otp_jobs.specs.declared.serving.patient.PatientJob.{PatientJob}

abbrev shown : Option PatientView → Option Supervisor
shown (Some view) = Some (record { flags = view.flags; specs = view.specs })
shown None = None

patient_at : (plans : List (TablePlan PatientJob Calm)) (k : ℕ) → plans_of plans k ≡ shown (slice_get (map patient_seen plans) k)
patient_at [] k = refl
patient_at (plan ∷ plans) zero = refl
patient_at (plan ∷ plans) (suc k) = patient_at plans k

worked_at : (plans : List (TablePlan WorkedJob Calm)) (k : ℕ) → plans_of plans k ≡ shown (slice_get (map patient_of plans) k)
worked_at [] k = refl
worked_at (plan ∷ plans) zero = refl
worked_at (plan ∷ plans) (suc k) = worked_at plans k

-- each has the same flags and specifications
pub same_at : (all : List (TablePlan PatientJob Calm)) (plans : List (TablePlan WorkedJob Calm)) → map patient_seen all ≡ map patient_of plans → (k : ℕ) → plans_of all k ≡ plans_of plans k
same_at all plans same k = patient_at all k ∙ ap (λ (views : List PatientView). shown (slice_get views k)) same ∙ sym (worked_at plans k)

abbrev Enough : PatientView → Type 0
Enough v = Suffice (length v.bodies) (record { flags = v.flags; specs = v.specs })

enough : (plans : List (TablePlan WorkedJob Calm)) → HaveBodies plans → AllAt (λ _ v. Enough v) (map patient_of plans)
enough [] have k = tt
enough (plan ∷ plans) have zero = let long = length-map plan.bodies.items patient_body in let some = have zero in omega (arith, long, some)
enough (plan ∷ plans) have (suc k) = enough plans (λ j. have (suc j)) k

-- and as many bodies
pub bodies_kept : (all : List (TablePlan PatientJob Calm)) (plans : List (TablePlan WorkedJob Calm)) → map patient_seen all ≡ map patient_of plans → HaveBodies plans → HaveBodies all
bodies_kept all plans same have = map_at patient_seen (λ _ v. Enough v) all (subst (AllAt (λ _ v. Enough v)) (sym same) (enough plans have))
