-- Worked jobs that wait where they have nothing to do, and the plans of trees with them (own).
use Rattle.std.specs.Prelude.{List, map}
use Rattle.otp_job.specs.declared.body.Body.{Body}
use Rattle.otp_job.specs.declared.body.Body.TheVariants as body
use Rattle.otp_job.specs.declared.job.Turn.{Turn}
use Rattle.otp_job.specs.declared.job.Turn.TheVariants.{Again, Wait}
use Rattle.otp_jobs.specs.declared.body.Calm.{Calm}
use Rattle.otp_jobs.specs.declared.worker.WorkedJob.{WorkedJob}
use Rattle.otp_jobs.specs.declared.serving.patient.PatientJob.{PatientJob}
use Rattle.otp_spec.specs.declared.child.ChildSpec.{ChildSpec}
use Rattle.otp_spec.specs.declared.flags.SupFlags.{SupFlags}
use Rattle.otp_open.specs.declared.plan.TablePlan.{TablePlan}

-- what a turn is answered where a job would work on: it waits
abbrev pub patient_turn : Turn → Turn
patient_turn Again = Wait
patient_turn turn = turn

-- a body as it is, but that its job waits
abbrev pub patient_body : Body WorkedJob Calm → Body PatientJob Calm
patient_body (body.Worker job) = body.Worker (record { job = job })
patient_body (body.Bridge bridge) = body.Bridge bridge
patient_body (body.Sup number) = body.Sup number

-- what a supervisor is opened with
pub record PatientView : Type 0 where
  pub flags : SupFlags
  pub specs : List ChildSpec
  pub bodies : List (Body PatientJob Calm)

abbrev pub patient_seen : TablePlan PatientJob Calm → PatientView
patient_seen plan = record { flags = plan.supervisor.flags; specs = plan.supervisor.specs; bodies = plan.bodies.items }

-- the same, whose jobs wait
abbrev pub patient_of : TablePlan WorkedJob Calm → PatientView
patient_of plan = record { flags = plan.supervisor.flags; specs = plan.supervisor.specs; bodies = map patient_body plan.bodies.items }
