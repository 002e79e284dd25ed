-- What the worked jobs do (own).
use Rattle.std.specs.Prelude.{Bool, true, false, codes}
use Rattle.otp_job.specs.declared.bridge.bridge.BridgePhase.TheVariants.{New}
use Rattle.otp_job.specs.declared.body.Body.{Body}
use Rattle.otp_job.specs.declared.body.Body.TheVariants as body
use Rattle.otp_job.specs.declared.job.Turn.{Turn}
use Rattle.otp_job.specs.declared.job.Turn.TheVariants.{Again, End}
use Rattle.otp_reason.specs.Texts.{text_of}
use Rattle.otp_reason.specs.declared.note.Started.{Started}
use Rattle.otp_reason.specs.declared.note.Started.TheVariants as started
use Rattle.otp_reason.specs.declared.reason.Reason.{Reason}
use Rattle.otp_reason.specs.declared.reason.Reason.TheVariants as reason
use Rattle.otp_jobs.specs.declared.body.Calm.{Calm}
use Rattle.otp_file.specs.declared.roles.role.Role.{Role}
use Rattle.otp_file.specs.declared.roles.role.Role.TheVariants as role
use Rattle.otp_file.specs.declared.roles.work.JobWork.{JobWork}
use Rattle.otp_file.specs.declared.roles.work.JobWork.TheVariants.{Steady, Once, Crash, CrashOnce, Ignore, Refuse, Stubborn}
use Rattle.otp_jobs.specs.declared.worker.Life.{Life}
use Rattle.otp_jobs.specs.declared.worker.Life.TheVariants.{Unstarted, First, Later}
use Rattle.otp_jobs.specs.declared.worker.WorkedJob.{WorkedJob}

-- the reason of a crash
abbrev pub crash : Reason
crash = reason.Error (text_of (codes "crash"))

-- only a stubborn job traps exits
abbrev pub traps : JobWork → Bool
traps Stubborn = true
traps _ = false

-- what a start answers
abbrev pub answer_of : JobWork → Started
answer_of Ignore = started.Ignore
answer_of Refuse = started.Fail (reason.Error (text_of (codes "refused")))
answer_of _ = started.Up

-- how far a job has come after one start more
abbrev pub life_after : Life → Life
life_after Unstarted = First
life_after First = Later
life_after Later = Later

-- what a turn answers: the first after a start ends the job, or none does
abbrev pub turn_of : JobWork → Life → Turn
turn_of Once life = End reason.Normal
turn_of Crash life = End crash
turn_of CrashOnce First = End crash
turn_of CrashOnce _ = Again
turn_of _ life = Again

-- a job that was never started
abbrev pub fresh_job : JobWork → WorkedJob
fresh_job work = record { work = work; life = Unstarted }

-- the body of a child that runs this, which was never started
abbrev pub body_of : Role → Body WorkedJob Calm
body_of (role.Worker work) = body.Worker (fresh_job work)
body_of role.Bridge = body.Bridge (record { subsystem = record {}; phase = New })
