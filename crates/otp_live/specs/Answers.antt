-- What a supervisor's reply to each call is as an answer: by the functions that OTP's supervisor exports (supervisor, "Exports").
use Rattle.std.specs.Prelude.{◌≡◌, ℕ, List, Option, Some, None, Result, Ok, Err}
use Rattle.otp_job.specs.declared.body.Body.{Body}
use Rattle.otp_rules.specs.declared.call.CallFault.{CallFault}
use Rattle.otp_rules.specs.declared.call.CallFault.TheVariants as fault
use Rattle.otp_rules.specs.declared.call.ChildLine.{ChildLine}
use Rattle.otp_rules.specs.declared.call.CountsNow.{CountsNow}
use Rattle.otp_rules.specs.declared.call.Reply.{Reply}
use Rattle.otp_rules.specs.declared.call.Reply.TheVariants as reply
use Rattle.otp_spec.specs.declared.child.ChildSpec.{ChildSpec}
use Rattle.otp_live.specs.declared.calling.answers.CallError.{CallError}
use Rattle.otp_live.specs.declared.calling.answers.CallError.TheVariants as error
use Rattle.otp_live.specs.declared.calling.answers.DeleteRefusal.{DeleteRefusal}
use Rattle.otp_live.specs.declared.calling.answers.DeleteRefusal.TheVariants as delete
use Rattle.otp_live.specs.declared.calling.answers.GetRefusal.{GetRefusal}
use Rattle.otp_live.specs.declared.calling.answers.GetRefusal.TheVariants as get
use Rattle.otp_live.specs.declared.calling.answers.RestartRefusal.{RestartRefusal}
use Rattle.otp_live.specs.declared.calling.answers.RestartRefusal.TheVariants as restart
use Rattle.otp_live.specs.declared.calling.answers.StartRefusal.{StartRefusal}
use Rattle.otp_live.specs.declared.calling.answers.StartRefusal.TheVariants as start
use Rattle.otp_live.specs.declared.calling.answers.TerminateRefusal.{TerminateRefusal}
use Rattle.otp_live.specs.declared.calling.answers.TerminateRefusal.TheVariants as terminate
use Rattle.otp_live.specs.declared.calling.caller.Answer.{Answer}
use Rattle.otp_live.specs.declared.calling.caller.Answer.TheVariants as answer

-- why restart_child/2 is refused
abbrev pub restart_refusal : CallFault → Option RestartRefusal
restart_refusal fault.NotFound = Some restart.NotFound
restart_refusal fault.Running = Some restart.Running
restart_refusal fault.Restarting = Some restart.Restarting
restart_refusal fault.SimpleOneForOne = Some restart.SimpleOneForOne
restart_refusal (fault.Start reason) = Some (restart.Start reason)
restart_refusal _ = None

-- why delete_child/2 is refused
abbrev pub delete_refusal : CallFault → Option DeleteRefusal
delete_refusal fault.NotFound = Some delete.NotFound
delete_refusal fault.Running = Some delete.Running
delete_refusal fault.Restarting = Some delete.Restarting
delete_refusal fault.SimpleOneForOne = Some delete.SimpleOneForOne
delete_refusal _ = None

-- why terminate_child/2 is refused
abbrev pub terminate_refusal : CallFault → Option TerminateRefusal
terminate_refusal fault.NotFound = Some terminate.NotFound
terminate_refusal fault.SimpleOneForOne = Some terminate.WrongStrategy
terminate_refusal fault.NotSimple = Some terminate.WrongStrategy
terminate_refusal _ = None

-- why start_child/2 is refused
abbrev pub start_refusal : CallFault → Option StartRefusal
start_refusal (fault.BadSpec why) = Some (start.BadSpec why)
start_refusal fault.AlreadyPresent = Some start.AlreadyPresent
start_refusal (fault.AlreadyStarted number) = Some (start.AlreadyStarted number)
start_refusal fault.TooManyChildren = Some start.TooManyChildren
start_refusal fault.SimpleOneForOne = Some start.WrongStrategy
start_refusal fault.NotSimple = Some start.WrongStrategy
start_refusal (fault.Start reason) = Some (start.Start reason)
start_refusal _ = None

-- why get_childspec/2 is refused
abbrev pub get_refusal : CallFault → Option GetRefusal
get_refusal fault.NotFound = Some get.NotFound
get_refusal _ = None

-- a refusal as an error: strange where no such call is refused so
abbrev pub refused : {F : Type 0} → Option F → CallError F
refused None = error.Strange
refused (Some refusal) = error.Refused refusal

-- restart_child/2
abbrev pub restarted : Reply → Result (Option ℕ) (CallError RestartRefusal)
restarted (reply.OkProcess number) = Ok (Some number)
restarted reply.OkUndefined = Ok None
restarted (reply.Refused why) = Err (refused (restart_refusal why))
restarted _ = Err error.Strange

-- delete_child/2
abbrev pub deleted : Reply → Result (Unit {0}) (CallError DeleteRefusal)
deleted reply.Ok = Ok tt
deleted (reply.Refused why) = Err (refused (delete_refusal why))
deleted _ = Err error.Strange

-- terminate_child/2
abbrev pub terminated : Reply → Result (Unit {0}) (CallError TerminateRefusal)
terminated reply.Ok = Ok tt
terminated (reply.Refused why) = Err (refused (terminate_refusal why))
terminated _ = Err error.Strange

-- which_children/1
abbrev pub listed : Reply → Result (List ChildLine) (CallError (Unit {0}))
listed (reply.Which lines) = Ok lines
listed _ = Err error.Strange

-- count_children/1
abbrev pub counted : Reply → Result CountsNow (CallError (Unit {0}))
counted (reply.Count counts) = Ok counts
counted _ = Err error.Strange

-- get_childspec/2
abbrev pub described : Reply → Result ChildSpec (CallError GetRefusal)
described (reply.Spec spec) = Ok spec
described (reply.Refused why) = Err (refused (get_refusal why))
described _ = Err error.Strange

-- start_child/2, where the supervisor replied
abbrev pub begun : Reply → Result (Option ℕ) (CallError StartRefusal)
begun (reply.OkProcess number) = Ok (Some number)
begun reply.OkUndefined = Ok None
begun (reply.Refused why) = Err (refused (start_refusal why))
begun reply.NoProc = Err error.NoProc
begun _ = Err error.Strange

-- why nothing was answered, or the supervisor's reply; beside it the body that came back
abbrev pub given : {J S F : Type 0} → Answer J S → Result Reply (CallError F) × Option (Body J S)
given (answer.Given reply.NoProc body) = (Err error.NoProc, body)
given (answer.Given told body) = (Ok told, body)
given (answer.Gone body) = (Err error.Gone, body)
given (answer.Unsent cause body) = (Err (error.Unsent cause), body)
given (answer.Over body) = (Err error.Over, body)

-- an error with the body that came back
abbrev pub or_with : {A E B : Type 0} → B → Result A E → Result A (E × B)
or_with body (Ok a) = Ok a
or_with body (Err e) = Err (e, body)

-- start_child/2, by what was answered; the body is back where no child has it
abbrev pub started : {J S : Type 0} → Answer J S → Result (Option ℕ) (CallError StartRefusal × Option (Body J S))
started (answer.Given told body) = or_with body (begun told)
started (answer.Gone body) = Err (error.Gone, body)
started (answer.Unsent cause body) = Err (error.Unsent cause, body)
started (answer.Over body) = Err (error.Over, body)
