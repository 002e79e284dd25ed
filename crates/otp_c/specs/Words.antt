-- The words of a supervisor as numbers: those of the header (own).
use Rattle.std.specs.Prelude.{ℕ, Bool, true, false}
use Rattle.otp_driver.specs.declared.order.What.{What}
use Rattle.otp_driver.specs.declared.order.What.TheVariants as what
use Rattle.otp_file.specs.declared.fault.ChildKey.{ChildKey}
use Rattle.otp_file.specs.declared.fault.ChildKey.TheVariants as child_key
use Rattle.otp_file.specs.declared.fault.FlagKey.{FlagKey}
use Rattle.otp_file.specs.declared.fault.FlagKey.TheVariants as flag_key
use Rattle.otp_reason.specs.declared.note.Note.{Note}
use Rattle.otp_reason.specs.declared.note.Note.TheVariants as note
use Rattle.otp_rules.specs.declared.call.CallFault.{CallFault}
use Rattle.otp_rules.specs.declared.call.CallFault.TheVariants as fault
use Rattle.otp_rules.specs.declared.call.ChildProcess.{ChildProcess}
use Rattle.otp_rules.specs.declared.call.ChildProcess.TheVariants as process
use Rattle.otp_rules.specs.declared.call.Reply.{Reply}
use Rattle.otp_rules.specs.declared.call.Reply.TheVariants as reply
use Rattle.otp_rules.specs.declared.work.Phase.{Phase}
use Rattle.otp_rules.specs.declared.work.Phase.TheVariants.{Unopened, Open, Ended}
use Rattle.otp_table.specs.declared.row.RowState.{RowState}
use Rattle.otp_table.specs.declared.row.RowState.TheVariants as row
use Rattle.otp_reason.specs.declared.reason.Reason.{Reason}
use Rattle.otp_reason.specs.declared.reason.Reason.TheVariants as reason
use Rattle.otp_rules.specs.declared.ending.Ending.{Ending}
use Rattle.otp_rules.specs.declared.ending.Ending.TheVariants as ending
use Rattle.otp_spec.specs.declared.child.ChildType.{ChildType}
use Rattle.otp_spec.specs.declared.child.ChildType.TheVariants.{Worker, Supervisor}
use Rattle.otp_spec.specs.declared.child.Restart.{Restart}
use Rattle.otp_spec.specs.declared.child.Restart.TheVariants.{Permanent, Transient, Temporary}
use Rattle.otp_spec.specs.declared.child.Shutdown.{Shutdown}
use Rattle.otp_spec.specs.declared.child.Shutdown.TheVariants.{BrutalKill, Milliseconds, Infinity}
use Rattle.otp_spec.specs.declared.flags.AutoShutdown.{AutoShutdown}
use Rattle.otp_spec.specs.declared.flags.AutoShutdown.TheVariants.{Never, AnySignificant, AllSignificant}
use Rattle.otp_spec.specs.declared.flags.Strategy.{Strategy}
use Rattle.otp_spec.specs.declared.flags.Strategy.TheVariants.{OneForOne, OneForAll, RestForOne, SimpleOneForOne}

abbrev pub reason_number : Reason → ℕ
reason_number reason.Normal = 1
reason_number reason.Shutdown = 2
reason_number (reason.ShutdownWith _) = 3
reason_number reason.Kill = 4
reason_number reason.Killed = 5
reason_number reason.NoProc = 6
reason_number (reason.Error _) = 7

abbrev pub cause_number : Ending → ℕ
cause_number ending.Intensity = 1
cause_number (ending.Significant _) = 2
cause_number ending.Asked = 3
cause_number (ending.InitFailed _) = 4

abbrev pub restart_number : Restart → ℕ
restart_number Permanent = 1
restart_number Transient = 2
restart_number Temporary = 3

abbrev pub shutdown_number : Shutdown → ℕ
shutdown_number BrutalKill = 1
shutdown_number (Milliseconds _) = 2
shutdown_number Infinity = 3

abbrev pub child_type_number : ChildType → ℕ
child_type_number Worker = 1
child_type_number Supervisor = 2

abbrev pub strategy_number : Strategy → ℕ
strategy_number OneForOne = 1
strategy_number OneForAll = 2
strategy_number RestForOne = 3
strategy_number SimpleOneForOne = 4

abbrev pub auto_shutdown_number : AutoShutdown → ℕ
auto_shutdown_number Never = 1
auto_shutdown_number AnySignificant = 2
auto_shutdown_number AllSignificant = 3

abbrev pub note_kind_number : Note → ℕ
note_kind_number (note.Up _) = 1
note_kind_number (note.Ignored _) = 2
note_kind_number (note.Failed _ _) = 3
note_kind_number (note.Exit _ _) = 4

abbrev pub order_kind_number : What → ℕ
order_kind_number (what.Start _) = 1
order_kind_number (what.Ask _ _) = 2
order_kind_number (what.Kill _) = 3
order_kind_number (what.Reply _) = 4
order_kind_number what.Ready = 5
order_kind_number (what.End _ _) = 6

abbrev pub answer_kind_number : Reply → ℕ
answer_kind_number reply.Ok = 1
answer_kind_number (reply.OkProcess _) = 2
answer_kind_number reply.OkUndefined = 3
answer_kind_number (reply.Refused _) = 4
answer_kind_number (reply.Which _) = 5
answer_kind_number (reply.Count _) = 6
answer_kind_number (reply.Spec _) = 7
answer_kind_number reply.NoProc = 8

abbrev pub call_fault_number : CallFault → ℕ
call_fault_number fault.NotFound = 1
call_fault_number fault.Running = 2
call_fault_number fault.Restarting = 3
call_fault_number fault.SimpleOneForOne = 4
call_fault_number fault.NotSimple = 5
call_fault_number fault.AlreadyPresent = 6
call_fault_number (fault.AlreadyStarted _) = 7
call_fault_number fault.TooManyChildren = 8
call_fault_number (fault.BadSpec _) = 9
call_fault_number (fault.Start _) = 10

abbrev pub process_number : ChildProcess → ℕ
process_number (process.Number _) = 1
process_number process.Restarting = 2
process_number process.Undefined = 3

abbrev pub child_state_number : RowState → ℕ
child_state_number row.Undefined = 1
child_state_number (row.Starting _ _) = 2
child_state_number (row.Up _) = 3
child_state_number (row.Asked _ _) = 4
child_state_number (row.Killed _) = 5
child_state_number (row.Restarting _) = 6

abbrev pub phase_number : Phase → ℕ
phase_number Unopened = 1
phase_number (Open _) = 2
phase_number (Ended _ _) = 3

abbrev pub flag_key_number : FlagKey → ℕ
flag_key_number flag_key.Strategy = 1
flag_key_number flag_key.Intensity = 2
flag_key_number flag_key.Period = 3
flag_key_number flag_key.AutoShutdown = 4
flag_key_number flag_key.Child = 5

abbrev pub child_key_number : ChildKey → ℕ
child_key_number child_key.Id = 1
child_key_number child_key.Start = 2
child_key_number child_key.Restart = 3
child_key_number child_key.Significant = 4
child_key_number child_key.Shutdown = 5
child_key_number child_key.Kind = 6
child_key_number child_key.Modules = 7
child_key_number child_key.Tree = 8

-- 1 for yes, 0 for no
abbrev pub flag_number : Bool → ℕ
flag_number true = 1
flag_number false = 0
