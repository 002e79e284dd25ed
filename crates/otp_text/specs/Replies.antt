-- The printed text of a reply (own).
use Rattle.std.specs.Prelude.{ℕ, List, ◌++◌, Option, Some, None, codes, decimal}
use Rattle.std.specs.List.{flat_map}
use Rattle.otp_reason.specs.declared.name.Name.{Name}
use Rattle.otp_reason.specs.Names.{name_bytes}
use Rattle.otp_spec.specs.Faults.{code_of}
use Rattle.otp_spec.specs.Words.{restart_word, type_word}
use Rattle.otp_spec.specs.declared.child.ChildSpec.{ChildSpec}
use Rattle.otp_rules.specs.declared.call.CallFault.{CallFault}
use Rattle.otp_rules.specs.declared.call.CallFault.TheVariants as fault
use Rattle.otp_rules.specs.declared.call.ChildLine.{ChildLine}
use Rattle.otp_rules.specs.declared.call.ChildProcess.{ChildProcess}
use Rattle.otp_rules.specs.declared.call.ChildProcess.TheVariants as process
use Rattle.otp_rules.specs.declared.call.CountsNow.{CountsNow}
use Rattle.otp_rules.specs.declared.call.Reply.{Reply}
use Rattle.otp_rules.specs.declared.call.Reply.TheVariants as reply
use Rattle.otp_text.specs.Values.{reason_text, process_text, shutdown_text, modules_text, bool_text}

-- why a call is refused
unfoldable pub fault_text : CallFault → List ℕ
fault_text fault.NotFound = codes "not_found"
fault_text fault.Running = codes "running"
fault_text fault.Restarting = codes "restarting"
fault_text fault.SimpleOneForOne = codes "simple_one_for_one"
fault_text fault.NotSimple = codes "not_simple"
fault_text fault.AlreadyPresent = codes "already_present"
fault_text (fault.AlreadyStarted number) = codes "already_started " ++ process_text number
fault_text fault.TooManyChildren = codes "too_many_children"
fault_text (fault.BadSpec spec_fault) = codes "bad_spec E" ++ decimal (code_of spec_fault)
fault_text (fault.Start reason) = codes "start " ++ reason_text reason

-- a child's id as which_children says it
unfoldable pub id_text : Option Name → List ℕ
id_text None = codes "undefined"
id_text (Some id) = name_bytes id

-- a child's process as which_children says it
unfoldable pub child_process_text : ChildProcess → List ℕ
child_process_text (process.Number number) = process_text number
child_process_text process.Restarting = codes "restarting"
child_process_text process.Undefined = codes "undefined"

-- a child of which_children, after a space: id, process, type and modules
unfoldable pub child_text : ChildLine → List ℕ
child_text child =
    codes " " ++ id_text child.id ++ codes "," ++ child_process_text child.process
    ++ codes "," ++ type_word child.kind ++ codes "," ++ modules_text child.modules

-- the answer of which_children
unfoldable pub which_text : List ChildLine → List ℕ
which_text children = codes "which" ++ flat_map child_text children

-- a number after its word
unfoldable pub count_text : List ℕ → ℕ → List ℕ
count_text word number = word ++ decimal number

-- the answer of count_children
unfoldable pub counts_text : CountsNow → List ℕ
counts_text counts =
    count_text (codes "count specs ") counts.specs ++ count_text (codes " active ") counts.active
    ++ count_text (codes " supervisors ") counts.supervisors ++ count_text (codes " workers ") counts.workers

-- what a specification names
unfoldable pub spec_names_text : ChildSpec → List ℕ
spec_names_text spec = codes "spec " ++ name_bytes spec.id ++ codes " start " ++ name_bytes spec.start

-- when its child is restarted, and whether it is significant
unfoldable pub spec_restart_text : ChildSpec → List ℕ
spec_restart_text spec =
    codes " restart " ++ restart_word spec.restart ++ codes " significant " ++ bool_text spec.significant

-- how its child is stopped, and what the child is
unfoldable pub spec_shutdown_text : ChildSpec → List ℕ
spec_shutdown_text spec = codes " shutdown " ++ shutdown_text spec.shutdown ++ codes " type " ++ type_word spec.kind

-- the answer of get_childspec
unfoldable pub spec_text : ChildSpec → List ℕ
spec_text spec =
    spec_names_text spec ++ spec_restart_text spec ++ spec_shutdown_text spec
    ++ codes " modules " ++ modules_text spec.modules

-- the answer to a call
unfoldable pub reply_text : Reply → List ℕ
reply_text reply.Ok = codes "ok"
reply_text (reply.OkProcess number) = codes "ok " ++ process_text number
reply_text reply.OkUndefined = codes "ok undefined"
reply_text (reply.Refused fault) = codes "error " ++ fault_text fault
reply_text (reply.Which children) = which_text children
reply_text (reply.Count counts) = counts_text counts
reply_text (reply.Spec spec) = spec_text spec
reply_text reply.NoProc = codes "noproc"
