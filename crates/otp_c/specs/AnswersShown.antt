-- What the structs of an answer say (own).
use Rattle.std.specs.Prelude.{◌≡◌, ◌^◌, ◌-◌, ℕ, length, min}
use Rattle.otp_rules.specs.declared.call.Answered.{Answered}
use Rattle.otp_rules.specs.declared.call.CallFault.{CallFault}
use Rattle.otp_rules.specs.declared.call.CallFault.TheVariants as fault
use Rattle.otp_rules.specs.declared.call.ChildLine.{ChildLine}
use Rattle.otp_rules.specs.declared.call.ChildProcess.{ChildProcess}
use Rattle.otp_rules.specs.declared.call.ChildProcess.TheVariants as process
use Rattle.otp_rules.specs.declared.call.Reply.{Reply}
use Rattle.otp_rules.specs.declared.call.Reply.TheVariants as reply
use Rattle.otp_spec.specs.Faults.{code_of}
use Rattle.otp_spec.specs.declared.fault.SpecFault.{SpecFault}
use Rattle.otp_spec.specs.declared.fault.SpecFault.TheVariants as spec_fault
use Rattle.otp_spec.specs.declared.fault.SpecKey.TheVariants as spec_key
use Rattle.otp_c.specs.declared.shapes.structs.CAnswer.{CAnswer}
use Rattle.otp_c.specs.declared.shapes.structs.CLine.{CLine}
use Rattle.otp_c.specs.Orders.{ShowsReasonText, ShowsSome}
use Rattle.otp_c.specs.Shown.{ShowsModules}
use Rattle.otp_c.specs.Words.{answer_kind_number, call_fault_number, child_type_number, process_number, reason_number}

-- which key of a specification is unlawful, where that is the fault
abbrev pub key_of : SpecFault → ℕ
key_of (spec_fault.BadSpec _ spec_key.Id) = 1
key_of (spec_fault.BadSpec _ spec_key.Start) = 2
key_of (spec_fault.BadSpec _ spec_key.Modules) = 3
key_of _ = 0

-- why a call was refused
abbrev pub ShowsRefusal : CallFault → CAnswer → Type 0
ShowsRefusal (fault.AlreadyStarted number) out = out.number ≡ number
ShowsRefusal (fault.BadSpec why) out = (out.spec_fault ≡ code_of why) × (out.spec_key ≡ key_of why)
ShowsRefusal (fault.Start reason) out = (out.reason ≡ reason_number reason) × ShowsReasonText reason out.text
ShowsRefusal _ out = out.number ≡ 0

-- what an answer has beside its kind. Lines are counted in 32 bits
abbrev pub ShowsReply : Reply → CAnswer → Type 0
ShowsReply (reply.OkProcess number) out = out.number ≡ number
ShowsReply (reply.Refused why) out = (out.fault ≡ call_fault_number why) × ShowsRefusal why out
ShowsReply (reply.Which lines) out = out.lines ≡ min (length lines) (2 ^ 32 - 1)
ShowsReply (reply.Count counts) out =
    (out.specs ≡ counts.specs) × (out.active ≡ counts.active) × (out.supervisors ≡ counts.supervisors) × (out.workers ≡ counts.workers)
ShowsReply _ out = out.number ≡ 0

pub record ShowsAnswer (answered : Answered) (out : CAnswer) : Type 0 where
  pub call : out.call ≡ answered.call
  pub kind : out.kind ≡ answer_kind_number answered.reply
  pub rest : ShowsReply answered.reply out

-- the number of a process, or 0
abbrev pub number_of : ChildProcess → ℕ
number_of (process.Number number) = number
number_of _ = 0

pub record ShowsLine (line : ChildLine) (out : CLine) : Type 0 where
  pub number : out.number ≡ number_of line.process
  pub process : out.process ≡ process_number line.process
  pub kind : out.kind ≡ child_type_number line.kind
  pub modules : ShowsModules line.modules out.modules out.module
  pub id : ShowsSome line.id out.id
