-- The answers to calls as a supervisor keeps them.
use Rattle.std.specs.Prelude.{ℕ, List, Option, None, Some}
use Rattle.otp_rules.specs.declared.call.Answered.{Answered}
use Rattle.otp_rules.specs.declared.call.ChildLine.{ChildLine}
use Rattle.otp_rules.specs.declared.call.Reply.{Reply}
use Rattle.otp_rules.specs.declared.call.Reply.TheVariants as reply

-- the answers in their order, the list of children that was told last, and how many more answers can be kept without
-- memory (own)
pub record Kept : Type 0 where
  pub answers : List Answered
  pub last_list : Option (List ChildLine)
  pub room : ℕ

-- the list of children that the reply is
abbrev pub list_of : Reply → Option (List ChildLine)
list_of reply.Ok = None
list_of (reply.OkProcess _) = None
list_of reply.OkUndefined = None
list_of (reply.Refused _) = None
list_of (reply.Which lines) = Some lines
list_of (reply.Count _) = None
list_of (reply.Spec _) = None
list_of reply.NoProc = None

abbrev pub or_else : Option (List ChildLine) → Option (List ChildLine) → Option (List ChildLine)
or_else None last = last
or_else (Some lines) last = Some lines

-- the list told last, once this reply was given
abbrev pub list_after : Reply → Option (List ChildLine) → Option (List ChildLine)
list_after r last = or_else (list_of r) last
