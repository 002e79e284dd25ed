-- What a refused call leaves (supervisor: the errors of start_child/2, restart_child/2, delete_child/2, terminate_child/2 and
-- get_childspec/2).
use Rattle.std.specs.Prelude.{◌≡◌, ◌++◌, false, List, All, is_some}
use Rattle.otp_rules.specs.declared.call.Answered.{Answered}
use Rattle.otp_rules.specs.declared.call.CallFault.{CallFault}
use Rattle.otp_rules.specs.declared.call.CallFault.TheVariants as fault
use Rattle.otp_rules.specs.declared.call.Reply.{Reply}
use Rattle.otp_rules.specs.declared.call.Reply.TheVariants as reply
use Rattle.otp_rules.specs.declared.event.Event.{Event}
use Rattle.otp_rules.specs.State.{State}
use Rattle.otp_rules.specs.Step.{step}
use Rattle.otp_laws.specs.Notes.{ChangesNone}

-- the call was refused, and not for a start that failed: then it was carried out, and the child didn't come up
abbrev pub IsRefusedFor : CallFault → Type 0
IsRefusedFor (fault.Start _) = ⊥
IsRefusedFor _ = Unit {0}

abbrev pub IsRefusal : Reply → Type 0
IsRefusal (reply.Refused why) = IsRefusedFor why
IsRefusal _ = ⊥

-- if the answer is a refusal, the event changes no row, and no work is open after it
abbrev pub ChangesNoneIfRefused : State → Event → Answered → Type 0
ChangesNoneIfRefused s e a = IsRefusal a.reply → ChangesNone s e × (is_some (step s e).state.follows ≡ false)

-- from each state: so it is of each answer that the event gives
abbrev pub RefusalsChangeNone : Type 0
RefusalsChangeNone = (s : State) (e : Event) → (given : List Answered) × ((step s e).state.replies ≡ s.replies ++ given) × All (ChangesNoneIfRefused s e) given
