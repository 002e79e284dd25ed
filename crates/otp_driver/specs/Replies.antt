-- What is known of the answer to a call (own).
use Rattle.std.specs.Prelude.{◌≡◌, ℕ, true, All, List, Option, None, Some, is_some, ⊤}
use Rattle.otp_core.specs.View.{View, stored_state}
use Rattle.otp_core.specs.declared.reply.ReplyAnswer.{ReplyAnswer}
use Rattle.otp_core.specs.declared.reply.ReplyAnswer.TheVariants.{Kept}
use Rattle.otp_rules.specs.declared.call.Answered.{Answered}
use Rattle.otp_rules.specs.declared.call.Reply.{Reply}
use Rattle.otp_rules.specs.declared.event.Effect.{Effect}
use Rattle.otp_rules.specs.declared.event.Effect.TheVariants as effect
use Rattle.otp_rules.specs.Run.{reply_of}

-- an answer that is kept is the last one that the supervisor gave to the call
abbrev pub IsReplyIn : {R : Type 0} → (R → Reply) → ℕ → List Answered → ReplyAnswer R → Type 0
IsReplyIn shown call replies (Kept r) = reply_of call replies ≡ Some (shown r)
IsReplyIn shown call replies _ = ⊤

abbrev pub IsKept : {R : Type 0} → ReplyAnswer R → Type 0
IsKept (Kept _) = ⊤
IsKept _ = ⊥

-- the answer that an order tells of is among these
abbrev pub IsAnswered : List Answered → Effect → Type 0
IsAnswered replies (effect.Reply call) = is_some (reply_of call replies) ≡ true
IsAnswered replies _ = ⊤

-- so it is of all orders of a core and of what it was told since its last cut
abbrev pub AreAnswered : View → Type 0
AreAnswered v = All (IsAnswered (stored_state v).replies) v.effects

-- the copy of an answer is the call's last one
abbrev pub IsAnswerTo : ℕ → List Answered → Option Answered → Type 0
IsAnswerTo call replies None = ⊥
IsAnswerTo call replies (Some a) = (a.call ≡ call) × (reply_of call replies ≡ Some a.reply)
