-- What is known of the answer to a call.
use Rattle.std.specs.Prelude.{◌≡◌, ℕ, Bool, true, false, ◌&&◌, not, Option, None, Some}
use Rattle.otp_rules.specs.declared.event.Effect.{Effect}
use Rattle.otp_rules.specs.Answers.{IsKeptIn}
use Rattle.otp_rules.specs.declared.call.Reply.{Reply}
use Rattle.otp_rules.specs.Cuts.{greater_of, greatest_call, is_at_most, is_open_call}
use Rattle.otp_rules.specs.Run.{reply_of, state_after}
use Rattle.otp_core.specs.declared.reply.ReplyAnswer.{ReplyAnswer}
use Rattle.otp_core.specs.declared.reply.ReplyAnswer.TheVariants.{Kept, Gone, NotYet}
use Rattle.otp_core.specs.View.{View, past_of, state_of, stored_state}

-- the greatest number of a call whose answer a cut dropped, or the checkpoint from which the core was resumed, if one did
abbrev pub greatest_dropped : View → Option ℕ
greatest_dropped v = greater_of v.earlier.greatest_call (greatest_call (state_after v.base (past_of v)).replies)

-- a cut may have dropped the answer: the call's number is no greater than that one, and the call is not still to be answered
abbrev pub is_gone : ℕ → View → Bool
is_gone c v = is_at_most c (greatest_dropped v) && not (is_open_call c (state_of v))

-- the answer that the order tells of is kept
abbrev pub IsKept : View → Effect → Type 0
IsKept v e = IsKeptIn (state_of v).replies (stored_state v).replies e

-- kept, where the answer was given since the cut; else gone, or not given yet
abbrev pub IsReplyAnswer : {R : Type 0} → (R → Reply) → ℕ → View → ReplyAnswer R → Type 0
IsReplyAnswer shown c v (Kept r) = reply_of c (stored_state v).replies ≡ Some (shown r)
IsReplyAnswer shown c v Gone = (reply_of c (stored_state v).replies ≡ None) × (is_gone c v ≡ true)
IsReplyAnswer shown c v NotYet = (reply_of c (stored_state v).replies ≡ None) × (is_gone c v ≡ false)
