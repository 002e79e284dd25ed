-- The printed line of an order (own).
use Rattle.std.specs.Prelude.{ℕ, List, [], ◌++◌, Option, Some, None, codes, decimal}
use Rattle.otp_reason.specs.declared.name.Name.{Name}
use Rattle.otp_rules.specs.declared.call.Reply.{Reply}
use Rattle.otp_rules.specs.declared.event.Effect.{Effect}
use Rattle.otp_rules.specs.declared.event.Effect.TheVariants as effect
use Rattle.otp_text.specs.Values.{reason_text, process_text, child_name_text}
use Rattle.otp_text.specs.Replies.{reply_text}

-- what an order asks of a child
unfoldable pub order_line : List ℕ → Option Name → ℕ → List ℕ
order_line word name number = word ++ child_name_text name ++ codes " " ++ process_text number ++ codes "\n"

-- that a call was answered so; without the answer there is no line
unfoldable pub reply_line : ℕ → Option Reply → List ℕ
reply_line call None = []
reply_line call (Some reply) = codes "reply " ++ decimal call ++ codes " " ++ reply_text reply ++ codes "\n"

-- the line of an order, its end of line included; a Reply shows this answer
unfoldable pub effect_line : Effect → Option Reply → List ℕ
effect_line (effect.Start name number) _ = order_line (codes "start ") name number
effect_line (effect.Ask name number) _ = order_line (codes "ask ") name number
effect_line (effect.Kill name number) _ = order_line (codes "kill ") name number
effect_line (effect.Reply call) reply = reply_line call reply
effect_line effect.Ready _ = codes "ready\n"
effect_line (effect.End end) _ = codes "end " ++ reason_text end.reason ++ codes "\n"
