-- The lines of lists of children that were told.
use Rattle.std.proofs.Common.{◌≡◌, ℕ, ◌+◌, ◌≤◌, ◌++◌, List, [], ◌∷◌, ◌∙◌, ap, arith, map, min}
use Rattle.std.specs.Prelude.{nat_le}
use Rattle.std.proofs.lemmas.List.{map-append}
use Rattle.otp_rules.specs.declared.call.Answered.{Answered}
use Rattle.otp_rules.specs.declared.call.Reply.{Reply}
use Rattle.otp_rules.specs.Counts.{lines_in, lines_told}
use Rattle.otp_machine.specs.declared.stores.answers.StoredAnswer.{StoredAnswer}
use Rattle.otp_machine.specs.AnswersInside.{answer_in}

-- one answer more
pub lines_on : (answers : List Answered) (a : Answered) → lines_told (answers ++ a ∷ []) ≡ lines_told answers + lines_in a.reply
lines_on [] a = omega arith
lines_on (b ∷ answers) a = omega (arith, lines_on answers a)

-- and one that tells of a reply which is kept
pub lines_again : (replies : List Reply) (told : List StoredAnswer) (t : StoredAnswer) → lines_told (map (answer_in replies) (told ++ t ∷ [])) ≡ lines_told (map (answer_in replies) told) + lines_in (answer_in replies t).reply
lines_again replies told t = ap (λ (xs : List Answered). lines_told xs) (map-append (answer_in replies) told (t ∷ [])) ∙ lines_on (map (answer_in replies) told) (answer_in replies t)

-- a limit that the greatest count reaches is reached by the count exactly where it is by the number
pub reached_alike : (limit n most : ℕ) → limit ≤ most → nat_le limit (min n most) ≡ nat_le limit n
reached_alike limit n most h = grind arith
