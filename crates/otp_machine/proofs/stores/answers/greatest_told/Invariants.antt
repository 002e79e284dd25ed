use Rattle.std.proofs.Common.{◌≡◌, List, drop, map}
use Rattle.otp_rules.specs.declared.call.Reply.{Reply}
use Rattle.otp_rules.specs.Cuts.{greater_of, greatest_call}
use Rattle.otp_machine.specs.AnswersInside.{answer_in}
use Rattle.otp_machine.proofs.stores.answers.greatest_told.Given as goal

-- the greatest so far and the rest lead where all lead
abbrev pub invariant-loop-answer : goal.invariant-loop-answer
invariant-loop-answer l = (replies : List Reply) → greater_of l.greatest (greatest_call (map (answer_in replies) (drop l.answer-index l.told))) ≡ greatest_call (map (answer_in replies) l.told)
