use Rattle.std.proofs.Common.{◌≡◌, ◌≤◌, List, None, drop, length, map}
use Rattle.otp_rules.specs.declared.call.Reply.{Reply}
use Rattle.otp_rules.specs.Run.{reply_of}
use Rattle.otp_machine.specs.AnswersInside.{answer_in}
use Rattle.otp_machine.proofs.stores.answers.find_last.Given as goal

-- no answer from here on is to this call
abbrev pub invariant-loop-place : goal.invariant-loop-place
invariant-loop-place l =
    record {
      later : (replies : List Reply) → reply_of l.call (map (answer_in replies) (drop l.place l.told)) ≡ None;
      within : l.place ≤ length l.told;
    }

abbrev pub decreases-loop-place : goal.decreases-loop-place
decreases-loop-place l = l.place
