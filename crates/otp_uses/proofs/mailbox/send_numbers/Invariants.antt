use Rattle.otp_uses.specs.Numbers.{SentAll}
use Rattle.otp_uses.proofs.mailbox.send_numbers.Given as goal

abbrev pub invariant-loop-value : goal.invariant-loop-value
invariant-loop-value g l = SentAll l.inbox l.value l.sender
