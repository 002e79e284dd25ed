use Rattle.std.specs.Prelude.{◌≡◌, vec_capacity}
use Rattle.otp_uses.specs.Numbers.{TookSome}
use Rattle.otp_uses.proofs.mailbox.take_some.Given as goal

abbrev pub invariant-loop : goal.invariant-loop
invariant-loop g l = TookSome l.inbox l.counter l.taker l.came.items × (vec_capacity l.came ≡ vec_capacity l.initial.came)
