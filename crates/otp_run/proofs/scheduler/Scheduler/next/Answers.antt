use Rattle.otp_run.proofs.Ledger.{theft_keeps, theft_out, miss_keeps, miss_out}
use Rattle.otp_run.proofs.scheduler.Scheduler.next.Goals as goal

pub invariant_of-self-in-Some-steal_from : goal.invariant_of-self-in-Some-steal_from
invariant_of-self-in-Some-steal_from g c = theft_keeps _ _ _ _ _ c.self.invariant ((c.in_default.ensures {u = tt}).none) ((c.in-Some-steal_from.ensures {u = tt}).found)

pub returns-in-Some-steal_from-clause-out : goal.returns-in-Some-steal_from-clause-out
returns-in-Some-steal_from-clause-out g c = theft_out _ _ _ _ _ _ c.self.invariant c.self.view_is ((c.in_default.ensures {u = tt}).none) ((c.in-Some-steal_from.ensures {u = tt}).found)

pub invariant_of-self-2 : goal.invariant_of-self-2
invariant_of-self-2 g c = miss_keeps _ _ _ _ c.self.invariant ((c.in_default.ensures {u = tt}).none) ((c.in_default-steal_from.ensures {u = tt}).none)

pub returns-clause-none_out : goal.returns-clause-none_out
returns-clause-none_out g c = miss_out _ _ _ _ _ c.self.invariant c.self.view_is ((c.in_default.ensures {u = tt}).none) ((c.in_default-steal_from.ensures {u = tt}).none)
