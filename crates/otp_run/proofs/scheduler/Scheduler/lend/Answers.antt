use Rattle.otp_run.proofs.Shares.{lending_keeps}
use Rattle.otp_run.proofs.scheduler.Scheduler.lend.Goals as goal

pub invariant_of-self-2 : goal.invariant_of-self-2
invariant_of-self-2 g c = lending_keeps _ _ _ c.self.invariant c.self.view_is c.requires.unused ((c.in_ok-victim.ensures {u = tt}).kept)
