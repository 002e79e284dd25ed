use Rattle.otp_run.specs.Names.{numbered}
use Rattle.otp_uses.proofs.countdown.run_all.Given as goal

abbrev pub ghosts-run_in : goal.ghosts-run_in
ghosts-run_in g a = record { deque = numbered a.queue }
