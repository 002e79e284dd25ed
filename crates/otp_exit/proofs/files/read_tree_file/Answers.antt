use Rattle.std.proofs.Common.{ap, subst}
use Rattle.otp_sim.specs.Devices.{Written}
use Rattle.otp_exit.specs.Told.{TellsFirst}
use Rattle.otp_exit.proofs.files.read_tree_file.Goals as goal

pub returns-then-is_script-clause-first : goal.returns-then-is_script-clause-first
returns-then-is_script-clause-first g c drawn =
    subst (λ (before : Written). TellsFirst drawn c.tell_not_read.result before (g.E.Output.seen c.tell_not_read.new.errors))
    (ap g.E.Output.seen (c.in-Ok.ensures {u = tt}).silent) (c.tell_not_read.ensures.first drawn)

pub returns-then-is_log-clause-first : goal.returns-then-is_log-clause-first
returns-then-is_log-clause-first g c drawn =
    subst (λ (before : Written). TellsFirst drawn c.tell_not_read-then-is_log.result before (g.E.Output.seen c.tell_not_read-then-is_log.new.errors))
    (ap g.E.Output.seen (c.in-Ok.ensures {u = tt}).silent) (c.tell_not_read-then-is_log.ensures.first drawn)
