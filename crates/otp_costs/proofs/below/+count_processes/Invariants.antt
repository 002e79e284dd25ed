use Rattle.std.proofs.Common.{length}
use Rattle.otp_costs.proofs.below.+count_processes.Given as goal

abbrev pub decreases-count_processes : goal.decreases-count_processes
decreases-count_processes l = length l.names.now
