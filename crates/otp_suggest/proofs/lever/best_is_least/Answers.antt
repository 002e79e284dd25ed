use Rattle.otp_suggest.proofs.LeastBest.{best_law}
use Rattle.otp_suggest.proofs.lever.best_is_least.Goals as goal

pub returns : goal.returns
returns c = best_law
