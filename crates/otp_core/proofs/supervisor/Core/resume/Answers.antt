use Rattle.std.proofs.Common.{subst, sym}
use Rattle.otp_rules.specs.Evidence.{IsShowing}
use Rattle.otp_rules.specs.Rate.{IsRated}
use Rattle.otp_core.proofs.supervisor.Core.resume.Goals as goal

pub begin-requires-clause-shows : goal.begin-requires-clause-shows
begin-requires-clause-shows c = subst IsShowing (sym c.in_ok-machine.ensures.state) c.in_ok-machine.ensures.shows

pub begin-requires-clause-rated : goal.begin-requires-clause-rated
begin-requires-clause-rated c = subst IsRated (sym c.in_ok-machine.ensures.state) c.in_ok-machine.ensures.rated
