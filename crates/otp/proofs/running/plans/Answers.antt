use Rattle.otp.proofs.Begun.{have_bodies}
use Rattle.otp.proofs.running.plans.Goals as goal

pub returns-in-Ok-finish-clause-bodies : goal.returns-in-Ok-finish-clause-bodies
returns-in-Ok-finish-clause-bodies g c = have_bodies c.handed_on.result.items c.numbered.result.items c.handed_on.ensures.plans c.numbered.ensures.bodies
