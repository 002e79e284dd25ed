use Rattle.std.proofs.Common.{[], false}
use Rattle.otp_try.specs.Sketched.{drawing}
use Rattle.otp_try.proofs.play.Play.picture.Goals as goal

pub returns-in-None : goal.returns-in-None
unfolding drawing
returns-in-None c = (false, [], [], c.new.ensures.items)
