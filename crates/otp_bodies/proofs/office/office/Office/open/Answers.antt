use Rattle.otp_bodies.proofs.Posting.{opened}
use Rattle.otp_bodies.proofs.office.office.Office.open.Goals as goal

pub invariant_of-result : goal.invariant_of-result
invariant_of-result g c =
    opened _ c.args.supervisor.flags c.args.supervisor.specs _ _ _ c.of.ensures.core c.of.ensures.limit c.requires.drawn c.requires.posts c.requires.slots c.requires.fits c.new.ensures.none
