use Rattle.std.proofs.Common.{length}
use Rattle.otp_pages.proofs.map.+put_children.Given as goal

abbrev pub decreases-put_children : goal.decreases-put_children
decreases-put_children l = length l.specs.now
