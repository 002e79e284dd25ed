use Rattle.std.proofs.Common.{take}
use Rattle.otp_shutdown.specs.Stops.{AreStopsWithin, AreSubs}
use Rattle.otp_shutdown.proofs.stops.+find_within.Given as goal

abbrev pub decreases-find_within : goal.decreases-find_within
decreases-find_within l = l.levels

abbrev pub invariant-loop-number : goal.invariant-loop-number
invariant-loop-number l =
    AreSubs (AreStopsWithin l.left) l.path l.specs (take l.number l.nested) (take l.number l.trees) l.each.items
