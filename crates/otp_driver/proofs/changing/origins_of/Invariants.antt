use Rattle.std.proofs.Common.{◌≡◌, [], drop}
use Rattle.otp_driver.specs.Changed.{origins_after}
use Rattle.otp_driver.proofs.changing.origins_of.Given as goal

-- the origins so far and those of the other links are all
abbrev pub invariant-loop-link : goal.invariant-loop-link
invariant-loop-link l = origins_after l.olds l.origins.items (drop l.link-index l.links) ≡ origins_after l.olds [] l.links
