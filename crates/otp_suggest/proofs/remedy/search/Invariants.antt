use Rattle.std.proofs.Common.{◌-◌}
use Rattle.otp_suggest.specs.Remedies.{AreEnds}
use Rattle.otp_suggest.proofs.remedy.search.Given as goal

abbrev pub invariant-halving : goal.invariant-halving
invariant-halving l = AreEnds l.tree l.at l.id l.count l.place l.today l.bounds

abbrev pub decreases-halving : goal.decreases-halving
decreases-halving l = l.bounds.long - l.bounds.short
