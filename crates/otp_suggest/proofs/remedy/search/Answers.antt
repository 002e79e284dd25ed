use Rattle.otp_suggest.proofs.LeastFound.{least_at}
use Rattle.otp_suggest.proofs.remedy.search.Goals as goal

pub returns : goal.returns
returns c =
    least_at c.args.tree.now c.args.at c.args.id.now c.args.count c.args.place c.args.today c.halving.bounds.short c.halving.bounds.long
    c.halving.invariant.order c.halving-test.false c.halving.invariant.above c.halving.invariant.falls c.halving.invariant.lasts
