use Rattle.std.proofs.Common.{arith, rules}
use Rattle.otp_close.specs.Tellings.{IsSo}
use Rattle.otp_close.proofs.Below.{below-more, below-all}
use Rattle.otp_close.proofs.report.evidence.find_untrue.Goals as goal

pub loop-place-preserved : goal.loop-place-preserved
loop-place-preserved c =
    let so : IsSo c.args.tables.now c.get.result = search rules in
    below-more (IsSo c.args.tables.now) c.args.history.now.events c.loop-place.place c.get.result c.get.ensures so c.loop-place.invariant

pub returns-clause-none : goal.returns-clause-none
returns-clause-none c = below-all (IsSo c.args.tables.now) c.args.history.now.events c.loop-place.place (omega (arith, c.loop-place-test.false, c.len-place-end.ensures)) c.loop-place.invariant
