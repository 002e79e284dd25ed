use Rattle.std.proofs.Common.{ap, length, arith}
use Rattle.otp_run.proofs.Gathers.{counted_same, counted_more, all_counted}
use Rattle.otp_run.proofs.gathering.count_all.Goals as goal

pub loop-index-preserved : goal.loop-index-preserved
loop-index-preserved g c =
    let test = c.loop-index-test.true in
    let size = c.len-index-end.ensures in
    let ok = c.args.homes.now.ok in
    let many = ap (λ l. length l) c.loop-index.invariant.0 in (
      counted_same _ _ _ _ _ c.loop-index.invariant.0 c.index_mut.ensures.value c.count.ensures.same,
      counted_more _ _ _ _ _ _ c.loop-index.invariant.0 c.requires (omega arith) c.index_mut.ensures.value c.count.ensures.same c.count.ensures.count c.loop-index.invariant.1,
    )

pub returns-clause-counted : goal.returns-clause-counted
returns-clause-counted g c =
    let test = c.loop-index-test.false in
    let size = c.len-index-end.ensures in
    let ok = c.args.homes.now.ok in
    let many = ap (λ l. length l) c.loop-index.invariant.0 in
    all_counted _ _ (omega arith) c.loop-index.invariant.1
