use Rattle.std.proofs.Common.{arith}
use Rattle.otp_run.proofs.Thefts.{tried, taken_from}
use Rattle.otp_run.proofs.scheduler.steal_from.Goals as goal

pub returns-in-Some-clause-found : goal.returns-in-Some-clause-found
returns-in-Some-clause-found g c =
    taken_from c.args.others.now.items c.loop-at.others.items c.loop-at.at c.index_mut.result.now c.steal.new.self c.loop-at.invariant (let t = c.loop-at-test.true in let l = c.len-at-end.ensures in let o = c.args.others.now.ok in omega arith) c.index_mut.ensures.value _ ((c.in-Some.ensures {u = tt}).found)

pub loop-at-preserved : goal.loop-at-preserved
loop-at-preserved g c = tried _ c.loop-at.others.items c.loop-at.at c.index_mut.result.now c.steal.new.self c.loop-at.invariant (let t = c.loop-at-test.true in let l = c.len-at-end.ensures in let o = c.args.others.now.ok in omega arith) c.index_mut.ensures.value ((c.in_default.ensures {u = tt}).none)
