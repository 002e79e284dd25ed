use Rattle.std.proofs.Common.{arith, refl, ◌∙◌}
use Rattle.otp_run.proofs.Steps.{takes_left, finds}
use Rattle.otp_run.proofs.Drains.{whole_still, drained, drains_more, length_now, none_yet}
use Rattle.otp_run.proofs.deque.pop_all.Goals as goal

pub loop-init : goal.loop-init
loop-init g c = (c.requires.fifo, refl, none_yet _ _)

pub pop_as-requires-clause-fifo : goal.pop_as-requires-clause-fifo
pop_as-requires-clause-fifo g c = λ fifo. takes_left _ _ (let p = whole_still _ _ _ _ _ c.loop.invariant.2 c.requires.home in omega arith)

pub pop_as-requires-clause-empty : goal.pop_as-requires-clause-empty
pop_as-requires-clause-empty g c = finds _ _

pub returns-in_default-clause-popped : goal.returns-in_default-clause-popped
returns-in_default-clause-popped g c = drained _ _ _ _ _ c.loop.invariant.2 c.requires.home ((c.in_default.ensures {u = tt}).rule.1)

pub push_reserved-requires : goal.push_reserved-requires
push_reserved-requires g c =
    let d = drains_more _ _ _ _ _ _ c.in-Some.process _ c.loop.invariant.2 c.requires.home ((c.in-Some.ensures {u = tt}).rule) refl in
    let b = d.bounded in
    let n = length_now _ _ _ _ _ c.loop.invariant.2 in
    let room = c.requires.room in
    let capacity = c.loop.invariant.1 in
    let o = c.args.left.now.ok in
    let p = c.loop.left.ok in
    omega arith

pub loop-preserved : goal.loop-preserved
loop-preserved g c =
    let known = c.in-Some.ensures {u = tt} in (
      known.same.0.1 ∙ c.loop.invariant.0,
      c.push_reserved.ensures.capacity ∙ c.loop.invariant.1,
      drains_more _ _ _ _ _ _ c.in-Some.process _ c.loop.invariant.2 c.requires.home known.rule c.push_reserved.ensures.items,
    )

pub unreachable-requires : goal.unreachable-requires
unreachable-requires g c =
    let b = c.loop.invariant.2.bounded in
    let room = c.requires.room in
    let test = c.loop-test.false in
    let s = c.args.left.now.small in
    let o = c.args.left.now.ok in
    omega arith
