use Rattle.std.proofs.Common.{arith}
use Rattle.otp_run.proofs.Gathers.{few_ways}
use Rattle.otp_run.proofs.gathering.take_apart.Goals as goal

pub push_reserved-requires-in-loop-way : goal.push_reserved-requires-in-loop-way
push_reserved-requires-in-loop-way g c =
    let few = few_ways _ c.requires.placed in
    let room = c.requires.room_for_ways in
    let capacity = c.loop-way.invariant.1 in
    let len = c.loop-way.invariant.2 in
    let all = c.loop-way.invariant.3 in
    omega arith

pub returns-clause-few : goal.returns-clause-few
returns-clause-few g c =
    let few = few_ways _ c.requires.placed in
    let len = c.loop-way.invariant.2 in
    let all = c.loop-way.invariant.3 in
    omega arith
