use Rattle.std.proofs.Common.{◌≡◌, ◌-◌, ◌≤◌, take, drop, length, arith}
use Rattle.std.proofs.lemmas.Grind.{common_steps}
use Rattle.otp_sim.proofs.Writes.{halfway_more}
use Rattle.otp_sim.proofs.writing.write_all.Goals as goal

pub loop-rest-preserved : goal.loop-rest-preserved
loop-rest-preserved g c =
    let bound : c.in_ok-taken.taken ≤ length c.loop-rest.rest.now = c.in_ok-taken.ensures.bound in
    let same : take (length c.loop-rest.rest.now - c.in_ok-taken.taken) (drop c.in_ok-taken.taken c.loop-rest.rest.now) ≡ drop c.in_ok-taken.taken c.loop-rest.rest.now =
    grind (arith, common_steps) in
    record {
      half = rw same (halfway_more _ _ _ _ c.loop-rest.rest.now c.in_ok-taken.taken c.loop-rest.invariant.half c.in_ok-taken.ensures.bytes);
      kept = omega arith;
    }
