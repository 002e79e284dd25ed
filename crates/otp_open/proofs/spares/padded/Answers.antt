use Rattle.std.proofs.Common.{◌≡◌, ◌+◌, ◌++◌, ◌∷◌, [], add-zero, ap, arith, length, length-append, subst, sym, ◌∙◌}
use Rattle.otp_open.proofs.SparePlaces.{none_spare, one_spare}
use Rattle.otp_open.specs.Spares.{ArePadded}
use Rattle.otp_open.proofs.spares.padded.Goals as goal

pub loop-init : goal.loop-init
loop-init g c =
    let plans = c.args.plans.items in
    let zero_more = sym (add-zero (length plans)) in
    record {
      padded = subst (λ n. ArePadded n plans plans) zero_more (none_spare plans);
      count = zero_more;
      room = c.requires;
    }

pub loop-preserved : goal.loop-preserved
loop-preserved g c =
    let i = c.loop.invariant in
    let plans = c.args.plans.items in
    let all = c.loop.all.items in
    let one = c.push_reserved.ensures.items in
    let long = ap length one ∙ length-append all (c.spare_plan.result ∷ []) in
    let capacity = c.push_reserved.ensures.capacity in
    let count = i.count in
    let room = i.room in
    record {
      padded = subst (λ l. ArePadded (length plans + (c.loop.counter + 1)) plans l) (sym one)
          (subst (λ n. ArePadded n plans (all ++ c.spare_plan.result ∷ [])) (omega arith) (one_spare (length plans + c.loop.counter) plans all c.spare_plan.result c.spare_plan.ensures i.padded));
      count = omega (arith, long, count);
      room = omega (arith, room, capacity);
    }
