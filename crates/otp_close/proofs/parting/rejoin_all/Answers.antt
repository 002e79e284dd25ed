use Rattle.std.proofs.Common.{◌≡◌, ℕ, zero, suc, ◌<◌, refl, ap, arith, length}
use Rattle.otp_close.proofs.Partings.{has-rest, joined-more, paired-cons}
use Rattle.otp_close.proofs.parting.rejoin_all.Goals as goal

some : (n : ℕ) → (n ≡ 0 → ⊥) → 0 < n
some zero isnt = absurd (isnt refl)
some (suc n) isnt = omega arith

pub next_of-rest-requires : goal.next_of-rest-requires
next_of-rest-requires g c =
    let i = c.loop-scheduler.invariant in
    let left_too = i.left_too in
    let more = some _ (λ none. has-rest _ _ _ _ (c.in-Some.ensures {u = tt}).steps.0 none i.paired) in
    omega (arith, left_too, more)

pub loop-scheduler-preserved : goal.loop-scheduler-preserved
loop-scheduler-preserved g c =
    let i = c.loop-scheduler.invariant in
    let next = (c.in-Some.ensures {u = tt}).steps.0 in
    let fewer = (c.in-Some.ensures {u = tt}).steps.1 in
    let next_too = c.next_of-rest.ensures.next in
    let fewer_too = c.next_of-rest.ensures.len in
    let left = i.left in
    let left_too = i.left_too in
    let room = i.room in
    let shorter = ap length next in
    let shorter_too = ap length next_too in
    let one = c.push_reserved.ensures.items in
    let len = c.push_reserved.ensures.len in
    let capacity = c.push_reserved.ensures.capacity in
    record {
      paired = (paired-cons _ _ _ _ _ _ next next_too i.paired).1;
      hands = joined-more _ _ _ _ _ _ _ _ _ _ next next_too one refl i.hands;
      left = omega arith;
      left_too = omega arith;
      room = omega arith;
    }
