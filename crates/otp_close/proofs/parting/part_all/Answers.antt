use Rattle.std.proofs.Common.{◌+◌, length, map, sym, ap, ◌∙◌, arith, length-append}
use Rattle.std.proofs.lemmas.List.{length-map}
use Rattle.std.specs.Prelude.{sum_by}
use Rattle.otp_hand.specs.Ended.{held_by}
use Rattle.otp_hand.specs.Hands.{senders_of}
use Rattle.otp_close.proofs.Ended.{held_together}
use Rattle.otp_close.specs.Partings.{scheduler_of, schedulers_of}
use Rattle.otp_close.proofs.Partings.{credited_by, ended_by, of_runner, parted-more, paired-more, parted-all, schedulers-joined, senders-joined}
use Rattle.otp_close.proofs.parting.part_all.Goals as goal

pub loop-hand-preserved : goal.loop-hand-preserved
loop-hand-preserved g c =
    let i = c.loop-hand.invariant in
    let next = (c.in-Some.ensures {u = tt}).steps.0 in
    let fewer = (c.in-Some.ensures {u = tt}).steps.1 in
    let before = i.left in
    let many = i.many in
    let room = i.room in
    let room_for_rests = i.room_for_rests in
    let shorter = ap length next in
    let one = c.push_reserved.ensures.items in
    let two = c.push_reserved-in-loop-hand.ensures.items in
    let long = ap length one in
    let long_too = ap length two in
    let len = c.push_reserved.ensures.len in
    let len_too = c.push_reserved-in-loop-hand.ensures.len in
    let capacity = c.push_reserved.ensures.capacity in
    let capacity_too = c.push_reserved-in-loop-hand.ensures.capacity in
    record {
      hands = parted-more _ _ _ _ _ _ _ _ _ _ one two (ap (λ w. of_runner w c.hand.inside.senders c.hand.inside.passes.items) c.runner.view_is ∙ c.hand.view_is) next many i.hands;
      paired = paired-more _ _ _ _ _ _ one two many (record { out_is = c.runner.invariant; credited = credited_by _ _ c.hand.inside.senders c.runner.view_is c.hand.invariant.0; ended = ended_by _ _ c.hand.inside.senders c.runner.view_is c.hand.invariant.1 }) i.paired;
      many = long ∙ length-append _ _ ∙ ap (λ n. n + 1) many ∙ sym (length-append _ _) ∙ sym long_too;
      left = omega arith;
      room = omega arith;
      room_for_rests = omega arith;
    }

pub returns-clause-hands : goal.returns-clause-hands
returns-clause-hands g c =
    let i = c.loop-hand.invariant in
    let none = (c.in-None.ensures {u = tt}).steps.0 in
    let left = i.left in
    parted-all c.loop-hand.schedulers.items c.loop-hand.rests.items _ _ (omega arith) i.hands

pub returns-clause-same : goal.returns-clause-same
returns-clause-same g c = ap schedulers_of (sym (returns-clause-hands g c)) ∙ schedulers-joined c.loop-hand.schedulers.items c.loop-hand.rests.items c.loop-hand.invariant.paired

pub returns-clause-count : goal.returns-clause-count
returns-clause-count g c = sym (ap length (returns-clause-same g c)) ∙ length-map c.args.hands.items scheduler_of

pub returns-clause-senders : goal.returns-clause-senders
returns-clause-senders g c = senders-joined c.loop-hand.schedulers.items c.loop-hand.rests.items c.loop-hand.invariant.paired c.loop-hand.invariant.many ∙ ap (λ l. map senders_of l) (returns-clause-hands g c)

pub returns-clause-held : goal.returns-clause-held
returns-clause-held g c = held_together c.loop-hand.schedulers.items c.loop-hand.rests.items c.loop-hand.invariant.paired c.loop-hand.invariant.many ∙ ap (λ l. sum_by held_by l) (returns-clause-hands g c)
