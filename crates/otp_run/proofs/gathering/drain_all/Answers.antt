use Rattle.std.proofs.Common.{◌∙◌, arith}
use Rattle.otp_run.proofs.Gathers.{others_counted, room_for_one, room_after, drained_more}
use Rattle.otp_run.proofs.gathering.drain_all.Goals as goal

pub drain_into-requires-clause-room : goal.drain_into-requires-clause-room
drain_into-requires-clause-room g c = room_for_one _ _ _ (c.in-Some.ensures {u = tt}).steps.0 c.loop-home.invariant.0 _ _ c.loop-home.invariant.2

pub loop-home-preserved : goal.loop-home-preserved
loop-home-preserved g c =
    let e = (c.in-Some.ensures {u = tt}).steps.0 in
    let d = c.drain_into.ensures in
    let before = c.loop-home.left.ok.0 in
    let after = c.drain_into.new.left.ok.0 in
    let capacity = d.in_place in (
      others_counted _ _ _ e c.loop-home.invariant.0,
      d.in_place ∙ c.loop-home.invariant.1,
      (let r = room_after _ _ _ e c.loop-home.invariant.0 _ _ _ _ _ c.loop-home.invariant.2 d.drained before after in omega arith),
      drained_more _ _ _ _ _ c.loop-home.invariant.3 d.drained,
    )
