use Rattle.std.proofs.Common.{[], ◌∷◌, ap, length, arith, length-append}
use Rattle.otp_run.proofs.Totals.{placed_rest, kept_more, homes_more, ways_more}
use Rattle.otp_run.proofs.gathering.take_all_apart.Goals as goal

pub loop-scheduler-preserved : goal.loop-scheduler-preserved
loop-scheduler-preserved g c =
    let next = (c.in-Some.ensures {u = tt}).steps.0 in
    let d = c.take_apart.ensures in
    let i = c.loop-scheduler.invariant in
    let step = ap (λ l. length l) next in
    let before = c.loop-scheduler.homes.ok.0 in
    let after = c.take_apart.new.homes.ok.0 in
    let pushed = ap (λ l. length l) d.homes in
    let few = d.few in
    let one = d.in_place.0 in
    let two = d.in_place.1 in
    let room = i.4 in
    let room_for_ways = i.5 in (
      placed_rest c.loop-scheduler.yielded _ _ _ next i.0,
      kept_more c.loop-scheduler.yielded c.loop-scheduler.scheduler-iterator.rest.items c.next.new.self.rest.items c.in-Some.scheduler next i.1 d.kept,
      homes_more c.loop-scheduler.yielded c.loop-scheduler.scheduler-iterator.rest.items c.next.new.self.rest.items c.in-Some.scheduler next c.args.homes.now.items c.loop-scheduler.homes.items c.take_apart.new.homes.items i.2 d.homes,
      ways_more c.loop-scheduler.yielded c.loop-scheduler.scheduler-iterator.rest.items c.next.new.self.rest.items c.in-Some.scheduler next c.args.ways.now.items c.loop-scheduler.ways.items c.take_apart.new.ways.items i.3 d.ways,
      omega (arith, length-append c.loop-scheduler.homes.items (c.in-Some.scheduler.own ∷ [])),
      omega arith,
    )
