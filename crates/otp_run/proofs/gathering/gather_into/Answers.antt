use Rattle.std.proofs.Common.{ℕ, ◌<◌, ◌++◌, ◌∙◌, List, ap, sym, map, length, subst, arith}
use Rattle.std.proofs.lemmas.List.{length-map}
use Rattle.otp_run.specs.Deques.{OwnState, VictimState}
use Rattle.otp_run.specs.Lists.{AllAt, Each}
use Rattle.otp_run.specs.Gathers.{IsAwaiting, own_of, all_ways}
use Rattle.otp_run.proofs.Gathers.{each_counted}
use Rattle.otp_run.proofs.Ways.{all_awaiting, all_inside, each_placed, few_of_all}
use Rattle.otp_run.proofs.Totals.{room_told, no_more_ended, total_told}
use Rattle.otp_run.proofs.gathering.gather_into.Goals as goal

pub take_all_apart-requires-clause-placed : goal.take_all_apart-requires-clause-placed
take_all_apart-requires-clause-placed g c = each_placed _ c.requires.placed

pub take_all_apart-requires-clause-room : goal.take_all_apart-requires-clause-room
take_all_apart-requires-clause-room g c =
    let few = few_of_all _ c.requires.all.1 c.requires.placed in
    let empty = ap (λ l. length l) c.requires.room.0 in
    let room = c.requires.room.1 in
    let ok = c.args.room.homes.ok.0 in
    omega arith

pub take_all_apart-requires-clause-room_for_ways : goal.take_all_apart-requires-clause-room_for_ways
take_all_apart-requires-clause-room_for_ways g c =
    let few = few_of_all _ c.requires.all.1 c.requires.placed in
    let empty = ap (λ l. length l) c.requires.room.2 in
    let room = c.requires.room.3 in
    let ok = c.args.room.ways.ok.0 in
    omega arith

pub absorb_all-requires-clause-awaiting : goal.absorb_all-requires-clause-awaiting
absorb_all-requires-clause-awaiting g c =
    let homes = c.take_all_apart.ensures.homes ∙ ap (λ l. l ++ map own_of c.args.schedulers.items) c.requires.room.0 in
    let ways = c.take_all_apart.ensures.ways ∙ ap (λ l. l ++ all_ways c.args.schedulers.items) c.requires.room.2 in
    subst (λ (z : List OwnState × List VictimState). AllAt (IsAwaiting z.1) z.0) (λ i. (sym homes i, sym ways i)) (all_awaiting _ c.requires.all.1 c.requires.placed)

pub absorb_all-requires-clause-inside : goal.absorb_all-requires-clause-inside
absorb_all-requires-clause-inside g c =
    let homes = c.take_all_apart.ensures.homes ∙ ap (λ l. l ++ map own_of c.args.schedulers.items) c.requires.room.0 in
    let ways = c.take_all_apart.ensures.ways ∙ ap (λ l. l ++ all_ways c.args.schedulers.items) c.requires.room.2 in
    let many = ap (λ l. length l) homes ∙ length-map c.args.schedulers.items own_of in
    subst (λ (z : ℕ × List VictimState). Each (λ v. v.index < z.0) z.1) (λ i. (sym many i, sym ways i)) (all_inside _ c.requires.all.1 c.requires.placed)

pub drain_all-requires-clause-counted : goal.drain_all-requires-clause-counted
drain_all-requires-clause-counted g c = each_counted _ c.count_all.ensures.counted

pub drain_all-requires-clause-room : goal.drain_all-requires-clause-room
drain_all-requires-clause-room g c =
    let homes = c.take_all_apart.ensures.homes ∙ ap (λ l. l ++ map own_of c.args.schedulers.items) c.requires.room.0 in
    let ways = c.take_all_apart.ensures.ways ∙ ap (λ l. l ++ all_ways c.args.schedulers.items) c.requires.room.2 in
    let told = room_told c.args.schedulers.items _ _ _ _ homes ways c.take_all_apart.ensures.kept c.absorb_all.ensures.absorbed c.count_all.ensures.same in
    let empty = ap (λ l. length l) c.requires.room.4 in
    let room = c.requires.room.5 in
    let ok = c.args.room.left.ok.0 in
    omega arith

pub overflow_sub-result : goal.overflow_sub-result
overflow_sub-result g c =
    let homes = c.take_all_apart.ensures.homes ∙ ap (λ l. l ++ map own_of c.args.schedulers.items) c.requires.room.0 in
    let ways = c.take_all_apart.ensures.ways ∙ ap (λ l. l ++ all_ways c.args.schedulers.items) c.requires.room.2 in
    no_more_ended c.args.schedulers.items _ _ _ _ homes ways c.take_all_apart.ensures.kept c.absorb_all.ensures.absorbed c.count_all.ensures.same _ _ c.requires.room.4 c.drain_all.ensures _ _ c.requires.room.6 c.requires.room.7

pub returns-clause-total : goal.returns-clause-total
returns-clause-total g c =
    let homes = c.take_all_apart.ensures.homes ∙ ap (λ l. l ++ map own_of c.args.schedulers.items) c.requires.room.0 in
    let ways = c.take_all_apart.ensures.ways ∙ ap (λ l. l ++ all_ways c.args.schedulers.items) c.requires.room.2 in
    total_told c.args.schedulers.items _ _ _ _ homes ways c.take_all_apart.ensures.kept c.absorb_all.ensures.absorbed c.count_all.ensures.same _ _ c.requires.room.4 c.drain_all.ensures _ _ c.requires.room.6 c.requires.room.7
