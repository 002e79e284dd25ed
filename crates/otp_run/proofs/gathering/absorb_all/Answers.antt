use Rattle.std.proofs.Common.{◌≡◌, ◌<◌, ◌∙◌, List, ap, refl, subst, sym, length, length-set, arith}
use Rattle.otp_run.specs.Lists.{AllAt, Each}
use Rattle.otp_run.specs.Deques.{VictimState}
use Rattle.otp_run.specs.Gathers.{IsAwaiting}
use Rattle.otp_run.proofs.Gathers.{awaiting_less, absorbed_more, others_inside, none_absorbed, all_home, still_all, absorbed_all, its_home}
use Rattle.otp_run.proofs.gathering.absorb_all.Goals as goal

pub loop-way-init : goal.loop-way-init
loop-way-init g c =
    let gives = c.into_iter-way-iterator.ensures.into_iter_gives in (
      refl,
      subst (λ (l : List VictimState). AllAt (IsAwaiting l) c.args.homes.now.items) (sym gives.0) c.requires.awaiting,
      subst (λ (l : List VictimState). Each (λ v. v.index < length c.args.homes.now.items) l) (sym gives.0) c.requires.inside,
      none_absorbed c.args.homes.now.items,
      gives.0,
    )

pub index_mut-requires : goal.index_mut-requires
index_mut-requires g c =
    let inside = others_inside _ _ _ _ (c.in-Some.ensures {u = tt}).steps.0 c.loop-way.invariant.2 in
    let at : c.in-Some.way.index ≡ c.way.inside.index = ap (λ v. v.index) (sym c.way.view_is) in
    let many = c.loop-way.invariant.0 in
    let less = inside.0 in
    omega arith

pub absorb-requires-clause-index : goal.absorb-requires-clause-index
absorb-requires-clause-index g c =
    let next = (c.in-Some.ensures {u = tt}).steps.0 in
    let inside = others_inside _ _ _ _ next c.loop-way.invariant.2 in
    let at : c.in-Some.way.index ≡ c.way.inside.index = ap (λ v. v.index) (sym c.way.view_is) in
    let many = c.loop-way.invariant.0 in
    let less = inside.0 in
    let within : c.way.inside.index < length c.loop-way.homes.items = omega arith in
    (its_home c.loop-way.homes.items c.loop-way.way-iterator.rest.items c.next.new.self.rest.items c.in-Some.way c.way.inside.index c.index_mut.result.now next at within c.index_mut.ensures.value c.loop-way.invariant.1).0

pub absorb-requires-clause-room : goal.absorb-requires-clause-room
absorb-requires-clause-room g c =
    let next = (c.in-Some.ensures {u = tt}).steps.0 in
    let inside = others_inside _ _ _ _ next c.loop-way.invariant.2 in
    let at : c.in-Some.way.index ≡ c.way.inside.index = ap (λ v. v.index) (sym c.way.view_is) in
    let many = c.loop-way.invariant.0 in
    let less = inside.0 in
    let within : c.way.inside.index < length c.loop-way.homes.items = omega arith in
    (its_home c.loop-way.homes.items c.loop-way.way-iterator.rest.items c.next.new.self.rest.items c.in-Some.way c.way.inside.index c.index_mut.result.now next at within c.index_mut.ensures.value c.loop-way.invariant.1).1

pub loop-way-preserved : goal.loop-way-preserved
loop-way-preserved g c =
    let next = (c.in-Some.ensures {u = tt}).steps.0 in
    let inside = others_inside _ _ _ _ next c.loop-way.invariant.2 in
    let at : c.in-Some.way.index ≡ c.way.inside.index = ap (λ v. v.index) (sym c.way.view_is) in
    let many = c.loop-way.invariant.0 in
    let less = inside.0 in
    let within : c.way.inside.index < length c.loop-way.homes.items = omega arith in (
      length-set c.loop-way.homes.items c.way.inside.index c.absorb.new.self ∙ many,
      awaiting_less c.args.homes.now.items c.loop-way.homes.items c.loop-way.yielded c.loop-way.way-iterator.rest.items c.next.new.self.rest.items c.in-Some.way c.way.inside.index c.index_mut.result.now c.absorb.new.self next at within c.index_mut.ensures.value c.absorb.ensures c.loop-way.invariant.1,
      inside.1,
      absorbed_more c.args.homes.now.items c.loop-way.homes.items c.loop-way.yielded c.loop-way.way-iterator.rest.items c.next.new.self.rest.items c.in-Some.way c.way.inside.index c.index_mut.result.now c.absorb.new.self next at within c.index_mut.ensures.value c.absorb.ensures c.loop-way.invariant.3,
      still_all _ _ _ _ _ next c.loop-way.invariant.4,
    )

pub returns-clause-home : goal.returns-clause-home
returns-clause-home g c =
    let none = (c.in-None.ensures {u = tt}).steps.0 in
    all_home c.loop-way.way-iterator.rest.items _ (omega arith) c.loop-way.invariant.1

pub returns-clause-absorbed : goal.returns-clause-absorbed
returns-clause-absorbed g c =
    let none = (c.in-None.ensures {u = tt}).steps.0 in
    absorbed_all _ _ _ _ c.loop-way.way-iterator.rest.items (omega arith) c.loop-way.invariant.4 c.loop-way.invariant.3
