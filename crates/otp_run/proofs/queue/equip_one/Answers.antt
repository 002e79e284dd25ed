use Rattle.std.proofs.Common.{arith, ℕ, ◌∙◌, sym, length, length-set, refl, subst}
use Rattle.otp_run.specs.Lists.{AllAt}
use Rattle.otp_run.specs.Opens.{HasLent, from_above, from_all}
use Rattle.otp_run.proofs.Shares.{equipped, one_unused, both_ways}
use Rattle.otp_run.proofs.queue.equip_one.Goals as goal

pub lend_from_below-requires-clause-thief : goal.lend_from_below-requires-clause-thief
lend_from_below-requires-clause-thief g c =
    let thief = c.requires.thief in
    let one = (c.in_ok-lend_from_above.ensures {u = tt}).count in
    omega arith

pub lend_from_below-requires-clause-few : goal.lend_from_below-requires-clause-few
lend_from_below-requires-clause-few g c =
    let few = c.requires.few in
    let one = (c.in_ok-lend_from_above.ensures {u = tt}).count in
    omega arith

pub lend_from_below-requires-clause-before : goal.lend_from_below-requires-clause-before
lend_from_below-requires-clause-before g c =
    let above = c.in_ok-lend_from_above.ensures {u = tt} in
    subst (λ (n : ℕ). AllAt (HasLent n c.args.thief (from_above c.args.thief)) c.lend_from_above.new.schedulers.items) (sym above.count) above.lent

pub index_mut-requires : goal.index_mut-requires
index_mut-requires g c =
    let thief = c.requires.thief in
    let one = (c.in_ok-lend_from_above.ensures {u = tt}).count in
    let two = (c.in_ok-lend_from_below.ensures {u = tt}).count in
    omega arith

pub equip-requires : goal.equip-requires
equip-requires g c =
    let thief = c.requires.thief in
    let one = (c.in_ok-lend_from_above.ensures {u = tt}).count in
    let below = c.in_ok-lend_from_below.ensures {u = tt} in
    let two = below.count in
    one_unused _ c.args.thief c.args.thief c.lend_from_below.new.schedulers.items c.index_mut.result.now c.index_mut.result.now (omega arith) c.index_mut.ensures.value (from_all c.args.thief) below.lent

pub returns-clause-count : goal.returns-clause-count
returns-clause-count g c = length-set c.lend_from_below.new.schedulers.items c.args.thief c.equip.new.self ∙ (c.in_ok-lend_from_below.ensures {u = tt}).count ∙ (c.in_ok-lend_from_above.ensures {u = tt}).count

pub returns-clause-equipped : goal.returns-clause-equipped
returns-clause-equipped g c =
    let above = c.in_ok-lend_from_above.ensures {u = tt} in
    let below = c.in_ok-lend_from_below.ensures {u = tt} in
    let inside = c.requires.thief in
    let one = above.count in
    let two = below.count in
    let thief : ℕ = c.args.thief in
    let count : ℕ = length c.args.schedulers.now.items in
    let lent : AllAt (HasLent count thief (from_all thief)) c.lend_from_below.new.schedulers.items = subst (λ n. AllAt (HasLent n thief (from_all thief)) c.lend_from_below.new.schedulers.items) one below.lent in
    let ways = both_ways thief count _ _ _ c.new-ways.ensures.items above.ways below.ways in
    equipped count thief thief c.lend_from_below.new.schedulers.items c.index_mut.result.now c.equip.new.self (omega arith) c.index_mut.ensures.value c.lend_from_below.new.ways.items refl c.equip.ensures ways lent
