use Rattle.std.proofs.Common.{arith, ◌≡◌, ◌+◌, ℕ, ◌∙◌, sym, length, refl, subst}
use Rattle.otp_run.specs.Lists.{AllAt}
use Rattle.otp_run.specs.Opens.{HasLent, none_yet, opened}
use Rattle.otp_run.proofs.Shares.{nobody_lent}
use Rattle.otp_run.proofs.queue.equip_all.Goals as goal

pub loop-thief-init : goal.loop-thief-init
loop-thief-init g c = (refl, nobody_lent _ _ c.requires.unused)

pub equip_one-requires-clause-thief : goal.equip_one-requires-clause-thief
equip_one-requires-clause-thief g c =
    let test = c.loop-thief-test.true in
    let size = c.len-thief-end.ensures in
    let ok = c.args.schedulers.now.ok in
    let many = c.loop-thief.invariant.0 in
    omega arith

pub equip_one-requires-clause-few : goal.equip_one-requires-clause-few
equip_one-requires-clause-few g c =
    let few = c.requires.few in
    let many = c.loop-thief.invariant.0 in
    omega arith

pub equip_one-requires-clause-before : goal.equip_one-requires-clause-before
equip_one-requires-clause-before g c = subst (λ (n : ℕ). AllAt (HasLent n c.loop-thief.thief none_yet) c.loop-thief.schedulers.items) (sym c.loop-thief.invariant.0) c.loop-thief.invariant.1

pub loop-thief-preserved : goal.loop-thief-preserved
loop-thief-preserved g c =
    let many = c.loop-thief.invariant.0 in
    let equips = c.in_ok-equip_one.ensures {u = tt} in
    (equips.count ∙ many, subst (λ (n : ℕ). AllAt (HasLent n (c.loop-thief.thief + 1) none_yet) c.equip_one.new.schedulers.items) many equips.equipped)

pub complete_all-requires-clause-few : goal.complete_all-requires-clause-few
complete_all-requires-clause-few g c =
    let few = c.requires.few in
    let many = c.loop-thief.invariant.0 in
    omega arith

pub complete_all-requires-clause-lent : goal.complete_all-requires-clause-lent
complete_all-requires-clause-lent g c =
    let test = c.loop-thief-test.false in
    let size = c.len-thief-end.ensures in
    let ok = c.args.schedulers.now.ok in
    let low = c.loop-thief.auto.thief-end in
    let many = c.loop-thief.invariant.0 in
    let all : c.loop-thief.thief ≡ length c.loop-thief.schedulers.items = omega arith in
    subst (λ (z : ℕ × ℕ). AllAt (HasLent z.0 z.1 none_yet) c.loop-thief.schedulers.items) (λ i. (sym many i, all i)) c.loop-thief.invariant.1

pub returns-clause-count : goal.returns-clause-count
returns-clause-count g c = c.complete_all.ensures.count ∙ c.loop-thief.invariant.0

pub returns-clause-opened : goal.returns-clause-opened
returns-clause-opened g c = subst (λ (n : ℕ). AllAt (λ k s. s ≡ opened n k) c.complete_all.new.schedulers.items) c.loop-thief.invariant.0 c.complete_all.ensures.opened
