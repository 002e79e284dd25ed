use Rattle.std.proofs.Common.{arith, ℕ, ◌≡◌, ◌+◌, ◌-◌, ◌<◌, ◌++◌, ◌∙◌, ap, sym, map, min, refl, length, length-set}
use Rattle.std.proofs.lemmas.List.{append-nil}
use Rattle.otp_run.specs.Deques.{fresh_victim}
use Rattle.otp_run.specs.Opens.{from_above}
use Rattle.otp_run.specs.Schedulers.{numbers_from}
use Rattle.otp_run.proofs.Shares.{lent_more, one_spare, one_unused, one_index, ways_more, lent_by_then}
use Rattle.otp_run.proofs.queue.lend_from_below.Goals as goal

pub loop-index-init : goal.loop-index-init
loop-index-init g c =
    let thief : ℕ = c.args.thief in (
      refl,
      lent_by_then _ thief (from_above thief) (λ k. min 1 (k - thief) + min 1 (0 - k)) c.args.schedulers.now.items (λ j within. omega arith) c.requires.before,
      sym (append-nil c.args.ways.now.items),
    )

pub lend_way-requires-clause-some : goal.lend_way-requires-clause-some
lend_way-requires-clause-some g c =
    let test = c.loop-index-test.true in
    let one = c.requires.thief in
    let few = c.requires.few in
    let many = c.loop-index.invariant.0 in
    one_spare (length c.args.schedulers.now.items) c.args.thief c.loop-index.index c.loop-index.schedulers.items c.index_mut.result.now c.index_mut.result.now (omega arith) c.index_mut.ensures.value (λ k. min 1 (k - c.args.thief) + min 1 (c.loop-index.index - k)) (omega arith) c.loop-index.invariant.1

pub lend_way-requires-clause-unused : goal.lend_way-requires-clause-unused
lend_way-requires-clause-unused g c =
    let test = c.loop-index-test.true in
    let one = c.requires.thief in
    let many = c.loop-index.invariant.0 in
    one_unused (length c.args.schedulers.now.items) c.args.thief c.loop-index.index c.loop-index.schedulers.items c.index_mut.result.now c.index_mut.result.now (omega arith) c.index_mut.ensures.value (λ k. min 1 (k - c.args.thief) + min 1 (c.loop-index.index - k)) c.loop-index.invariant.1

pub loop-index-preserved : goal.loop-index-preserved
loop-index-preserved g c =
    let thief : ℕ = c.args.thief in
    let i : ℕ = c.loop-index.index in
    let count : ℕ = length c.args.schedulers.now.items in
    let test = c.loop-index-test.true in
    let few = c.requires.few in
    let one = c.requires.thief in
    let many = c.loop-index.invariant.0 in
    let lent : ℕ → ℕ = λ k. min 1 (k - thief) + min 1 (i - k) in
    let lent' : ℕ → ℕ = λ k. min 1 (k - thief) + min 1 (i + 1 - k) in
    let inside : i < length c.loop-index.schedulers.items = omega arith in
    let lends = c.in_ok-lend_way.ensures {u = tt} in (
      length-set c.loop-index.schedulers.items i c.lend_way.new.scheduler ∙ many,
      lent_more count thief i c.loop-index.schedulers.items c.index_mut.result.now c.lend_way.new.scheduler inside c.index_mut.ensures.value lent lent' lends.lent (omega arith) (omega arith) (λ j apart. omega arith) c.loop-index.invariant.1,
      ways_more 0 (i) _ i _ _ _ _ c.loop-index.invariant.2 lends.way
          (ap fresh_victim (one_index count thief i c.loop-index.schedulers.items c.index_mut.result.now c.lend_way.new.scheduler inside c.index_mut.ensures.value lent c.loop-index.invariant.1))
          (omega arith) (omega arith),
    )

pub returns-clause-count : goal.returns-clause-count
returns-clause-count g c = c.loop-index.invariant.0

pub returns-clause-lent : goal.returns-clause-lent
returns-clause-lent g c =
    let thief : ℕ = c.args.thief in
    let test = c.loop-index-test.false in
    let high = c.loop-index.auto.index-end in
    lent_by_then _ thief _ _ c.loop-index.schedulers.items (λ j within. omega arith) c.loop-index.invariant.1

pub returns-clause-ways : goal.returns-clause-ways
returns-clause-ways g c =
    let test = c.loop-index-test.false in
    let high = c.loop-index.auto.index-end in
    let last : c.loop-index.index ≡ c.args.thief = omega arith in
    c.loop-index.invariant.2 ∙ ap (λ n. c.args.ways.now.items ++ map fresh_victim (numbers_from 0 n)) last
