use Rattle.std.proofs.Common.{◌≡◌, ◌⊎◌, ⊎_elim, ℕ, ◌<◌, arith, ap, sym, ◌∙◌, List, true}
use Rattle.std.specs.Prelude.{Contains}
use Rattle.otp_signals.specs.declared.signal.TheConstants.{NUMBER_LIMIT}
use Rattle.otp_signals.specs.declared.view.Holding.{Holding}
use Rattle.otp_signals.specs.Lists.{Below, has}
use Rattle.otp_signals.proofs.Moves.{posts}
use Rattle.otp_signals.proofs.Sums.{Stands-below}
use Rattle.otp_signals.proofs.Membership.{has-Contains, Stands-Contains}
use Rattle.otp_signals.proofs.words.Words.post.Goals as goal

small : (n : ℕ) (xs : List ℕ) → Below NUMBER_LIMIT xs → ((n ≡ 0) ⊎ Contains xs n) → n < NUMBER_LIMIT
small n xs b h = ⊎_elim (λ (e : n ≡ 0). omega arith) (λ (s : Contains xs n). Stands-below NUMBER_LIMIT n xs b (Stands-Contains n xs s)) h

pub word-word-requires : goal.word-word-requires
word-word-requires g c =
    let h : Holding = c.owner.inside.seat.me.0.holding in
    small c.args.number h.drawn c.owner.invariant.4.below (rw c.owner.view_is c.requires.number)

pub overflow_add-slot : goal.overflow_add-slot
overflow_add-slot g c =
    let o = c.owner.invariant in
    let w = c.self.invariant in
    let h : Holding = c.owner.inside.seat.me.0.holding in
    let mine : has c.args.slot h.slots ≡ true = has-Contains c.args.slot h.slots (rw c.owner.view_is c.requires.slot) in
    let there = o.4.slots c.args.slot mine in
    let same = ap (λ t. t.words) w.0 in
    omega (arith, w.1.words, w.1.small, same, there)

pub fetch_max-requires : goal.fetch_max-requires
fetch_max-requires g c =
    let i = c.owner.inside in
    let o = c.owner.invariant in
    let w = c.self.invariant in
    let same = ap (λ t. t.words) w.0 in
    let h : Holding = i.seat.me.0.holding in
    let mine : has c.args.slot h.slots ≡ true = has-Contains c.args.slot h.slots (rw c.owner.view_is c.requires.slot) in
    let there = o.4.slots c.args.slot mine in
    (o.0 ∙ sym w.0, omega (arith, w.1.words, same, there), posts _ _ _ _ _ i.seat.me.0 i.seat.me.1 mine (omega (arith, w.1.words, same, there)))
