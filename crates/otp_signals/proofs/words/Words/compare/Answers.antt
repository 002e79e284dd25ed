use Rattle.std.proofs.Common.{◌≡◌, ℕ, true, List, arith, ap, sym, ◌∙◌, subst}
use Rattle.otp_signals.specs.declared.view.Holding.{Holding}
use Rattle.otp_signals.specs.Lists.{NeverFalls, ZeroOrIn, has, words_at}
use Rattle.otp_signals.proofs.Membership.{has-Contains}
use Rattle.otp_signals.proofs.Moves.{parts_blank}
use Rattle.otp_signals.proofs.Witness.{lends, witnesses, gives_back, were_posted, signals_were_posted}
use Rattle.otp_signals.proofs.words.Words.compare.Goals as goal

pub split_seat-spare-requires : goal.split_seat-spare-requires
split_seat-spare-requires g c =
    let w = c.self.invariant in
    (c.viewer.invariant.0 ∙ sym w.0, omega (arith, w.1.words), parts_blank _ _ _)

pub join_seat-requires : goal.join_seat-requires
join_seat-requires g c =
    let w = c.self.invariant in
    let v = c.viewer.invariant in
    let is = c.replace-seat.ensures.value in
    let was = c.split_seat-spare.ensures in (
      c.owner.invariant.0 ∙ sym w.0,
      ap (λ s. s.table_id) is ∙ was.0 ∙ v.0 ∙ sym w.0,
      ap (λ s. s.me.1) is ∙ ap (λ m. m.1) was.2 ∙ v.1,
      omega (arith, w.1.words),
      lends _ _ _ _ _ (ap (λ s. s.me.0.holding) is ∙ ap (λ m. m.0.holding) was.2 ∙ v.2),
    )

pub load-requires : goal.load-requires
load-requires g c =
    let w = c.self.invariant in
    let m = c.join_seat.new.seat.me in
    (c.join_seat.ensures.0 ∙ c.owner.invariant.0 ∙ sym w.0, omega (arith, w.1.words), witnesses _ _ _ m.0 m.1)

pub split_seat-requires : goal.split_seat-requires
split_seat-requires g c =
    let w = c.self.invariant in
    (c.load.ensures.0 ∙ c.join_seat.ensures.0 ∙ c.owner.invariant.0 ∙ sym w.0, omega (arith, w.1.words), gives_back _ _ _)

pub returns-clause-posted : goal.returns-clause-posted
returns-clause-posted g c =
    let F : Holding × List (ℕ × ℕ) → Type 0 = λ x. (slot : ℕ) → has slot x.0.slots ≡ true → NeverFalls (words_at slot x.1) × ZeroOrIn (words_at slot x.0.posts) (words_at slot x.1) in
    let view = ap (λ m. m.0) c.join_seat.ensures.2 in
    let looks = ap (λ v. v.looks) view ∙ ap (λ s. s.me.0.looks) c.replace-seat.ensures.value ∙ ap (λ m. m.0.looks) c.split_seat-spare.ensures.2 ∙ c.viewer.view_is in
    let holding = ap (λ v. v.holding) view ∙ c.owner.view_is in
    let told : F (c.args.owner.now, c.args.viewer.now) = subst F (λ i. (holding i, looks i)) c.load.ensures.2.1 in
    were_posted c.args.owner.now c.args.viewer.now (λ slot mine. (told slot mine).1)

pub returns-clause-signals : goal.returns-clause-signals
returns-clause-signals g c = signals_were_posted _ _ _ (returns-clause-posted g c)

pub returns-clause-rising : goal.returns-clause-rising
returns-clause-rising g c = λ slot mine.
    let F : Holding × List (ℕ × ℕ) → Type 0 = λ x. (slot : ℕ) → has slot x.0.slots ≡ true → NeverFalls (words_at slot x.1) × ZeroOrIn (words_at slot x.0.posts) (words_at slot x.1) in
    let view = ap (λ m. m.0) c.join_seat.ensures.2 in
    let looks = ap (λ v. v.looks) view ∙ ap (λ s. s.me.0.looks) c.replace-seat.ensures.value ∙ ap (λ m. m.0.looks) c.split_seat-spare.ensures.2 ∙ c.viewer.view_is in
    let holding = ap (λ v. v.holding) view ∙ c.owner.view_is in
    let told : F (c.args.owner.now, c.args.viewer.now) = subst F (λ i. (holding i, looks i)) c.load.ensures.2.1 in
    (told slot (has-Contains slot _ mine)).0
