use Rattle.std.proofs.Common.{arith, sym, ap, ◌∙◌, ◌≡◌, ⊎_elim, ℕ, List, [], length, subst}
use Rattle.otp_rules.specs.declared.call.CountsNow.{CountsNow}
use Rattle.otp_signals.specs.Counts.{IsBeginning}
use Rattle.otp_signals.specs.CountsRules.{Begins}
use Rattle.otp_signals.proofs.CountsMoves.{parts_blank, lends, witnesses, gives_back, begins_counts}
use Rattle.otp_signals.proofs.counts.counts.Publisher.compare.Goals as goal

pub split_seat-spare-requires : goal.split_seat-spare-requires
split_seat-spare-requires c =
    let o = c.self.invariant in
    let is = ap (λ t. t.shared.table_id) c.deref.ensures in
    let words = ap (λ t. t.words) is in
    let same = ap (λ r. r.word) c.pass.view_is ∙ sym c.requires ∙ sym (ap (λ r. r.word) c.self.view_is) in
    (same ∙ o.0.0 ∙ sym is, omega (arith, o.0.1, words), parts_blank _ _)

pub join_seat-requires : goal.join_seat-requires
join_seat-requires c =
    let o = c.self.invariant in
    let p = c.pass.invariant in
    let is = ap (λ t. t.shared.table_id) c.deref.ensures in
    let words = ap (λ t. t.words) is in
    let same = ap (λ r. r.word) c.pass.view_is ∙ sym c.requires ∙ sym (ap (λ r. r.word) c.self.view_is) in
    let lent = c.replace-lent.ensures.value in
    let was = c.split_seat-spare.ensures in (
      o.0.0 ∙ sym is,
      ap (λ s. s.table_id) lent ∙ was.0 ∙ same ∙ o.0.0 ∙ sym is,
      ap (λ s. s.me.1) lent ∙ ap (λ m. m.1) was.2 ∙ p.0.2,
      omega (arith, o.0.1, words),
      lends _ _ _ _,
    )

pub load-requires : goal.load-requires
load-requires c =
    let o = c.self.invariant in
    let is = ap (λ t. t.shared.table_id) c.deref.ensures in
    let words = ap (λ t. t.words) is in
    let m = c.join_seat.new.seat.me in
    (c.join_seat.ensures.0 ∙ o.0.0 ∙ sym is, omega (arith, o.0.1, words), witnesses _ _ m.0 m.1)

pub split_seat-requires : goal.split_seat-requires
split_seat-requires c =
    let o = c.self.invariant in
    let is = ap (λ t. t.shared.table_id) c.deref.ensures in
    let words = ap (λ t. t.words) is in
    (c.load.ensures.0 ∙ c.join_seat.ensures.0 ∙ o.0.0 ∙ sym is, omega (arith, o.0.1, words), gives_back _ _)

pub returns-clause-beginning : goal.returns-clause-beginning
returns-clause-beginning c =
    let view = ap (λ m. m.0) c.join_seat.ensures.2 in
    let lent = ap (λ s. s.me.0.seen) c.replace-lent.ensures.value ∙ ap (λ m. m.0.seen) c.split_seat-spare.ensures.2 in
    let seen = ap (λ v. v.seen) view ∙ lent in
    let published = ap (λ v. v.published) view in
    let some_there = c.self.invariant.1 in
    let told : Begins c.pass.inside.seat.me.0.seen c.self.inside.seat.me.0.published =
    ⊎_elim
    (λ (e : c.join_seat.new.seat.me.0.published ≡ []). let n = ap length (sym published ∙ e) in absurd (omega (arith, some_there, n)))
    (λ (b : Begins c.join_seat.new.seat.me.0.seen c.join_seat.new.seat.me.0.published). subst (λ (x : List ℕ × List ℕ). Begins x.0 x.1) (λ i. (seen i, published i)) b)
    c.load.ensures.2.1 in
    subst (λ (x : List CountsNow × List CountsNow). IsBeginning x.0 x.1) (λ i. (ap (λ r. r.seen) c.pass.view_is i, ap (λ r. r.published) c.self.view_is i))
    (begins_counts c.pass.inside.seat.me.0.seen c.self.inside.seat.me.0.published told)
