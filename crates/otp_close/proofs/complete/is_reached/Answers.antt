use Rattle.std.proofs.Common.{◌≡◌, ◌+◌, ◌∙◌, ap, false, length, rules, sym}
use Rattle.std.specs.Prelude.{IsTrue, MatchOption}
use Rattle.otp_close.proofs.Begun.{all_as_far, hands_as_far}
use Rattle.otp_close.proofs.complete.is_reached.Goals as goal

isnt_true : IsTrue false → ⊥
isnt_true found = search (rules, found)

pub returns-then-not-waits_at : goal.returns-then-not-waits_at
returns-then-not-waits_at g c = (
  λ found. absurd (isnt_true found),
  λ r. absurd (isnt_true (sym c.if-not-waits_at.true ∙ c.waits_at.ensures.1 r.waits)),
)

pub returns-then-not-reaches : goal.returns-then-not-reaches
returns-then-not-reaches g c = (
  λ found. absurd (isnt_true found),
  λ r. absurd (isnt_true (sym c.if-not-reaches.true ∙ c.reaches.ensures.1 r.reach)),
)

pub returns-then-not-reach_as_far : goal.returns-then-not-reach_as_far
returns-then-not-reach_as_far g c =
    let own = ap (λ v. length v.senders) c.client.view_is in (
      λ found. absurd (isnt_true found),
      λ r.
          let far = hands_as_far c.args.tables c.len.result c.args.client.now c.args.hands.now (sym r.reach ∙ sym own ∙ sym c.len.ensures) r.as_far in
          absurd (isnt_true (sym c.if-not-reach_as_far.true ∙ c.reach_as_far.ensures.1 far)),
    )

pub returns : goal.returns
returns g c =
    let waits : MatchOption c.args.client.now.waiter ⊥ (λ w. w.inbox ≡ c.args.tables) = c.waits_at.ensures.0 c.if-not-waits_at.false in
    let reach : length c.args.client.now.senders ≡ c.args.tables + 1 = c.reaches.ensures.0 c.if-not-reaches.false in
    let own = ap (λ v. length v.senders) c.client.view_is in
    let far = all_as_far c.args.tables c.len.result c.args.client.now c.args.hands.now (c.len.ensures ∙ own) reach (c.reach_as_far.ensures.0 c.if-not-reach_as_far.false) in (
      λ found. record { waits = waits; reach = reach; whole = c.has_all_parts.ensures.0 found; as_far = far },
      λ r. c.has_all_parts.ensures.1 r.whole,
    )
