-- Starts that were credited one by one.
use Rattle.std.proofs.Common.{◌≡◌, ℕ, ◌+◌, ap, arith, sym, ◌∙◌}
use Rattle.otp_inbox.specs.declared.rule.Shares.{Shares}
use Rattle.otp_inbox.specs.Tokens.{SenderState, TakerState, plus}
use Rattle.otp_sup.specs.Shares.{HasStarted, credited, gave, starts_of}

-- a start share for each process more
pub started_one : (old new : Shares) (n processes later : ℕ) → new ≡ plus old (starts_of n) → later ≡ processes + n → HasStarted processes later old new
started_one old new n processes later is more =
    let starts = ap (λ (s : Shares). s.starts) is in
    let turns = ap (λ (s : Shares). s.turns) is in
    record { starts = omega (arith, starts, more); turns = omega (arith, turns) }

pub started_again : (one two three : Shares) (a b c : ℕ) → HasStarted a b one two → HasStarted b c two three → HasStarted a c one three
started_again one two three a b c first second =
    let x = first.starts in let y = second.starts in
    record { starts = omega (arith, x, y); turns = second.turns ∙ first.turns }

plus_none : (s : Shares) → s ≡ plus s (starts_of 0)
plus_none s =
    let starts : s.starts ≡ s.starts + 0 = omega arith in
    let turns : s.turns ≡ s.turns + 0 = omega arith in
    ap (λ (n : ℕ). record s { starts = n }) starts ∙ ap (λ (n : ℕ). record { starts = s.starts + 0; turns = n }) turns

-- nothing but shares was given, and credited
module _ {P : Type 0} where
  pub gave_none : (t : TakerState P) → t ≡ gave (starts_of 0) t
  gave_none t = ap (λ (s : Shares). record t { given = s }) (plus_none t.given)

  pub taken_only : (n : ℕ) (old new : TakerState P) → new ≡ gave (starts_of n) old → new ≡ record old { given = new.given }
  taken_only n old new is = is ∙ ap (λ (t : TakerState P). record old { given = t.given }) (sym is)

  pub taken_again : (one two three : TakerState P) → two ≡ record one { given = two.given } → three ≡ record two { given = three.given } → three ≡ record one { given = three.given }
  taken_again one two three first second = second ∙ ap (λ (t : TakerState P). record t { given = three.given }) first

  pub credited_only : (n : ℕ) (old new : SenderState P) → new ≡ credited (starts_of n) old → new ≡ record old { shares = new.shares }
  credited_only n old new is = is ∙ ap (λ (s : SenderState P). record old { shares = s.shares }) (sym is)

  pub credited_again : (one two three : SenderState P) → two ≡ record one { shares = two.shares } → three ≡ record two { shares = three.shares } → three ≡ record one { shares = three.shares }
  credited_again one two three first second = second ∙ ap (λ (s : SenderState P). record s { shares = three.shares }) first
