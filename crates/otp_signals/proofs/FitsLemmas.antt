-- What an owner's type says of it stays through each call.
use Rattle.std.proofs.Common.{◌≡◌, ℕ, ◌+◌, ◌<◌, ◌≤◌, ◌||◌, true, false, [], ◌∷◌, length, length-append, sym, ap, ◌∙◌, ⊎_elim, arith}
use Rattle.std.specs.Prelude.{not}
use Rattle.otp_signals.specs.declared.signal.TheConstants.{NUMBER_LIMIT}
use Rattle.otp_signals.specs.declared.view.Holding.{Holding}
use Rattle.otp_signals.specs.Lists.{has, between}
use Rattle.otp_signals.specs.Holdings.{first_holding, after_draw, kept_of, cut_of, joined}
use Rattle.otp_signals.specs.Rules.{Fits}
use Rattle.otp_signals.proofs.Sums.{Below-push, has-filter, has-below, and-left}
use Rattle.otp_signals.proofs.Joins.{Below-merge, has-append, cases}

pub Fits-first : (words slots : ℕ) → words ≡ slots + 1 → Fits words (first_holding slots)
Fits-first words slots e = record {
  below = tt;
  room = omega arith;
  slots = λ s h. let p = has-below slots s h in omega arith;
}

pub Fits-draw : (words number : ℕ) (h : Holding) → 0 < h.quota → number < NUMBER_LIMIT → Fits words h → Fits words (after_draw number h)
Fits-draw words number h some lt f = record {
  below = Below-push NUMBER_LIMIT h.drawn number f.below lt;
  room = let r = f.room in let l = length-append h.drawn (number ∷ []) in omega arith;
  slots = f.slots;
}

pub Fits-kept : (words from to quota : ℕ) (h : Holding) → Fits words h → Fits words (kept_of from to quota h)
Fits-kept words from to quota h f = record {
  below = f.below;
  room = let r = f.room in omega arith;
  slots = λ s e. f.slots s (and-left _ _ (sym (has-filter (λ t. not (between from to t)) s h.slots) ∙ e));
}

pub Fits-cut : (words from to quota : ℕ) (h : Holding) → quota ≤ h.quota → Fits words h → Fits words (cut_of from to quota h)
Fits-cut words from to quota h le f = record {
  below = tt;
  room = let r = f.room in omega arith;
  slots = λ s e. f.slots s (and-left _ _ (sym (has-filter (between from to) s h.slots) ∙ e));
}

pub Fits-joined : (words : ℕ) (h other : Holding) → length (joined h other).drawn + (joined h other).quota < NUMBER_LIMIT → Fits words h → Fits words other → Fits words (joined h other)
Fits-joined words h other lt f g = record {
  below = Below-merge NUMBER_LIMIT h.drawn other.drawn f.below g.below;
  room = lt;
  slots = λ s e. ⊎_elim
      (λ (m : has s h.slots ≡ true). f.slots s m)
      (λ (m : has s h.slots ≡ false). g.slots s (ap (λ b. b || has s other.slots) (sym m) ∙ sym (has-append s h.slots other.slots) ∙ e))
      (cases (has s h.slots));
}
