-- Whether an element of a list has a fact.
use Rattle.std.proofs.Common.{◌≡◌, ℕ, List, Option, Some, None, sym, subst}
use Rattle.std.specs.Prelude.{slice_get, IfSome, MatchOption}
use Rattle.otp_run.specs.Lists.{AllAt}
use Rattle.otp_close.specs.Tellings.{IsThere}

module _ {A : Type 0} (P : A → Type 0) where
  not_both : (o : Option A) → IfSome o (λ x. ¬ (P x)) → MatchOption o ⊥ P → ⊥
  not_both (Some x) isnt is = isnt is
  not_both None isnt is = is

  -- none has it where each hasn't
  pub none_there : (xs : List A) → AllAt (λ _ x. ¬ (P x)) xs → IsThere P xs → ⊥
  none_there xs all t = not_both (slice_get xs t.place) (all t.place) t.there

  -- the one at this place has it
  pub there_at : (xs : List A) (k : ℕ) (x : A) → slice_get xs k ≡ Some x → P x → IsThere P xs
  there_at xs k x at is =
      let At : Option A → Type 0 = λ o. MatchOption o ⊥ P in
      record { place = k; there = subst At (sym at) is }

-- what follows from a fact follows where there is something
pub if_some : {A : Type 0} (P Q : A → Type 0) → ((x : A) → P x → Q x) → (o : Option A) → IfSome o P → IfSome o Q
if_some P Q f (Some x) p = f x p
if_some P Q f None p = tt
