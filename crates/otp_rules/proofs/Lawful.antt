-- What each event of a lawful history keeps, the history keeps.
use Rattle.std.specs.Prelude.{◌≡◌, ℕ, ◌+◌, ◌≤◌, ◌<◌, List, [], ◌∷◌, Option, None, Some, All, AllPairs, refl, is_some}
use Rattle.std.specs.List.{cons_option}
use Rattle.std.proofs.Common.{◌∙◌, ap, sym, arith, get_or}
use Rattle.std.proofs.lemmas.List.Elements.{All-head}
use Prim.Native.Nat.{suc}
use Rattle.otp_rules.specs.declared.event.Event.{Event}
use Rattle.otp_rules.specs.State.{State}
use Rattle.otp_rules.specs.Step.{step}
use Rattle.otp_rules.specs.Run.{state_after}
use Rattle.otp_rules.specs.Needs.{numbers_of}
use Rattle.otp_rules.specs.Progress.{Progress, gave, progress, seen}
use Rattle.otp_rules.specs.Fit.{next_number, IsDistinct, IsLawfulFrom}
use Rattle.otp_rules.proofs.Numbers.{numbered-distinct, unnumbered-distinct}

pub pairs_rest : (x : ℕ) (xs : List ℕ) → AllPairs (λ i j. i < j) (x ∷ xs) → AllPairs (λ i j. i < j) xs
pairs_rest x xs h i j d less within = h (suc i) (suc j) d (omega (arith, less)) (omega (arith, within))

pub pairs_first : (x : ℕ) (xs : List ℕ) → AllPairs (λ i j. i < j) (x ∷ xs) → All (λ y. x + 1 ≤ y) xs
pairs_first x xs h i d within = let k : x < get_or xs i d = h 0 (suc i) d (omega arith) (omega (arith, within)) in omega (arith, k)

-- what holds where the numbers so far are below the first, and says that each process is one child's: an event may take it
-- that the numbers from k on are no child's after it
pub along : (P : ℕ → State → Progress → Type 0) → ((m : ℕ) (s : State) (g : Progress) → P m s g → IsDistinct m s)
    → ((m k : ℕ) (s : State) (e : Event) (g : Progress) → P m s g → IsDistinct k (step s e).state → P k (step s e).state (gave (step s e).orders (seen s e g)))
    → (m : ℕ) (s : State) (g : Progress) (events : List Event) → P m s g → IsLawfulFrom m s events → P (next_number m (numbers_of events)) (state_after s events) (progress s g events)
along P distinct keeps m s g [] h lawful = h
along P distinct keeps m s g (x ∷ events) h lawful =
    let rest : List ℕ = numbers_of events in
    let goes_on : (k : ℕ) → IsDistinct k (step s x).state → AllPairs (λ i j. i < j) rest → All (λ y. k ≤ y) rest → P (next_number k rest) (state_after s (x ∷ events)) (progress s g (x ∷ events)) =
    λ k new up above. along P distinct keeps k (step s x).state (gave (step s x).orders (seen s x g)) events (keeps m k s x g h new) ((lawful.0.0.1, up), above) in
    (elim x.number as (λ (n : Option ℕ). x.number ≡ n → AllPairs (λ i j. i < j) (cons_option n rest) → All (λ y. m ≤ y) (cons_option n rest) → P (next_number m (cons_option n rest)) (state_after s (x ∷ events)) (progress s g (x ∷ events))) [
      | None ↦ λ is up above. goes_on m (unnumbered-distinct m s x is (sym lawful.0.0.0 ∙ ap (λ (n : Option ℕ). is_some n) is) (distinct m s g h)) up above
      | Some n ↦ λ is up above. goes_on (n + 1) (numbered-distinct m n s x is (All-head (λ y. m ≤ y) n rest above) (distinct m s g h)) (pairs_rest n rest up) (pairs_first n rest up)
    ]) refl lawful.0.1 lawful.1
