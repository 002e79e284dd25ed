-- The least deadline of some processes that wait. (own)
use Rattle.std.specs.Prelude.{◌≤◌, ℕ, List, [], ◌∷◌, MatchOption, Option, Some, None, min}
use Rattle.otp_hand.specs.declared.waiting.resting.Rested.{Rested}

-- the reading of the clock has come to a deadline
abbrev pub IsDue : Option ℕ → ℕ → Type 0
IsDue due reading = MatchOption due ⊥ (λ d. d ≤ reading)

abbrev pub earlier : Option ℕ → Option ℕ → Option ℕ
earlier None other = other
earlier (Some a) None = Some a
earlier (Some a) (Some b) = Some (min a b)

module _ {J S : Type 0} where
  abbrev pub due_from : Option ℕ → List (Rested J S) → Option ℕ
  due_from least [] = least
  due_from least (rested ∷ more) = due_from (earlier least rested.due) more

  -- the least of the deadlines for which they wait
  abbrev pub least_due : List (Rested J S) → Option ℕ
  least_due resting = due_from None resting
