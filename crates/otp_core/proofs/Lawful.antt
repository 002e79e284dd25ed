use Rattle.std.proofs.Common.{◌≡◌, ℕ, ◌<◌, ◌++◌, List, [], ◌∷◌, Option, None, Some, append-nil, refl, subst, sym}
use Rattle.std.specs.Prelude.{is_some}
use Rattle.std.specs.List.{All, AllPairs}
use Rattle.std.proofs.lemmas.List.Elements.{filter_map-append}
use Rattle.std.proofs.lemmas.List.Quantifiers.{all_pairs_push}
use Rattle.otp_rules.specs.declared.event.Event.{Event}
use Rattle.otp_rules.specs.declared.event.Kind.{Kind}
use Rattle.otp_rules.specs.State.{State}
use Rattle.otp_rules.specs.Step.{step}
use Rattle.otp_rules.specs.Run.{state_after}
use Rattle.otp_rules.specs.Needs.{IsLawfulHistory, IsNumbered, needs_number, numbers_of}

numbered : (s : State) (es : List Event) (e : Event) → IsNumbered s es → is_some e.number ≡ needs_number (state_after s es) e.reading e.kind → IsNumbered s (es ++ e ∷ [])
numbered s [] e h k = (k, tt)
numbered s (x ∷ xs) e h k = (h.0, numbered (step s x).state xs e h.1 k)

-- rising numbers, and one that is greater than each
rising : (xs : List ℕ) (reading : ℕ) (number : Option ℕ) (kind : Kind) → AllPairs (λ m n. m < n) xs → ((n : ℕ) → number ≡ Some n → All (λ m. m < n) xs) →
    AllPairs (λ m n. m < n) (xs ++ numbers_of (record { reading = reading; number = number; kind = kind } ∷ []))
rising xs reading None kind h k = let Rises : List ℕ → Type 0 = λ ys. AllPairs (λ m n. m < n) ys in subst Rises (sym (append-nil xs)) h
rising xs reading (Some n) kind h k = all_pairs_push (λ m n. m < n) xs n h (k n refl)

-- a lawful history goes on with an event that has a number exactly if it needs one, greater than each before
pub lawful_on : (s : State) (es longer : List Event) (e : Event) → longer ≡ es ++ e ∷ [] → IsLawfulHistory s es → is_some e.number ≡ needs_number (state_after s es) e.reading e.kind →
    ((n : ℕ) → e.number ≡ Some n → All (λ m. m < n) (numbers_of es)) → IsLawfulHistory s longer
lawful_on s es longer e more lawful number rises =
    let Rises : List ℕ → Type 0 = λ ys. AllPairs (λ m n. m < n) ys in
    let Lawful : List Event → Type 0 = λ ys. IsLawfulHistory s ys in
    let numbers : numbers_of (es ++ e ∷ []) ≡ numbers_of es ++ numbers_of (e ∷ []) = filter_map-append (λ (x : Event). x.number) es (e ∷ []) in
    subst Lawful (sym more) (numbered s es e lawful.0 number, subst Rises (sym numbers) (rising (numbers_of es) e.reading e.number e.kind lawful.1 rises))
