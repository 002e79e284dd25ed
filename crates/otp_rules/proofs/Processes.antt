-- Each process is one row's, and below the numbers that are still to come.
use Rattle.std.specs.Prelude.{◌≡◌, ℕ, ◌+◌, ◌≤◌, ◌<◌, List, [], ◌∷◌, Option, None, Some, refl, is_some}
use Rattle.std.proofs.Common.{◌∙◌, ap, sym, subst, arith}
use Rattle.otp_rules.specs.declared.event.Event.{Event}
use Rattle.otp_rules.specs.State.{State}
use Rattle.otp_rules.specs.Step.{step}
use Rattle.std.specs.Prelude.{AllPairs, All}
use Rattle.std.specs.List.{cons_option}
use Rattle.std.proofs.lemmas.List.Elements.{All-head, All-tail}
use Rattle.otp_rules.specs.Run.{empty_state, state_after}
use Rattle.otp_rules.specs.Fit.{IsDistinct}
use Rattle.otp_rules.specs.Needs.{IsNumbered, needs_number, numbers_of}
use Rattle.otp_rules.specs.Processes.{ProcessesOwned, ProcessesStayOwned}
use Rattle.otp_rules.proofs.Lawful.{pairs_first, pairs_rest}
use Rattle.otp_rules.proofs.Numbers.{numbered-distinct, unnumbered-distinct}

-- along a history the numbers of all rows stay below the next
pub run-distinct : (m : ℕ) (s : State) (es : List Event) (n : ℕ) → IsNumbered s es → AllPairs (λ i j. i < j) (numbers_of es) → All (λ y. m ≤ y) (numbers_of es) → m ≤ n → All (λ y. y < n) (numbers_of es) → IsDistinct m s → IsDistinct n (state_after s es)
run-distinct m s [] n numbered up above le less d = (d.0, λ q h. d.1 q (omega (arith, le, h)))
run-distinct m s (e ∷ es) n numbered up above le less d = by_number e.number refl numbered.0 (λ k low high distinct. run-distinct k (step s e).state es n numbered.1 (rest_up e.number refl) low high (rest_less e.number refl) distinct)
  where
    numbers_are : (x : Option ℕ) → e.number ≡ x → numbers_of (e ∷ es) ≡ cons_option x (numbers_of es)
    numbers_are x is = ap (λ (y : Option ℕ). cons_option y (numbers_of es)) is

    rest_up : (x : Option ℕ) → e.number ≡ x → AllPairs (λ i j. i < j) (numbers_of es)
    rest_up None is = subst (λ (l : List ℕ). AllPairs (λ i j. i < j) l) (numbers_are None is) up
    rest_up (Some k) is = pairs_rest k (numbers_of es) (subst (λ (l : List ℕ). AllPairs (λ i j. i < j) l) (numbers_are (Some k) is) up)

    rest_less : (x : Option ℕ) → e.number ≡ x → All (λ y. y < n) (numbers_of es)
    rest_less None is = subst (λ (l : List ℕ). All (λ y. y < n) l) (numbers_are None is) less
    rest_less (Some k) is = All-tail (λ y. y < n) k (numbers_of es) (subst (λ (l : List ℕ). All (λ y. y < n) l) (numbers_are (Some k) is) less)

    by_number : (x : Option ℕ) → e.number ≡ x → is_some e.number ≡ needs_number s e.reading e.kind
        → ((k : ℕ) → All (λ y. k ≤ y) (numbers_of es) → k ≤ n → IsDistinct k (step s e).state → IsDistinct n (state_after (step s e).state es)) → IsDistinct n (state_after (step s e).state es)
    by_number None is at goes = goes m (subst (λ (l : List ℕ). All (λ y. m ≤ y) l) (numbers_are None is) above) le (unnumbered-distinct m s e is (sym at ∙ ap (λ (y : Option ℕ). is_some y) is) d)
    by_number (Some k) is at goes =
        let ups : AllPairs (λ i j. i < j) (k ∷ numbers_of es) = subst (λ (l : List ℕ). AllPairs (λ i j. i < j) l) (numbers_are (Some k) is) up in
        let aboves : All (λ y. m ≤ y) (k ∷ numbers_of es) = subst (λ (l : List ℕ). All (λ y. m ≤ y) l) (numbers_are (Some k) is) above in
        let lesss : All (λ y. y < n) (k ∷ numbers_of es) = subst (λ (l : List ℕ). All (λ y. y < n) l) (numbers_are (Some k) is) less in
        goes (k + 1) (pairs_first k (numbers_of es) ups) (omega (arith, All-head (λ y. y < n) k (numbers_of es) lesss)) (numbered-distinct m k s e is (All-head (λ y. m ≤ y) k (numbers_of es) aboves) d)

pub processes_stay_owned_law : ProcessesStayOwned
processes_stay_owned_law s events first next lawful above below le h = run-distinct first s events next lawful.0 lawful.1 above le below h

pub processes_owned_law : ProcessesOwned
processes_owned_law flags specs events next lawful below =
    processes_stay_owned_law (empty_state flags specs) events 0 next lawful (λ i k h. omega arith) below (omega arith) (λ q. omega arith, λ q h. refl)
