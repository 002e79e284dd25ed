-- The numbers that events give stay above those that were given before.
use Rattle.std.proofs.Common.{◌≡◌, ◌+◌, ◌<◌, ◌≤◌, ℕ, All, Bool, true, false, List, [], ◌∷◌, ◌++◌, Option, append-nil, arith, subst, sym}
use Rattle.std.specs.List.{cons_option}
use Prim.Native.Nat.{suc, zero}
use Rattle.std.proofs.lemmas.List.Elements.{All-append, filter_map-append}
use Rattle.otp_core.specs.Happened.{number_after}
use Rattle.otp_rules.specs.declared.event.Event.{Event}
use Rattle.otp_rules.specs.Needs.{numbers_of}

one_above : (n x : ℕ) → n < x → All (λ m. n < m) (x ∷ [])
one_above n x less zero d inside = less
one_above n x less (suc k) d inside = absurd (omega (arith, inside))

more_above : (n last : ℕ) (numbers : List ℕ) (draws : Bool) → n ≤ last → All (λ m. n < m) numbers → All (λ m. n < m) (numbers ++ cons_option (number_after last draws) [])
more_above n last numbers true less h = All-append (λ (m : ℕ). n < m) numbers ((last + 1) ∷ []) h (one_above n (last + 1) (omega (arith, less)))
more_above n last numbers false less h = subst (λ (xs : List ℕ). All (λ m. n < m) xs) (sym (append-nil numbers)) h

pub above_on : (n last : ℕ) (events : List Event) (e : Event) (draws : Bool) → e.number ≡ number_after last draws → n ≤ last
    → All (λ m. n < m) (numbers_of events) → All (λ m. n < m) (numbers_of (events ++ e ∷ []))
above_on n last events e draws is less h =
    subst (λ (xs : List ℕ). All (λ m. n < m) xs) (sym (filter_map-append (λ (x : Event). x.number) events (e ∷ [])))
    (subst (λ (o : Option ℕ). All (λ m. n < m) (numbers_of events ++ cons_option o [])) (sym is) (more_above n last (numbers_of events) draws less h))
