-- The numbers that were drawn, and the last of them.
use Rattle.std.proofs.Common.{◌≡◌, ℕ, ◌<◌, ◌≤◌, ◌++◌, List, [], ◌∷◌, ◌∙◌, Option, None, Some, ap, arith, length, length-append, refl, subst, sym, ◌+◌}
use Rattle.std.specs.Prelude.{Bool, true, false, MatchOption, is_some, unwrap_or}
use Rattle.std.specs.List.{All}
use Rattle.std.proofs.lemmas.List.Elements.{All-append, All-cons, All-nil, filter_map-append}
use Rattle.otp_rules.specs.declared.event.Event.{Event}
use Rattle.otp_rules.specs.declared.event.Kind.{Kind}
use Rattle.otp_core.specs.CoreInside.{one_if}
use Rattle.otp_rules.specs.Needs.{last_from, last_number, numbers_of}

-- what holds of the number that was drawn
pub drawn_is : (Nothing : Type 0) (Holds : ℕ → Type 0) (number : Option ℕ) → MatchOption number Nothing Holds → (n : ℕ) → number ≡ Some n → Holds n
drawn_is Nothing Holds number h n e = subst (λ (o : Option ℕ). MatchOption o Nothing Holds) e h

last_pushed : (p : ℕ) (es : List Event) (e : Event) → last_from p (es ++ e ∷ []) ≡ unwrap_or e.number (last_from p es)
last_pushed p [] e = refl
last_pushed p (x ∷ xs) e = last_pushed (unwrap_or x.number p) xs e

-- the last number of a history with one event more
pub last_on : (p : ℕ) (es longer : List Event) (e : Event) → longer ≡ es ++ e ∷ [] → p ≡ last_number es → unwrap_or e.number p ≡ last_number longer
last_on p es longer e more last = ap (unwrap_or e.number) last ∙ sym (ap last_number more ∙ last_pushed 0 es e)

pub at_most_one : (b : Bool) → one_if b ≤ 1
at_most_one true = omega arith
at_most_one false = omega arith

-- one number more, or none
starts_of : (reading : ℕ) (number : Option ℕ) (kind : Kind) → length (numbers_of (record { reading = reading; number = number; kind = kind } ∷ [])) ≡ one_if (is_some number)
starts_of reading None kind = refl
starts_of reading (Some n) kind = refl

pub starts_on : (es longer : List Event) (e : Event) → longer ≡ es ++ e ∷ [] → length (numbers_of longer) ≡ length (numbers_of es) + one_if (is_some e.number)
starts_on es longer e more =
    ap (λ (xs : List Event). length (numbers_of xs)) more ∙ ap (λ (ns : List ℕ). length ns) (filter_map-append (λ (x : Event). x.number) es (e ∷ []))
    ∙ length-append (numbers_of es) (numbers_of (e ∷ [])) ∙ ap (λ (n : ℕ). length (numbers_of es) + n) (starts_of e.reading e.number e.kind)

-- no more numbers than events
cons_starts : (reading : ℕ) (number : Option ℕ) (kind : Kind) (es : List Event) → length (numbers_of (record { reading = reading; number = number; kind = kind } ∷ es)) ≤ length (numbers_of es) + 1
cons_starts reading None kind es = omega arith
cons_starts reading (Some n) kind es = omega arith

pub few_starts : (es : List Event) → length (numbers_of es) ≤ length es
few_starts [] = omega arith
few_starts (e ∷ es) = omega (arith, few_starts es, cons_starts e.reading e.number e.kind es)

-- numbers up to p, and one that is above each
reached : (xs : List ℕ) (p reading : ℕ) (number : Option ℕ) (kind : Kind) → All (λ m. m ≤ p) xs → ((n : ℕ) → number ≡ Some n → All (λ m. m < n) xs) →
    All (λ m. m ≤ unwrap_or number p) (xs ++ numbers_of (record { reading = reading; number = number; kind = kind } ∷ []))
reached xs p reading None kind h above = All-append (λ m. m ≤ p) xs [] h (All-nil (λ m. m ≤ p))
reached xs p reading (Some n) kind h above =
    All-append (λ m. m ≤ n) xs (n ∷ []) (λ i d within. let below : _ = above n refl i d within in omega (arith, below)) (All-cons (λ m. m ≤ n) n [] (omega arith) (All-nil (λ m. m ≤ n)))

-- with one event more the numbers still rise up to the last
pub reached_on : (p : ℕ) (es longer : List Event) (e : Event) → longer ≡ es ++ e ∷ [] → All (λ m. m ≤ p) (numbers_of es) → ((n : ℕ) → e.number ≡ Some n → All (λ m. m < n) (numbers_of es)) →
    All (λ m. m ≤ unwrap_or e.number p) (numbers_of longer)
reached_on p es longer e more h above =
    let Reached : List ℕ → Type 0 = λ ns. All (λ m. m ≤ unwrap_or e.number p) ns in
    let numbers : numbers_of longer ≡ numbers_of es ++ numbers_of (e ∷ []) = ap numbers_of more ∙ filter_map-append (λ (x : Event). x.number) es (e ∷ []) in
    subst Reached (sym numbers) (reached (numbers_of es) p e.reading e.number e.kind h above)
