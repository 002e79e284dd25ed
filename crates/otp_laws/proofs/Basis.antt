-- A basis stays one along a lawful history, and what the numbers of a history are good for.
use Rattle.std.specs.Prelude.{◌≡◌, ◌⊎◌, ℕ, ◌==◌, ◌+◌, ◌≤◌, ◌<◌, ◌++◌, Bool, true, false, List, [], ◌∷◌, Option, None, Some, All, AllPairs, refl, is_some}
use Rattle.std.specs.List.{cons_option, list_any}
use Rattle.std.proofs.Common.{◌∙◌, ap, sym, subst, inl, inr, arith, ⊎_elim, cond}
use Rattle.std.proofs.lemmas.Bool.{cases_Bool, eqb-true, false≢true}
use Rattle.std.proofs.lemmas.List.Elements.{All-cons, All-head, All-tail, filter_map-append}
use Rattle.std.proofs.lemmas.List.Kept.{AllPairs-cons}
use Rattle.otp_spec.specs.declared.child.ChildSpec.{ChildSpec}
use Rattle.otp_spec.specs.declared.flags.SupFlags.{SupFlags}
use Rattle.otp_rules.specs.declared.event.Event.{Event}
use Rattle.otp_rules.specs.State.{State}
use Rattle.otp_rules.specs.Step.{step}
use Rattle.otp_rules.specs.Run.{empty_state, state_after}
use Rattle.otp_rules.specs.Needs.{is_start, needs_number, numbers_of, IsLawfulHistory, IsNumbered}
use Rattle.otp_rules.specs.Progress.{Progress, no_progress, progress, IsIn}
use Rattle.otp_rules.specs.Fit.{next_number, IsLawfulFrom}
use Rattle.otp_rules.proofs.Counting.{times-cons}
use Rattle.otp_rules.proofs.Lasting.{empty_in_order, stays_in_order}
use Rattle.otp_rules.proofs.Late.{work_awaits_law}
use Rattle.otp_rules.proofs.Lawful.{pairs_first, pairs_rest}
use Rattle.otp_rules.proofs.StartTurn.{stays_fit_law}
use Rattle.otp_laws.specs.Basis.{IsBasis}

pub empty_basis : (flags : SupFlags) (specs : List ChildSpec) → IsBasis 0 (empty_state flags specs) (no_progress (empty_state flags specs))
empty_basis flags specs = (stays_fit_law.0 flags specs, empty_in_order flags specs, λ busy. absurd (false≢true busy))

pub stays_basis : (m : ℕ) (s : State) (g : Progress) (events : List Event) → IsBasis m s g → IsLawfulFrom m s events → IsBasis (next_number m (numbers_of events)) (state_after s events) (progress s g events)
stays_basis m s g events h lawful = (stays_fit_law.1 m s g events h.0 lawful, stays_in_order m s events h.1 lawful, work_awaits_law m s g events h.0 h.2 lawful)

-- a lawful history from the empty state is one whose numbers begin anywhere
pub lawful_from_0 : (s : State) (events : List Event) → IsLawfulHistory s events → IsLawfulFrom 0 s events
lawful_from_0 s events lawful = (lawful, λ i d within. omega arith)

-- an event has the number n, which is m at least, or it starts nobody
abbrev pub Numbered : ℕ → State → Event → Type 0
Numbered m s e = ((n : ℕ) × (e.number ≡ Some n) × (m ≤ n)) ⊎ (list_any is_start (step s e).orders ≡ false)

pub quiet_event : (s : State) (e : Event) → e.number ≡ None → is_some e.number ≡ needs_number s e.reading e.kind → list_any is_start (step s e).orders ≡ false
unfolding needs_number
quiet_event s e is numbered =
    ap (λ (x : Option ℕ). list_any is_start (step s (record { reading = e.reading; number = x; kind = e.kind })).orders) is
    ∙ sym numbered ∙ ap (λ (x : Option ℕ). is_some x) is

-- so does the first of a lawful history
pub first_numbered : (m : ℕ) (s : State) (e : Event) (events : List Event) → IsLawfulFrom m s (e ∷ events) → Numbered m s e
first_numbered m s e events lawful =
    (elim e.number as (λ (x : Option ℕ). e.number ≡ x → All (λ y. m ≤ y) (cons_option x (numbers_of events)) → Numbered m s e) [
      | None ↦ λ is above. inr (quiet_event s e is lawful.0.0.0)
      | Some n ↦ λ is above. inl (n, is, All-head (λ y. m ≤ y) n (numbers_of events) above)
    ]) refl lawful.1

-- numbers that rise, from m on
abbrev pub Rise : ℕ → List ℕ → Type 0
Rise m ns = AllPairs (λ i j. i < j) ns × All (λ n. m ≤ n) ns

rise-split : (m : ℕ) (xs ys : List ℕ) → Rise m (xs ++ ys) → Rise m xs × Rise (next_number m xs) ys
rise-split m [] ys h = ((λ i j d less within. absurd (omega (arith, within)), λ i d within. absurd (omega (arith, within))), h)
rise-split m (x ∷ xs) ys h =
    let both : Rise (x + 1) xs × Rise (next_number (x + 1) xs) ys = rise-split (x + 1) xs ys (pairs_rest x (xs ++ ys) h.0, pairs_first x (xs ++ ys) h.0) in
    let low : m ≤ x = All-head (λ n. m ≤ n) x (xs ++ ys) h.1 in (
      (
        AllPairs-cons (λ i j. i < j) x xs (λ i d within. omega (arith, both.0.1 i d within)) both.0.0,
        All-cons (λ n. m ≤ n) x xs low (λ i d within. omega (arith, low, both.0.1 i d within)),
      ),
      both.1,
    )

numbered-split : (s : State) (events later : List Event) → IsNumbered s (events ++ later) → IsNumbered s events × IsNumbered (state_after s events) later
numbered-split s [] later h = (tt, h)
numbered-split s (e ∷ events) later h = let both = numbered-split (step s e).state events later h.1 in ((h.0, both.0), both.1)

-- the beginning of a lawful history is one, and so is what comes after it, whose numbers come after those of the beginning
pub split_lawful : (m : ℕ) (s : State) (events later : List Event) → IsLawfulFrom m s (events ++ later) → IsLawfulFrom m s events × IsLawfulFrom (next_number m (numbers_of events)) (state_after s events) later
split_lawful m s events later lawful =
    let joined : numbers_of (events ++ later) ≡ numbers_of events ++ numbers_of later = filter_map-append (λ (x : Event). x.number) events later in
    let numbered = numbered-split s events later lawful.0.0 in
    let rise = rise-split m (numbers_of events) (numbers_of later) (subst (λ (ns : List ℕ). Rise m ns) joined (lawful.0.1, lawful.1)) in
    (((numbered.0, rise.0.0), rise.0.1), ((numbered.1, rise.1.0), rise.1.1))

-- after the first event of a lawful history, whose numbers are all m at least, comes another such
pub rest_lawful : (m : ℕ) (s : State) (e : Event) (events : List Event) → IsLawfulFrom m s (e ∷ events) → IsLawfulFrom m (step s e).state events
rest_lawful m s e events lawful =
    (elim e.number as (λ (x : Option ℕ). AllPairs (λ i j. i < j) (cons_option x (numbers_of events)) → All (λ y. m ≤ y) (cons_option x (numbers_of events)) → IsLawfulFrom m (step s e).state events) [
      | None ↦ λ up above. ((lawful.0.0.1, up), above)
      | Some n ↦ λ up above. ((lawful.0.0.1, pairs_rest n (numbers_of events) up), All-tail (λ y. m ≤ y) n (numbers_of events) above)
    ]) lawful.0.1 lawful.1

pub number_above : (m n : ℕ) (s : State) (e : Event) (events : List Event) → e.number ≡ Some n → IsLawfulFrom m s (e ∷ events) → m ≤ n
number_above m n s e events is lawful =
    All-head (λ y. m ≤ y) n (numbers_of events) (subst (λ (x : Option ℕ). All (λ y. m ≤ y) (cons_option x (numbers_of events))) is lawful.1)

-- the numbers after these
pub next_one : (m n : ℕ) (e : Event) → e.number ≡ Some n → next_number m (numbers_of (e ∷ [])) ≡ n + 1
next_one m n e is = ap (λ (x : Option ℕ). next_number m (cons_option x [])) is

pub next_more : (m : ℕ) (ns : List ℕ) → Rise m ns → m ≤ next_number m ns
next_more m [] h = omega arith
next_more m (n ∷ ns) h = omega (arith, All-head (λ x. m ≤ x) n ns h.1, next_more (n + 1) ns (pairs_rest n ns h.0, pairs_first n ns h.0))

-- a number that was given is below the next
pub given_below : (m p : ℕ) (ns : List ℕ) → Rise m ns → IsIn p ns → p < next_number m ns
given_below m p [] h i = absurd (omega (arith, i))
given_below m p (n ∷ ns) h i =
    let rest : Rise (n + 1) ns = (pairs_rest n ns h.0, pairs_first n ns h.0) in
    ⊎_elim
    (λ (same : (n == p) ≡ true). let z : n ≡ p = eqb-true n p same in omega (arith, z, next_more (n + 1) ns rest))
    (λ (other : (n == p) ≡ false).
    let none : ◌≡◌ {A = ℕ} (cond (n == p) 1 0) 0 = ap (λ (b : Bool). cond b 1 0) other in
    given_below (n + 1) p ns rest (omega (arith, i, none, times-cons p n ns)))
    (cases_Bool (n == p))
