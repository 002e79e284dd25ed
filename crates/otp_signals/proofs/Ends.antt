-- What an owner learns of the number rule: what it and others have, that joined owners drew no number in common, and what it has where it has all.
use Rattle.std.proofs.Common.{◌≡◌, ⊎_elim, ℕ, zero, suc, ◌+◌, ◌-◌, ◌<◌, ◌≤◌, List, [], ◌∷◌, ◌++◌, length, length-append, refl, sym, ap, ◌∙◌, subst, arith, add-zero}
use Rattle.std.specs.Prelude.{sum_by, slice_index}
use Rattle.std.proofs.lemmas.List.Sums.{sum_by-append, sum_by-cons}
use mathlib.Core.Option.{some, none, some-ne-none, some-injective}
use mathlib.Core.Logic.{dite}
use native.Mathlib.Decide.{ℕ_discrete}
use lib.ListN.{get_elem?}
use Rattle.atomic_table.specs.Table.{step, keeps, Allows}
use Rattle.otp_signals.specs.declared.signal.TheConstants.{NUMBER_LIMIT}
use Rattle.otp_signals.specs.declared.view.SignalsView.{SignalsView}
use Rattle.otp_signals.specs.Lists.{numbers_to, AsOften, AllIn, NoneInBoth, Above, Below, Rises, Stands, merge}
use Rattle.otp_signals.specs.Rules.{NumberRule, KeepsRules, Learns}
use Rattle.otp_tally.proofs.Sums.{one_le_sum_by}
use Rattle.otp_signals.proofs.Sums.{weigh_all}
use Rattle.otp_signals.proofs.Moves.{loaded}
use Rattle.otp_signals.proofs.Membership.{Stands-Contains, Contains-Stands}
use Rattle.otp_signals.proofs.Joins.{is, is-same, is-else, stands_counts, sum_by-merge, Stands-with_number_new, Stands-with_number_old}

count_all : (xs : List ℕ) → sum_by (λ _. 1) xs ≡ length xs
count_all [] = refl
count_all (x ∷ xs) = let p = count_all xs in omega (arith, sum_by-cons (λ (_ : ℕ). 1) x xs)

length-numbers_to : (n : ℕ) → length (numbers_to n) ≡ n
length-numbers_to zero = refl
length-numbers_to (suc n) = let p = length-numbers_to n in omega (arith, length-append (numbers_to n) (suc n ∷ []))

-- an owner drew at most the numbers below the counter
drawn_few : (c : ℕ) (views : List SignalsView) (id : ℕ) (v : SignalsView) → get_elem? views id ≡ some v → NumberRule c views → length v.holding.drawn ≤ c - 1
drawn_few c views id v at k =
    let p = one_le_sum_by (λ (u : SignalsView). sum_by (λ _. 1) u.holding.drawn) views id v at in
    let a = weigh_all (λ _. 1) views in
    let o = k.once (λ _. 1) in
    omega (arith, count_all v.holding.drawn, count_all (numbers_to (c - 1)), length-numbers_to (c - 1))

owner_room : (c : ℕ) (views : List SignalsView) (id : ℕ) (v : SignalsView) → get_elem? views id ≡ some v → NumberRule c views → length v.holding.drawn + v.holding.quota < NUMBER_LIMIT
owner_room c views id v at k =
    let p = drawn_few c views id v at k in
    let q = one_le_sum_by (λ (u : SignalsView). u.holding.quota) views id v at in
    let r = k.room in
    let b = k.begins in
    omega arith

pub learns : (slots homes id : ℕ) (v : SignalsView) (cs : List (ℕ × ℕ)) → Allows (KeepsRules slots) homes id (v, cs) 0 (λ n. n) (Learns (step homes 0 0 0 none) (v, cs))
learns slots homes id v cs s k no_homes at small =
    (v, keeps, tt, loaded slots id v s k at, (refl, (k.numbers.rises id v at).0, owner_room (slice_index s.words 0) s.views id v at k.numbers))

Above-none : (x : ℕ) (xs : List ℕ) → Above x xs → sum_by (is x) xs ≡ 0
Above-none x [] a = refl
Above-none x (y ∷ ys) a =
    let p = Above-none x ys a.1 in
    let q = is-else x y (λ e. let lt = a.0 in absurd (omega arith)) in
    omega (arith, sum_by-cons (is x) y ys)

Rises-once : (x : ℕ) (xs : List ℕ) → Rises xs → sum_by (is x) xs ≤ 1
Rises-once x [] r = omega arith
Rises-once x (y ∷ ys) r =
    let c = sum_by-cons (is x) y ys in
    dite (ℕ_discrete x y)
    (λ (e : x ≡ y). let p = Above-none x ys (subst (λ n. Above n ys) (sym e) r.0) in let q = is-same x y e in omega arith)
    (λ ne. let p = Rises-once x ys r.1 in let q = is-else x y ne in omega arith)

-- two lists that rise when they are merged have no number in common
merged_apart : (x : ℕ) (xs ys : List ℕ) → Rises (merge xs ys) → Stands x xs → Stands x ys → ⊥
merged_apart x xs ys r s t =
    let p = Rises-once x (merge xs ys) r in
    let m = sum_by-merge (is x) xs ys in
    let a = stands_counts x xs s in
    let b = stands_counts x ys t in
    absurd (omega arith)

pub merged_numbers : (xs ys : List ℕ) → AsOften (merge xs ys) (xs ++ ys)
merged_numbers xs ys h = sum_by-merge h xs ys ∙ sym (sum_by-append h xs ys)

Stands-merge_right : (z : ℕ) (xs ys : List ℕ) → Stands z ys → Stands z (merge xs ys)
Stands-merge_right z [] ys s = s
Stands-merge_right z (x ∷ xs) ys s = Stands-with_number_old z x (merge xs ys) (Stands-merge_right z xs ys s)

Stands-merge_left : (z : ℕ) (xs ys : List ℕ) → Stands z xs → Stands z (merge xs ys)
Stands-merge_left z [] ys s = absurd s
Stands-merge_left z (x ∷ xs) ys s = ⊎_elim
    (λ (e : z ≡ x). Stands-with_number_new z x (merge xs ys) e)
    (λ (r : Stands z xs). Stands-with_number_old z x (merge xs ys) (Stands-merge_left z xs ys r))
    s

pub merged_left : (xs ys : List ℕ) → AllIn xs (merge xs ys)
merged_left xs ys x c = Contains-Stands x (merge xs ys) (Stands-merge_left x xs ys (Stands-Contains x xs c))

pub merged_right : (xs ys : List ℕ) → AllIn ys (merge xs ys)
merged_right xs ys x c = Contains-Stands x (merge xs ys) (Stands-merge_right x xs ys (Stands-Contains x ys c))

pub merged_none : (xs ys : List ℕ) → Rises (merge xs ys) → NoneInBoth xs ys
merged_none xs ys r x c d = merged_apart x xs ys r (Stands-Contains x xs c) (Stands-Contains x ys d)

-- the n numbers above a, in order
numbers_above : ℕ → ℕ → List ℕ
numbers_above a zero = []
numbers_above a (suc n) = suc a ∷ numbers_above (suc a) n

numbers_above-last : (a n : ℕ) → numbers_above a (suc n) ≡ numbers_above a n ++ suc (a + n) ∷ []
unfolding numbers_above
numbers_above-last a zero = ap (λ k. suc k ∷ []) (sym (add-zero a))
numbers_above-last a (suc n) = ap (λ l. suc a ∷ l) (numbers_above-last (suc a) n ∙ ap (λ k. numbers_above (suc a) n ++ suc k ∷ []) (omega arith))

numbers_above-zero : (n : ℕ) → numbers_to n ≡ numbers_above 0 n
unfolding numbers_above
numbers_above-zero zero = refl
numbers_above-zero (suc n) = ap (λ l. l ++ suc n ∷ []) (numbers_above-zero n) ∙ ap (λ k. numbers_above 0 n ++ suc k ∷ []) (omega arith) ∙ sym (numbers_above-last 0 n)

-- so many numbers that rise have so much room
rise_room : (x b : ℕ) (xs : List ℕ) → x < b → Above x xs → Rises xs → Below b xs → x + length xs < b
rise_room x b [] lt a r w = omega arith
rise_room x b (y ∷ ys) lt a r w = let p = rise_room y b ys w.0 r.0 r.1 w.1 in let q = a.0 in omega arith

-- where there is room for no other, they are all of them
rise_full : (a n : ℕ) (xs : List ℕ) → length xs ≡ n → Above a xs → Rises xs → Below (a + n + 1) xs → xs ≡ numbers_above a n
unfolding numbers_above
rise_full a zero [] len ab r w = refl
rise_full a zero (x ∷ xs) len ab r w = absurd (omega arith)
rise_full a (suc n) [] len ab r w = absurd (omega arith)
rise_full a (suc n) (x ∷ xs) len ab r w =
    let p = rise_room x (a + suc n + 1) xs w.0 r.0 r.1 w.1 in
    let q = ab.0 in
    let e : x ≡ suc a = omega arith in
    let b : a + suc n + 1 ≡ suc a + n + 1 = omega arith in
    (λ i. e i ∷ rise_full (suc a) n xs (omega arith) (subst (λ k. Above k xs) e r.0) r.1 (subst (λ k. Below k xs) b w.1) i)

Above-zero : (xs : List ℕ) → sum_by (is 0) xs ≡ 0 → Above 0 xs
Above-zero [] e = tt
Above-zero (x ∷ xs) e =
    let c = sum_by-cons (is 0) x xs in (
      dite (ℕ_discrete 0 x) (λ (z : 0 ≡ x). let q = is-same 0 x z in absurd (omega arith)) (λ ne. omega arith),
      Above-zero xs (omega arith),
    )

zero_not_drawn : (n : ℕ) → sum_by (is 0) (numbers_to n) ≡ 0
zero_not_drawn zero = refl
zero_not_drawn (suc n) = let p = zero_not_drawn n in let q = is-else 0 (suc n) (λ e. absurd (omega arith)) in omega (arith, sum_by-append (is 0) (numbers_to n) (suc n ∷ []), sum_by-cons (is 0) (suc n) [])

-- an owner that has the whole first quota drew every number below the counter
pub whole : (c : ℕ) (views : List SignalsView) (id : ℕ) (v : SignalsView) → get_elem? views id ≡ some v → NumberRule c views → length v.holding.drawn + v.holding.quota ≡ NUMBER_LIMIT - 1
    → (v.holding.drawn ≡ numbers_to (length v.holding.drawn)) × (c ≡ length v.holding.drawn + 1)
whole c views id v at k all =
    let xs : List ℕ = v.holding.drawn in
    let p = drawn_few c views id v at k in
    let q = one_le_sum_by (λ (u : SignalsView). u.holding.quota) views id v at in
    let b = k.begins in
    let room = k.room in
    let e : c ≡ length xs + 1 = omega arith in
    let s = one_le_sum_by (λ (u : SignalsView). sum_by (is 0) u.holding.drawn) views id v at in
    let a = weigh_all (is 0) views in
    let o = k.once (is 0) in
    let z = zero_not_drawn (c - 1) in
    let none_zero : sum_by (is 0) xs ≡ 0 = omega arith in
    let r = k.rises id v at in (
      rise_full 0 (length xs) xs refl (Above-zero xs none_zero) r.0 (subst (λ n. Below n xs) (e ∙ omega arith) r.1) ∙ sym (numbers_above-zero (length xs)),
      e,
    )

pub merged_length : (xs ys : List ℕ) → length (merge xs ys) ≡ length xs + length ys
merged_length xs ys = let p = sum_by-merge (λ _. 1) xs ys in omega (arith, count_all (merge xs ys), count_all xs, count_all ys)

pub found_word : (ws : List ℕ) (i n : ℕ) → get_elem? ws i ≡ some n → slice_index ws i ≡ n
found_word [] i n e = absurd (some-ne-none n (sym e))
found_word (w ∷ ws) zero n e = some-injective w n e
found_word (w ∷ ws) (suc i) n e = found_word ws i n e
