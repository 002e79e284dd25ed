-- The walk that uses each end comes through exactly where enough ends wait.
use Rattle.std.specs.Prelude.{◌≡◌, ℕ, ◌+◌, ◌≤◌, ◌<◌, Bool, true, false, not, ◌==◌, ◌&&◌, List, [], ◌∷◌, None, Some, refl, is_some, length, remove, count_by, nat_le}
use Rattle.std.specs.List.{list_all, position_or_len}
use Rattle.std.proofs.Common.{◌∙◌, ap, sym, arith, subst, inl, inr, cond, suc, ltb, get_or}
use Rattle.std.proofs.lemmas.Bool.{cases_lt, leb-true, ltb-true, ltb-false, le-leb, eq-eqb, eqb-true, false≢true, and_parts, and_from}
use Rattle.std.proofs.lemmas.List.Sums.{sum_by-cons, sum_by-remove, passes_at_first}
use Rattle.otp_reason.specs.declared.note.Note.TheVariants as note
use Rattle.otp_rules.specs.declared.event.Item.TheVariants as item
use Rattle.otp_rules.specs.declared.event.Waiting.{Waiting}
use Rattle.otp_rules.specs.declared.event.Waiting.TheVariants as waiting
use Rattle.otp_rules.specs.Needs.{ends_wait}
use Rattle.otp_rules.specs.Stops.{is_exit, without}
use Rattle.otp_needs.specs.Ups.{ends_counted}

-- how many ends of the process wait
abbrev exits : ℕ → List Waiting → ℕ
exits p items = count_by (is_exit p) items

-- how often the list names the process
abbrev times : ℕ → List ℕ → ℕ
times p numbers = count_by (λ q. q == p) numbers

-- none is found only if none is there
none_there : (p : ℕ) (items : List Waiting) → length items ≤ position_or_len (is_exit p) items → exits p items ≡ 0
none_there p [] h = refl
none_there p (x ∷ xs) h =
    sum_by-cons (λ y. cond (is_exit p y) 1 0) x xs
    ∙ (elim (is_exit p x) as (λ b. suc (length xs) ≤ cond (not b) (1 + position_or_len (is_exit p) xs) 0 → cond b 1 0 + exits p xs ≡ 0) [
      | true ↦ λ k. absurd (omega (arith, k))
      | false ↦ λ k. let rest : exits p xs ≡ 0 = none_there p xs (omega (arith, k)) in omega (arith, rest)
    ]) h

-- an end of p is an end of q only where they are the same
same_exit : (p q : ℕ) (x : Waiting) → is_exit p x ≡ true → is_exit q x ≡ (p == q)
same_exit p q (waiting.Item (item.Note (note.Exit r s))) h = ap (λ (n : ℕ). n == q) (eqb-true r p h)
same_exit p q (waiting.Item (item.Note (note.Up r))) h = absurd (false≢true h)
same_exit p q (waiting.Item (item.Note (note.Ignored r))) h = absurd (false≢true h)
same_exit p q (waiting.Item (item.Note (note.Failed r s))) h = absurd (false≢true h)
same_exit p q (waiting.Item (item.Call c x)) h = absurd (false≢true h)
same_exit p q (waiting.Retry k) h = absurd (false≢true h)

-- the first end of p leaves
leaves : (p q : ℕ) (items : List Waiting) → position_or_len (is_exit p) items < length items → exits q (remove items (position_or_len (is_exit p) items)) + cond (p == q) 1 0 ≡ exits q items
leaves p q items h =
    let place : ℕ = position_or_len (is_exit p) items in
    let d : Waiting = waiting.Retry 0 in
    ap (λ (b : Bool). exits q (remove items place) + cond b 1 0) (sym (same_exit p q (get_or items place d) (passes_at_first (is_exit p) items d h)))
    ∙ sum_by-remove (λ x. cond (is_exit q x) 1 0) items place d h

-- an end for each process of the list
abbrev Enough : List ℕ → List Waiting → Type 0
Enough ps items = (q : ℕ) → times q ps ≤ exits q items

enough_from : (ps : List ℕ) (items : List Waiting) → ends_wait ps items ≡ true → Enough ps items
enough_from [] items h q = omega arith
enough_from (p ∷ ps) items h q =
    let place : ℕ = position_or_len (is_exit p) items in
    (elim (ltb place (length items)) as (λ b. ltb place (length items) ≡ b → (is_some (cond b (Some place) None) && ends_wait ps (without items (cond b (Some place) None))) ≡ true → times q (p ∷ ps) ≤ exits q items) [
      | true ↦ λ e k. let rest : times q ps ≤ exits q (remove items place) = enough_from ps (remove items place) k q in
          let gone : exits q (remove items place) + cond (p == q) 1 0 ≡ exits q items = leaves p q items (ltb-true _ _ e) in
          let more : times q (p ∷ ps) ≡ cond (p == q) 1 0 + times q ps = sum_by-cons (λ x. cond (x == q) 1 0) p ps in
          omega (arith, rest, gone, more)
      | false ↦ λ e k. absurd (false≢true k)
    ]) refl h

enough_to : (ps : List ℕ) (items : List Waiting) → Enough ps items → ends_wait ps items ≡ true
enough_to [] items h = refl
enough_to (p ∷ ps) items h =
    let place : ℕ = position_or_len (is_exit p) items in
    let here : times p (p ∷ ps) ≤ exits p items = h p in
    let one : times p (p ∷ ps) ≡ cond (p == p) 1 0 + times p ps = sum_by-cons (λ x. cond (x == p) 1 0) p ps in
    let self : (p == p) ≡ true = eq-eqb p p refl in
    (elim (ltb place (length items)) as (λ b. ltb place (length items) ≡ b → (is_some (cond b (Some place) None) && ends_wait ps (without items (cond b (Some place) None))) ≡ true) [
      | true ↦ λ e. enough_to ps (remove items place) (λ q.
          let gone : exits q (remove items place) + cond (p == q) 1 0 ≡ exits q items = leaves p q items (ltb-true _ _ e) in
          let more : times q (p ∷ ps) ≡ cond (p == q) 1 0 + times q ps = sum_by-cons (λ x. cond (x == q) 1 0) p ps in
          omega (arith, h q, gone, more))
      | false ↦ λ e. absurd (let none : exits p items ≡ 0 = none_there p items (ltb-false _ _ e) in
          let head : ◌≡◌ {A = ℕ} (cond (p == p) 1 0) 1 = ap (λ (b : Bool). cond b 1 0) self in omega (arith, here, one, head, none))
    ]) refl

-- a test at each process of the list is a test at each number
times_met : (all : List ℕ) (items : List Waiting) (ps : List ℕ) → list_all (λ p. nat_le (times p all) (exits p items)) ps ≡ true → (q : ℕ) → 0 < times q ps → times q all ≤ exits q items
times_met all items [] h q some = absurd (omega (arith, some))
times_met all items (p ∷ ps) h q some =
    let more : times q (p ∷ ps) ≡ cond (p == q) 1 0 + times q ps = sum_by-cons (λ x. cond (x == q) 1 0) p ps in
    let both : (nat_le (times p all) (exits p items) ≡ true) × (list_all (λ x. nat_le (times x all) (exits x items)) ps ≡ true) = and_parts _ _ h in
    (elim (p == q) as (λ b. (p == q) ≡ b → times q (p ∷ ps) ≡ cond b 1 0 + times q ps → times q all ≤ exits q items) [
      | true ↦ λ e m. subst (λ (n : ℕ). times n all ≤ exits n items) (eqb-true p q e) (leb-true _ _ both.0)
      | false ↦ λ e m. times_met all items ps both.1 q (omega (arith, some, m))
    ]) refl more

enough_by_test : (ps : List ℕ) (items : List Waiting) → ends_counted ps items ≡ true → Enough ps items
enough_by_test ps items h q = elim (cases_lt 0 (times q ps)) [ inl some ↦ times_met ps items ps h q some | inr none ↦ omega (arith, none) ]

test_by_enough : (all : List ℕ) (items : List Waiting) (ps : List ℕ) → Enough all items → list_all (λ p. nat_le (times p all) (exits p items)) ps ≡ true
test_by_enough all items [] h = refl
test_by_enough all items (p ∷ ps) h = and_from _ _ (le-leb _ _ (h p)) (test_by_enough all items ps h)

-- two tests with the same yes are the same
same_tests : (a b : Bool) → (a ≡ true → b ≡ true) → (b ≡ true → a ≡ true) → a ≡ b
same_tests true b h k = sym (h refl)
same_tests false true h k = k refl
same_tests false false h k = refl

-- the walk that uses each end comes through exactly where enough ends wait
pub walk_counted : (ps : List ℕ) (items : List Waiting) → ends_wait ps items ≡ ends_counted ps items
walk_counted ps items =
    same_tests (ends_wait ps items) (ends_counted ps items)
    (λ h. test_by_enough ps items ps (enough_from ps items h))
    (λ h. enough_to ps items (enough_by_test ps items h))
