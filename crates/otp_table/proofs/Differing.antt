-- Numbers of rows that differ, from one change to the next.
use Rattle.std.proofs.Common.{◌≡◌, ℕ, ◌<◌, ◌≤◌, ◌⊎◌, List, ◌++◌, ◌∷◌, [], ◌∙◌, sym, Option, None, Some, ap, arith, get_or, length, refl, subst, suc, inl, inr, set}
use Rattle.std.specs.Prelude.{Bool, false, true, cond, nat_lt, position}
use Rattle.std.specs.List.{list_any, position_or_len, remove}
use Rattle.std.proofs.lemmas.Bool.{both_ways, cases_lt, false_from_ne_true, lt-ltb}
use Rattle.std.proofs.lemmas.List.Folds.{list_any_at}
use Rattle.std.proofs.lemmas.List.Sums.{position_or_len_is}
use Rattle.otp_table.specs.declared.row.Row.{Row}
use Rattle.otp_table.specs.Marks.{number_at, number_key}
use Rattle.otp_table.specs.Rows.{has_number, row_has}
use Rattle.otp_table.specs.Numbers.{AreApart, AreWithin, IsBound, IsOnlyAt}
use Rattle.otp_table.proofs.Indexed.{Tells, key_get, key_within, none_some, numbered_passes, pushed_at, pushed_other, removed_above, removed_below, same_or, set_at, set_other, some_is}

-- where one place has another number, which stands nowhere else
changed_apart : (f g : ℕ → Option ℕ) (place : ℕ) (new : Option ℕ) → AreApart f → IsOnlyAt place new f → g place ≡ new → ((q : ℕ) → (q ≡ place → ⊥) → g q ≡ f q) → AreApart g
changed_apart f g place new apart only is same p q n ep eq =
    elim (same_or p place) [
      | inl at ↦ elim (same_or q place) [
        | inl here ↦ at ∙ sym here
        | inr other ↦ at ∙ sym (only q n (sym is ∙ sym (ap g at) ∙ ep) (sym (same q other) ∙ eq))
      ]
      | inr other ↦ elim (same_or q place) [
        | inl here ↦ only p n (sym is ∙ sym (ap g here) ∙ eq) (sym (same p other) ∙ ep) ∙ sym here
        | inr there ↦ apart p q n (sym (same p other) ∙ ep) (sym (same q there) ∙ eq)
      ]
    ]

changed_within : (f g : ℕ → Option ℕ) (place before after : ℕ) (new : Option ℕ) → AreWithin before f → IsBound before new after → g place ≡ new → ((q : ℕ) → (q ≡ place → ⊥) → g q ≡ f q) → AreWithin after g
changed_within f g place before after new within bound is same p n e =
    elim (same_or p place) [
      | inl at ↦ bound.1 n (sym is ∙ sym (ap g at) ∙ e)
      | inr other ↦ let le : n ≤ before = within p n (sym (same p other) ∙ e) in omega (arith, le, bound.0)
    ]

-- of rows where one is another
pub set_apart : (rows : List Row) (p : ℕ) (row : Row) (new : Option ℕ) → p < length rows → new ≡ number_key row → AreApart (number_at rows) → IsOnlyAt p new (number_at rows) → AreApart (number_at (set rows p row))
set_apart rows p row new lt has apart only =
    changed_apart (number_at rows) (number_at (set rows p row)) p new apart only (set_at number_key rows p row lt ∙ sym has) (λ q other. set_other number_key rows p row q other)

pub set_within : (rows : List Row) (p : ℕ) (row : Row) (new : Option ℕ) (before after : ℕ) → p < length rows → new ≡ number_key row → AreWithin before (number_at rows) → IsBound before new after → AreWithin after (number_at (set rows p row))
set_within rows p row new before after lt has within bound =
    changed_within (number_at rows) (number_at (set rows p row)) p before after new within bound (set_at number_key rows p row lt ∙ sym has) (λ q other. set_other number_key rows p row q other)

-- of rows with one more, the last
pub pushed_apart : (rows all : List Row) (row : Row) (p : ℕ) (new : Option ℕ) → all ≡ rows ++ row ∷ [] → p ≡ length rows → new ≡ number_key row → AreApart (number_at rows) → IsOnlyAt p new (number_at rows) → AreApart (number_at all)
pushed_apart rows all row p new is last has apart only =
    subst (λ (xs : List Row). AreApart (number_at xs)) (sym is)
    (changed_apart (number_at rows) (number_at (rows ++ row ∷ [])) p new apart only (ap (number_at (rows ++ row ∷ [])) last ∙ pushed_at number_key rows row ∙ sym has)
    (λ q other. pushed_other number_key rows row q (λ e. other (e ∙ sym last))))

pub pushed_within : (rows all : List Row) (row : Row) (new : Option ℕ) (before after : ℕ) → all ≡ rows ++ row ∷ [] → new ≡ number_key row → AreWithin before (number_at rows) → IsBound before new after → AreWithin after (number_at all)
pushed_within rows all row new before after is has within bound =
    subst (λ (xs : List Row). AreWithin after (number_at xs)) (sym is)
    (changed_within (number_at rows) (number_at (rows ++ row ∷ [])) (length rows) before after new within bound (pushed_at number_key rows row ∙ sym has) (λ q other. pushed_other number_key rows row q other))

-- of rows where one was taken out: where the row at a place stood before
abbrev was_at : ℕ → ℕ → ℕ → Type 0
was_at p q k = ((q < p) × (k ≡ q)) ⊎ ((p ≤ q) × (k ≡ suc q))

stood : (rows : List Row) (p q n : ℕ) → number_at (remove rows p) q ≡ Some n → (k : ℕ) × (was_at p q k × (number_at rows k ≡ Some n))
stood rows p q n e =
    elim (cases_lt q p) [
      | inl lt ↦ (q, (inl (lt, refl), sym (removed_below number_key rows p q lt) ∙ e))
      | inr ge ↦ (suc q, (inr (ge, refl), sym (removed_above number_key rows p q ge) ∙ e))
    ]

one_place : (p q r k l : ℕ) → was_at p q k → was_at p r l → k ≡ l → q ≡ r
one_place p q r k l (inl a) (inl b) e = omega (arith, a.1, b.1, e)
one_place p q r k l (inl a) (inr b) e = omega (arith, a.0, a.1, b.0, b.1, e)
one_place p q r k l (inr a) (inl b) e = omega (arith, a.0, a.1, b.0, b.1, e)
one_place p q r k l (inr a) (inr b) e = omega (arith, a.1, b.1, e)

pub removed_apart : (rows all : List Row) (p : ℕ) → all ≡ remove rows p → AreApart (number_at rows) → AreApart (number_at all)
removed_apart rows all p is apart =
    subst (λ (xs : List Row). AreApart (number_at xs)) (sym is)
    (λ q r n eq er.
    let one = stood rows p q n eq in
    let other = stood rows p r n er in
    one_place p q r one.0 other.0 one.1.0 other.1.0 (apart one.0 other.0 n one.1.1 other.1.1))

pub removed_within : (rows all : List Row) (p greatest : ℕ) → all ≡ remove rows p → AreWithin greatest (number_at rows) → AreWithin greatest (number_at all)
removed_within rows all p greatest is within =
    subst (λ (xs : List Row). AreWithin greatest (number_at xs)) (sym is)
    (λ q n e. let there = stood rows p q n e in within there.0 n there.1.1)

-- a number above all stands nowhere
pub above_all : (greatest place number : ℕ) (f : ℕ → Option ℕ) → AreWithin greatest f → greatest < number → IsOnlyAt place (Some number) f
above_all greatest place number f within above q n is e =
    let le : n ≤ greatest = within q n e in
    let same : number ≡ n = some_is number n is in
    absurd (omega (arith, le, same, above))

-- one that stands at the place already stands nowhere else
pub at_place : (place number : ℕ) (old : Option ℕ) (f : ℕ → Option ℕ) → AreApart f → old ≡ f place → old ≡ Some number → IsOnlyAt place (Some number) f
at_place place number old f apart was has q n is e = apart q place n e (sym was ∙ has ∙ is)

has_at : (rows : List Row) (number q : ℕ) (d : Row) → number_at rows q ≡ Some number → list_any (row_has (has_number number)) rows ≡ true
has_at rows number q d e =
    let lt : q < length rows = key_within number_key rows q number e in
    list_any_at (row_has (has_number number)) rows q d lt (numbered_passes number (get_or rows q d).state (sym (key_get number_key rows q d lt) ∙ e))

-- one that no row has stands nowhere
pub at_none : (rows : List Row) (place number : ℕ) → list_any (row_has (has_number number)) rows ≡ false → IsOnlyAt place (Some number) (number_at rows)
at_none [] place number none q n is e = absurd (none_some n e)
at_none (row ∷ rows) place number none q n is e = absurd (both_ways _ none (has_at (row ∷ rows) number q row (e ∙ sym is)))

-- the row that has the number is the first that passes
apart_at : (test : Row → Bool) (n p : ℕ) (rows : List Row) (d : Row) → AreApart (number_at rows) → Tells number_key test n → p < length rows → test (get_or rows p d) ≡ true → position test rows ≡ Some p
apart_at test n p rows d apart tells lt passes =
    let has : number_at rows p ≡ Some n = key_get number_key rows p d lt ∙ tells (get_or rows p d) passes in
    let first : position_or_len test rows ≡ p = position_or_len_is test rows p d (omega (arith, lt))
    (λ k less. false_from_ne_true _ (λ e. let also : number_at rows k ≡ Some n = key_get number_key rows k d (omega (arith, less, lt)) ∙ tells (get_or rows k d) e in
    let same : k ≡ p = apart k p n also has in omega (arith, same, less)))
    (λ _. passes) in
    ap (λ (i : ℕ). cond (nat_lt i (length rows)) (Some i) None) first ∙ ap (λ (b : Bool). cond b (Some p) None) (lt-ltb p (length rows) lt)

pub first_apart : (test : Row → Bool) (n p : ℕ) (rows : List Row) → AreApart (number_at rows) → Tells number_key test n → p < length rows → ((d : Row) → test (get_or rows p d) ≡ true) → position test rows ≡ Some p
first_apart test n p [] apart tells lt passes = absurd (omega (arith, lt))
first_apart test n p (row ∷ rows) apart tells lt passes = apart_at test n p (row ∷ rows) row apart tells lt (passes row)
