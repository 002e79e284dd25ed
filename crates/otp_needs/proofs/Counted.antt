-- What tests of each row, and of each process that is to be stopped, say of all processes.
use Rattle.std.proofs.Common.{◌≡◌, ◌+◌, ◌<◌, ◌≤◌, ◌==◌, ◌&&◌, ℕ, Bool, true, false, cond, List, [], ◌∷◌, All, ap, arith, get_or, inl, inr, length, nat_le, refl, reverse, subst, sym, ⊎_elim, ◌∙◌}
use Rattle.std.proofs.lemmas.Bool.{and_from, and_parts, cases_Bool, eq-eqb, eqb-true, false≢true, le-leb, leb-false, leb-true}
use Rattle.std.specs.Prelude.{◌⊎◌}
use Prim.Native.Nat.{suc, zero}
use Rattle.std.proofs.lemmas.List.{length-reverse, nil_from_length}
use Rattle.std.proofs.lemmas.List.Elements.{All-head, All-tail}
use Rattle.std.proofs.lemmas.List.Sorted.{sum_by-IsPermutation, IsPermutation-reverse}
use Rattle.std.proofs.lemmas.List.Sums.{sum_by-cons}
use Rattle.otp_table.specs.declared.row.Row.{Row}
use Rattle.otp_table.specs.declared.row.RowState.{RowState}
use Rattle.otp_table.specs.declared.row.RowState.TheVariants.{Undefined, Starting, Up, Asked, Killed, Restarting}
use Rattle.otp_table.specs.Rows.{has_process, row_has}
use Rattle.otp_rules.specs.Fit.{rows_in, runs_as, times, IsCovered}
use Rattle.otp_needs.specs.Order.{given_in, is_covered, is_given, is_lone, is_to_stop, stops}

times-cons : (q p : ℕ) (ps : List ℕ) → times q (p ∷ ps) ≡ cond (p == q) 1 0 + times q ps
times-cons q p ps = sum_by-cons (λ x. cond (x == q) 1 0) p ps

rows_in-cons : (t : RowState → Bool) (row : Row) (rows : List Row) → rows_in t (row ∷ rows) ≡ cond (t row.state) 1 0 + rows_in t rows
rows_in-cons t row rows = sum_by-cons (λ (r : Row). cond (row_has t r) 1 0) row rows

times-reverse : (q : ℕ) (ps : List ℕ) → times q (reverse ps) ≡ times q ps
times-reverse q ps = sum_by-IsPermutation (λ x. cond (x == q) 1 0) ps (reverse ps) (IsPermutation-reverse ps)

no_count : (b : Bool) → b ≡ false → ◌≡◌ {A = ℕ} (cond b 1 0) 0
no_count b h = ap (λ (x : Bool). cond {A = ℕ} x 1 0) h

-- what holds of each number in a list holds of one that stands there
of_number : (P : ℕ → Type 0) (ps : List ℕ) (q : ℕ) → All P ps → 0 < times q ps → P q
of_number P [] q h some = absurd (omega (arith, some))
of_number P (p ∷ ps) q h some =
    ⊎_elim
    (λ (same : (p == q) ≡ true). subst P (eqb-true p q same) (All-head P p ps h))
    (λ (other : (p == q) ≡ false). of_number P ps q (All-tail P p ps h) (omega (arith, some, times-cons q p ps, no_count (p == q) other)))
    (cases_Bool (p == q))

-- of each row, of one that passes a test
of_row : (P : Row → Type 0) (Q : Type 0) (t : RowState → Bool) (rows : List Row) → ((row : Row) → P row → t row.state ≡ true → Q) → All P rows → 0 < rows_in t rows → Q
of_row P Q t [] found h some = absurd (omega (arith, some))
of_row P Q t (row ∷ rows) found h some =
    ⊎_elim
    (λ (passes : t row.state ≡ true). found row (All-head P row rows h) passes)
    (λ (other : t row.state ≡ false). of_row P Q t rows found (All-tail P row rows h) (omega (arith, some, rows_in-cons t row rows, no_count (t row.state) other)))
    (cases_Bool (t row.state))

zero_or_some : (n : ℕ) → (n ≡ 0) ⊎ (0 < n)
zero_or_some zero = inl refl
zero_or_some (suc n) = inr (omega arith)

pub covered_all : (ps : List ℕ) (rows : List Row) → All (λ p. is_covered ps rows p ≡ true) ps → IsCovered (reverse ps) rows
unfolding is_covered
covered_all ps rows h q =
    let Less : ℕ → Type 0 = λ p. is_covered ps rows p ≡ true in
    ⊎_elim
    (λ (none : times q ps ≡ 0). omega (arith, none, times-reverse q ps))
    (λ (some : 0 < times q ps). let less : times q ps ≤ rows_in (runs_as q) rows = leb-true _ _ (of_number Less ps q h some) in omega (arith, less, times-reverse q ps))
    (zero_or_some (times q ps))

pub all_covered : (ps : List ℕ) (rows : List Row) → IsCovered (reverse ps) rows → All (λ p. is_covered ps rows p ≡ true) ps
unfolding is_covered
all_covered ps rows h k d within = le-leb _ _ (let less : times (get_or ps k d) (reverse ps) ≤ rows_in (runs_as (get_or ps k d)) rows = h (get_or ps k d) in omega (arith, less, times-reverse (get_or ps k d) ps))

stops_it : (ps : List ℕ) (rows : List Row) (q : ℕ) (state : RowState) → stops ps rows state ≡ true → runs_as q state ≡ true → rows_in (runs_as q) rows ≤ times q ps
stops_it ps rows q (Up p) h runs = subst (λ (n : ℕ). rows_in (runs_as n) rows ≤ times n ps) (eqb-true p q runs) (leb-true _ _ h)
stops_it ps rows q Undefined h runs = absurd (false≢true runs)
stops_it ps rows q (Starting _ _) h runs = absurd (false≢true runs)
stops_it ps rows q (Asked _ _) h runs = absurd (false≢true runs)
stops_it ps rows q (Killed _) h runs = absurd (false≢true runs)
stops_it ps rows q (Restarting _) h runs = absurd (false≢true runs)

pub stopped_all : (ps : List ℕ) (rows : List Row) → All (λ row. is_to_stop ps rows row ≡ true) rows → (q : ℕ) → rows_in (runs_as q) rows ≤ times q (reverse ps)
stopped_all ps rows h q =
    let Stops : Row → Type 0 = λ row. is_to_stop ps rows row ≡ true in
    ⊎_elim
    (λ (none : rows_in (runs_as q) rows ≡ 0). omega (arith, none))
    (λ (some : 0 < rows_in (runs_as q) rows).
    let less : rows_in (runs_as q) rows ≤ times q ps = of_row Stops (rows_in (runs_as q) rows ≤ times q ps) (runs_as q) rows (λ row stops runs. stops_it ps rows q row.state stops runs) h some in
    omega (arith, less, times-reverse q ps))
    (zero_or_some (rows_in (runs_as q) rows))

stops_each : (ps : List ℕ) (rows : List Row) (state : RowState) → ((q : ℕ) → rows_in (runs_as q) rows ≤ times q (reverse ps)) → stops ps rows state ≡ true
stops_each ps rows (Up p) h = le-leb _ _ (let less : rows_in (runs_as p) rows ≤ times p (reverse ps) = h p in omega (arith, less, times-reverse p ps))
stops_each ps rows Undefined h = refl
stops_each ps rows (Starting _ _) h = refl
stops_each ps rows (Asked _ _) h = refl
stops_each ps rows (Killed _) h = refl
stops_each ps rows (Restarting _) h = refl

pub all_stopped : (ps : List ℕ) (rows : List Row) → ((q : ℕ) → rows_in (runs_as q) rows ≤ times q (reverse ps)) → All (λ row. is_to_stop ps rows row ≡ true) rows
all_stopped ps rows h k d within = stops_each ps rows (get_or rows k d).state h

-- the process is one child's, and given
abbrev Given : ℕ → List Row → ℕ → Type 0
Given greatest rows q = (q ≤ greatest) × (rows_in (has_process q) rows ≤ 1)

given_parts : (greatest : ℕ) (rows : List Row) (p q : ℕ) → is_given greatest rows p ≡ true → (p == q) ≡ true → Given greatest rows q
given_parts greatest rows p q h same =
    let parts = and_parts (nat_le p greatest) (nat_le (rows_in (has_process p) rows) 1) h in
    subst (λ (n : ℕ). Given greatest rows n) (eqb-true p q same) (leb-true _ _ parts.0, leb-true _ _ parts.1)

given_it : (greatest : ℕ) (rows : List Row) (q : ℕ) (state : RowState) → given_in greatest rows state ≡ true → has_process q state ≡ true → Given greatest rows q
given_it greatest rows q Undefined h has = absurd (false≢true has)
given_it greatest rows q (Starting p _) h has = given_parts greatest rows p q h has
given_it greatest rows q (Up p) h has = given_parts greatest rows p q h has
given_it greatest rows q (Asked p _) h has = given_parts greatest rows p q h has
given_it greatest rows q (Killed p) h has = given_parts greatest rows p q h has
given_it greatest rows q (Restarting _) h has = absurd (false≢true has)

-- each process is one child's at most, and greater numbers are no child's
abbrev pub AreApart : ℕ → List Row → Type 0
AreApart greatest rows = ((q : ℕ) → rows_in (has_process q) rows ≤ 1) × ((q : ℕ) → greatest + 1 ≤ q → rows_in (has_process q) rows ≡ 0)

pub lone_all : (greatest : ℕ) (rows : List Row) → All (λ row. is_lone greatest rows row ≡ true) rows → AreApart greatest rows
lone_all greatest rows h =
    let Lone : Row → Type 0 = λ row. is_lone greatest rows row ≡ true in
    let found : (q : ℕ) → 0 < rows_in (has_process q) rows → Given greatest rows q =
    λ q some. of_row Lone (Given greatest rows q) (has_process q) rows (λ row lone has. given_it greatest rows q row.state lone has) h some in (
      (λ q. ⊎_elim (λ (none : rows_in (has_process q) rows ≡ 0). omega (arith, none)) (λ (some : 0 < rows_in (has_process q) rows). (found q some).1) (zero_or_some (rows_in (has_process q) rows))),
      (λ q above. ⊎_elim (λ (none : rows_in (has_process q) rows ≡ 0). none) (λ (some : 0 < rows_in (has_process q) rows). absurd (omega (arith, above, (found q some).0))) (zero_or_some (rows_in (has_process q) rows))),
    )

-- a row that passes a test is counted
stands : (t : RowState → Bool) (rows : List Row) (k : ℕ) (d : Row) → k < length rows → t (get_or rows k d).state ≡ true → 0 < rows_in t rows
stands t [] k d within passes = absurd (omega (arith, within))
stands t (row ∷ rows) zero d within passes =
    let one : ◌≡◌ {A = ℕ} (cond (t row.state) 1 0) 1 = ap (λ (x : Bool). cond {A = ℕ} x 1 0) passes in
    omega (arith, one, rows_in-cons t row rows)
stands t (row ∷ rows) (suc k) d within passes = omega (arith, rows_in-cons t row rows, stands t rows k d (omega (arith, within)) passes)

is_given_so : (greatest : ℕ) (rows : List Row) (p : ℕ) → AreApart greatest rows → 0 < rows_in (has_process p) rows → is_given greatest rows p ≡ true
is_given_so greatest rows p h some =
    let low : nat_le p greatest ≡ true =
    ⊎_elim (λ (yes : nat_le p greatest ≡ true). yes)
    (λ (no : nat_le p greatest ≡ false). absurd (let above : greatest < p = leb-false p greatest no in let none : rows_in (has_process p) rows ≡ 0 = h.1 p (omega (arith, above)) in omega (arith, none, some)))
    (cases_Bool (nat_le p greatest)) in
    and_from _ _ low (le-leb _ _ (h.0 p))

given_each : (greatest : ℕ) (rows : List Row) (state : RowState) → AreApart greatest rows → ((q : ℕ) → has_process q state ≡ true → 0 < rows_in (has_process q) rows) → given_in greatest rows state ≡ true
given_each greatest rows Undefined h some = refl
given_each greatest rows (Starting p _) h some = is_given_so greatest rows p h (some p (eq-eqb p p refl))
given_each greatest rows (Up p) h some = is_given_so greatest rows p h (some p (eq-eqb p p refl))
given_each greatest rows (Asked p _) h some = is_given_so greatest rows p h (some p (eq-eqb p p refl))
given_each greatest rows (Killed p) h some = is_given_so greatest rows p h (some p (eq-eqb p p refl))
given_each greatest rows (Restarting _) h some = refl

pub all_lone : (greatest : ℕ) (rows : List Row) → AreApart greatest rows → All (λ row. is_lone greatest rows row ≡ true) rows
all_lone greatest rows h k d within = given_each greatest rows (get_or rows k d).state h (λ q has. stands (has_process q) rows k d within has)

pub none_back : {X : Type 0} → (xs : List X) → reverse xs ≡ [] → xs ≡ []
none_back xs h = nil_from_length xs (omega (arith, length-reverse xs, ap (λ ys. length ys) h))

pub none_reversed : {X : Type 0} → (xs : List X) → xs ≡ [] → reverse xs ≡ []
none_reversed xs h = nil_from_length (reverse xs) (omega (arith, length-reverse xs, ap (λ ys. length ys) h))
