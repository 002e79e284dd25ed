-- The counts of rows, from one change to the next.
use Rattle.std.proofs.Common.{◌≡◌, ℕ, ◌+◌, ◌-◌, ◌<◌, ◌==◌, List, ◌∙◌, ap, arith, cond, get_or, length}
use Rattle.std.specs.Prelude.{Bool, count_by}
use Rattle.std.specs.List.{remove, sum_by}
use Rattle.std.proofs.lemmas.List.Sums.{sum_by-remove}
use Rattle.otp_table.specs.declared.row.Row.{Row}
use Rattle.otp_table.specs.Counted.{AreOfKinds, HasOneLess, is_of, kind_of}

abbrev one : (Row → Bool) → Row → ℕ
one test row = cond (test row) 1 0

abbrev bit : Bool → ℕ
bit b = cond b 1 0

-- one row less
pub removed_counted : (test : Row → Bool) (rows : List Row) (p : ℕ) (d : Row) (n m : ℕ) (before : Bool) → p < length rows → n ≡ count_by test rows → before ≡ test (get_or rows p d)
    → m ≡ n - bit before + 0 → m ≡ count_by test (remove rows p)
removed_counted test rows p d n m before within is was changed =
    let rest : sum_by (one test) (remove rows p) + one test (get_or rows p d) ≡ sum_by (one test) rows = sum_by-remove (one test) rows p d within in
    let b : bit before ≡ one test (get_or rows p d) = ap bit was in
    omega (arith, rest, is, b, changed)

-- the same of each kind
pub removed_kinds : (rows : List Row) (p : ℕ) (d : Row) (old new : List ℕ) (k : ℕ) → p < length rows → d ≡ get_or rows p d → k ≡ kind_of d.state → AreOfKinds old rows
    → HasOneLess k old new → AreOfKinds new (remove rows p)
removed_kinds rows p d old new k within here is of less kind few =
    let l : get_or new kind 0 ≡ get_or old kind 0 - bit (k == kind) = less kind few in
    let was : (k == kind) ≡ is_of kind (get_or rows p d) = ap (λ (n : ℕ). n == kind) is ∙ ap (is_of kind) here in
    removed_counted (is_of kind) rows p d (get_or old kind 0) (get_or new kind 0) (k == kind) within (of kind few) was (omega (arith, l))
