-- The counts of rows.
use Rattle.std.proofs.Common.{◌≡◌, ◌+◌, ℕ, List, [], ◌∷◌, ◌∙◌, ap, arith, refl, cond}
use Rattle.std.specs.Prelude.{Bool, true, false, ◌||◌, count_by, nat_lt}
use Rattle.std.specs.List.{list_any}
use Rattle.std.proofs.lemmas.List.Sums.{sum_by-cons}
use Rattle.otp_table.specs.declared.row.Row.{Row}

at_least_one : (n : ℕ) → nat_lt 0 (1 + n) ≡ true
at_least_one n = grind arith

-- one is counted exactly where there is one
pub some_counted : (test : Row → Bool) (rows : List Row) → nat_lt 0 (count_by test rows) ≡ list_any test rows
some_counted test [] = refl
some_counted test (row ∷ rows) =
    ap (λ (n : ℕ). nat_lt 0 n) (sum_by-cons (λ (r : Row). cond (test r) 1 0) row rows)
    ∙ (elim (test row) as (λ b. nat_lt 0 (cond b 1 0 + count_by test rows) ≡ (b || list_any test rows)) [
      | true ↦ at_least_one (count_by test rows)
      | false ↦ (let bare : 0 + count_by test rows ≡ count_by test rows = omega arith in ap (λ (n : ℕ). nat_lt 0 n) bare ∙ some_counted test rows)
    ])
