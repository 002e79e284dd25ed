-- The first rows, of which none is undefined.
use Rattle.std.proofs.Common.{◌≡◌, ℕ, ◌+◌, ◌<◌, ◌≤◌, List, [], ◌∷◌, ◌++◌, ◌∙◌, ap, arith, get_or, inl, inr, length, refl, set, subst, suc, sym, zero}
use Rattle.std.specs.List.{remove}
use Rattle.std.proofs.lemmas.Bool.{cases_lt}
use Rattle.std.proofs.lemmas.List.{get_or_append_left, get_or-set_other, length-set}
use Rattle.otp_table.specs.declared.row.Row.{Row}
use Rattle.otp_table.specs.Rows.{AreDefined, AreDefinedBut, is_undefined}

-- one row is another
pub set_but : (rows : List Row) (place n : ℕ) (row : Row) → AreDefined n rows → AreDefinedBut place n (set rows place row)
set_but rows place n row defined k d lt within other =
    ap (λ (r : Row). is_undefined r.state) (get_or-set_other rows place k row d other) ∙ defined k d lt (omega (arith, length-set rows place row, within))

-- one row more
pub pushed_defined : (rows all : List Row) (n m : ℕ) (row : Row) → all ≡ rows ++ row ∷ [] → AreDefined n rows → m ≤ n → m ≤ length rows → AreDefined m all
pushed_defined rows all n m row is defined less few =
    subst (AreDefined m) (sym is) (λ k d lt within.
    ap (λ (r : Row). is_undefined r.state) (get_or_append_left rows (row ∷ []) d k (omega (arith, lt, few))) ∙ defined k d (omega (arith, lt, less)) (omega (arith, lt, few)))

pub removed_first : (rows : List Row) (p k : ℕ) (d : Row) → k < p → get_or (remove rows p) k d ≡ get_or rows k d
removed_first [] zero k d h = refl
removed_first [] (suc p) k d h = refl
removed_first (r ∷ rows) zero k d h = absurd (omega (arith, h))
removed_first (r ∷ rows) (suc p) zero d h = refl
removed_first (r ∷ rows) (suc p) (suc k) d h = removed_first rows p k d (omega (arith, h))

pub removed_later : (rows : List Row) (p k : ℕ) (d : Row) → p ≤ k → get_or (remove rows p) k d ≡ get_or rows (suc k) d
removed_later [] zero k d h = refl
removed_later [] (suc p) k d h = refl
removed_later (r ∷ rows) zero k d h = refl
removed_later (r ∷ rows) (suc p) zero d h = absurd (omega (arith, h))
removed_later (r ∷ rows) (suc p) (suc k) d h = removed_later rows p k d (omega (arith, h))

-- one row less
pub removed_defined : (rows all : List Row) (p n m : ℕ) → all ≡ remove rows p → length all + 1 ≡ length rows → AreDefined n rows → m ≤ n → (p < n → m + 1 ≡ n) → AreDefined m all
removed_defined rows all p n m is long defined less gone k d lt within =
    elim (cases_lt k p) [
      | inl below ↦ ap (λ (xs : List Row). is_undefined (get_or xs k d).state) is ∙ ap (λ (r : Row). is_undefined r.state) (removed_first rows p k d below) ∙ defined k d (omega (arith, lt, less)) (omega (arith, within, long))
      | inr above ↦ let one_less : m + 1 ≡ n = gone (omega (arith, above, lt, less)) in
          ap (λ (xs : List Row). is_undefined (get_or xs k d).state) is ∙ ap (λ (r : Row). is_undefined r.state) (removed_later rows p k d above)
          ∙ defined (suc k) d (omega (arith, lt, one_less)) (omega (arith, within, long))
    ]
