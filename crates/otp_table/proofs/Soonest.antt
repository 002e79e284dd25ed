-- A bound of the deadlines of rows, from one change to the next.
use Rattle.std.proofs.Common.{◌≡◌, ℕ, ◌+◌, ◌≤◌, List, [], ◌∷◌, ◌++◌, ◌∙◌, ap, arith, cond, get_or, inl, inr, length, refl, set, subst, suc, sym}
use Rattle.std.specs.Prelude.{Bool, true, false, count_by, None, Some}
use Rattle.std.specs.List.{remove, sum_by}
use Rattle.std.proofs.lemmas.Bool.{both_ways, cases_lt, le-ltb, ltb-false}
use Rattle.std.proofs.lemmas.List.{get_or_append_left, get_or-set_other, get_or-set_same, length-append, length-set}
use Rattle.std.proofs.lemmas.List.Sums.{get_or-le-sum_by}
use Rattle.otp_table.specs.declared.row.Row.{Row}
use Rattle.otp_table.specs.declared.row.RowState.{RowState}
use Rattle.otp_table.specs.declared.row.RowState.TheVariants.{Undefined, Starting, Up, Asked, Killed, Restarting}
use Rattle.otp_table.specs.Deadlines.{AreNotBefore, is_before}
use Rattle.otp_table.specs.Rows.{is_timed, row_has}
use Rattle.otp_table.proofs.Defined.{removed_first, removed_later}

-- a state that has no deadline has none before any moment
untimed : (s : ℕ) (state : RowState) → is_timed state ≡ false → is_before s state ≡ false
untimed s Undefined off = refl
untimed s (Starting p k) off = refl
untimed s (Up p) off = refl
untimed s (Asked p None) off = refl
untimed s (Asked p (Some t)) off = absurd (both_ways true off refl)
untimed s (Killed p) off = refl
untimed s (Restarting k) off = refl

-- nor has one that has none before a later moment
pub sooner : (s t : ℕ) (state : RowState) → t ≤ s → is_before s state ≡ false → is_before t state ≡ false
sooner s t Undefined le off = refl
sooner s t (Starting p k) le off = refl
sooner s t (Up p) le off = refl
sooner s t (Asked p None) le off = refl
sooner s t (Asked p (Some u)) le off = (let least : s ≤ u = ltb-false u s off in le-ltb u t (omega (arith, least, le)))
sooner s t (Killed p) le off = refl
sooner s t (Restarting k) le off = refl

abbrev one : (Row → Bool) → Row → ℕ
one test row = cond (test row) 1 0

no_bit : (b : Bool) → cond b 1 0 ≤ 0 → b ≡ false
no_bit true few = absurd (omega (arith, few))
no_bit false few = refl

-- where no row has a deadline, none has one before any moment
pub none_before : (s : ℕ) (rows : List Row) → count_by (row_has is_timed) rows ≡ 0 → AreNotBefore s rows
none_before s rows none k d within =
    let most : one (row_has is_timed) (get_or rows k d) ≤ sum_by (one (row_has is_timed)) rows = get_or-le-sum_by (one (row_has is_timed)) rows k d within in
    untimed s (get_or rows k d).state (no_bit (is_timed (get_or rows k d).state) (omega (arith, most, none)))

-- one row is another
pub set_before : (rows : List Row) (place s t : ℕ) (row : Row) → t ≤ s → is_before t row.state ≡ false → AreNotBefore s rows → AreNotBefore t (set rows place row)
set_before rows place s t row le own are k d within =
    let long : length (set rows place row) ≡ length rows = length-set rows place row in
    let there : (k ≡ place → ⊥) → is_before t (get_or (set rows place row) k d).state ≡ false =
    λ other. ap (λ (r : Row). is_before t r.state) (get_or-set_other rows place k row d other) ∙ sooner s t (get_or rows k d).state le (are k d (omega (arith, within, long))) in
    elim (cases_lt k place) [
      | inl below ↦ there (λ e. omega (arith, e, below))
      | inr above ↦ elim (cases_lt place k) [
        | inl over ↦ there (λ e. omega (arith, e, over))
        | inr least ↦ (let same : k ≡ place = omega (arith, above, least) in
            ap (λ (n : ℕ). is_before t (get_or (set rows place row) n d).state) same
            ∙ ap (λ (r : Row). is_before t r.state) (get_or-set_same rows place row d (omega (arith, within, long, same))) ∙ own)
      ]
    ]

at_end : (rows : List Row) (row d : Row) → get_or (rows ++ row ∷ []) (length rows) d ≡ row
at_end [] row d = refl
at_end (r ∷ rows) row d = at_end rows row d

-- one row more
pub pushed_before : (rows all : List Row) (s t : ℕ) (row : Row) → all ≡ rows ++ row ∷ [] → t ≤ s → is_before t row.state ≡ false → AreNotBefore s rows → AreNotBefore t all
pushed_before rows all s t row is le own are =
    let long : length (rows ++ row ∷ []) ≡ length rows + 1 = length-append rows (row ∷ []) in
    subst (AreNotBefore t) (sym is) (λ k d within. elim (cases_lt k (length rows)) [
      | inl below ↦ ap (λ (r : Row). is_before t r.state) (get_or_append_left rows (row ∷ []) d k below) ∙ sooner s t (get_or rows k d).state le (are k d below)
      | inr above ↦ (let last : k ≡ length rows = omega (arith, within, long, above) in
          ap (λ (n : ℕ). is_before t (get_or (rows ++ row ∷ []) n d).state) last ∙ ap (λ (r : Row). is_before t r.state) (at_end rows row d) ∙ own)
    ])

-- one row less
pub removed_before : (rows all : List Row) (p s : ℕ) → all ≡ remove rows p → length all + 1 ≡ length rows → AreNotBefore s rows → AreNotBefore s all
removed_before rows all p s is long are k d within =
    ap (λ (xs : List Row). is_before s (get_or xs k d).state) is
    ∙ (elim (cases_lt k p) [
      | inl below ↦ ap (λ (r : Row). is_before s r.state) (removed_first rows p k d below) ∙ are k d (omega (arith, within, long))
      | inr above ↦ ap (λ (r : Row). is_before s r.state) (removed_later rows p k d above) ∙ are (suc k) d (omega (arith, within, long))
    ])
