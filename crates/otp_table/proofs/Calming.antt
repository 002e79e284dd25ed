-- Rows whose waiting retries are given up, one at a time.
use Rattle.std.proofs.Common.{◌≡◌, ℕ, ◌+◌, ◌-◌, ◌<◌, List, [], ◌∷◌, ◌++◌, ◌∙◌, ap, arith, append_assoc, drop, drop-set-lt, false, get_or, length, refl, set, slice_range, suc, sym, take}
use Rattle.std.specs.Prelude.{slice_get, Some}
use Rattle.std.proofs.lemmas.Bool.{false≢true}
use Rattle.std.proofs.lemmas.List.{drop_more, set-get_or, take_more_set}
use Rattle.std.proofs.lemmas.Option.{get_or_from_slice_get, slice_get_within}
use Rattle.otp_table.specs.declared.row.Row.{Row}
use Rattle.otp_table.specs.declared.row.RowState.{RowState}
use Rattle.otp_table.specs.declared.row.RowState.TheVariants.{Undefined, Starting, Up, Asked, Killed, Restarting}
use Rattle.otp_table.specs.Rows.{calm_rows, calmed, is_restarting, with_state}

abbrev calm_one : Row → Row
calm_one row = with_state (calmed row.state) row

range_more : (rows : List Row) (p to : ℕ) (d : Row) → p < to → p < length rows → slice_range rows p to ≡ get_or rows p d ∷ slice_range rows (p + 1) to
range_more rows p to d lt within =
    let left : to - p ≡ suc (to - (p + 1)) = omega (arith, lt) in
    ap (λ (n : ℕ). take n (drop p rows)) left ∙ ap (λ (xs : List Row). take (suc (to - (p + 1))) xs) (drop_more rows p d within)

-- one row further
pub calm_further : (rows after : List Row) (p to : ℕ) (row : Row) → p < to → p < length rows → get_or rows p row ≡ row → after ≡ set rows p (calm_one row)
    → take (p + 1) after ++ calm_rows (slice_range after (p + 1) to) ++ drop to after ≡ take p rows ++ calm_rows (slice_range rows p to) ++ drop to rows
calm_further rows after p to row lt within at is =
    let x : Row = calm_one row in
    let all : List Row = set rows p x in
    let first : take (p + 1) all ≡ take p rows ++ x ∷ [] = take_more_set rows p x within in
    let later : drop (p + 1) all ≡ drop (p + 1) rows = drop-set-lt (p + 1) rows p x (omega arith) in
    let rest : drop to all ≡ drop to rows = drop-set-lt to rows p x lt in
    let here : slice_range rows p to ≡ row ∷ slice_range rows (p + 1) to = range_more rows p to row lt within ∙ ap (λ (r : Row). r ∷ slice_range rows (p + 1) to) at in
    ap (λ (xs : List Row). take (p + 1) xs ++ calm_rows (slice_range xs (p + 1) to) ++ drop to xs) is
    ∙ ap (λ (xs : List Row). xs ++ calm_rows (slice_range all (p + 1) to) ++ drop to all) first
    ∙ ap (λ (xs : List Row). (take p rows ++ x ∷ []) ++ calm_rows (take (to - (p + 1)) xs) ++ drop to all) later
    ∙ ap (λ (xs : List Row). (take p rows ++ x ∷ []) ++ calm_rows (slice_range rows (p + 1) to) ++ xs) rest
    ∙ ap (λ (xs : List Row). xs ++ drop to rows) (append_assoc (take p rows) (x ∷ []) (calm_rows (slice_range rows (p + 1) to)))
    ∙ sym (ap (λ (xs : List Row). take p rows ++ calm_rows xs ++ drop to rows) here)

-- the row at a place
pub got : (rows : List Row) (p : ℕ) (row : Row) → slice_get rows p ≡ Some row → (p < length rows) × (get_or rows p row ≡ row)
got rows p row e = (slice_get_within rows p row e, get_or_from_slice_get rows p row row e)

calmed_same : (s : RowState) → is_restarting s ≡ false → calmed s ≡ s
calmed_same Undefined calm = refl
calmed_same (Starting p k) calm = refl
calmed_same (Up p) calm = refl
calmed_same (Asked p t) calm = refl
calmed_same (Killed p) calm = refl
calmed_same (Restarting k) calm = absurd (false≢true (sym calm))

-- a row that awaits no retry is calm already
pub calm_already : (rows : List Row) (p : ℕ) (row : Row) → get_or rows p row ≡ row → is_restarting row.state ≡ false → rows ≡ set rows p (calm_one row)
calm_already rows p row at calm =
    sym (set-get_or rows p row)
    ∙ ap (λ (r : Row). set rows p r) (at ∙ ap (λ (s : RowState). with_state s row) (sym (calmed_same row.state calm)))
