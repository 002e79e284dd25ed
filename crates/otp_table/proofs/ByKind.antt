-- What is asked of rows, by the kinds of their states.
use Rattle.std.proofs.Common.{◌≡◌, ℕ, ◌+◌, ◌==◌, List, [], ◌∷◌, arith, cond, refl}
use Rattle.std.specs.Prelude.{Bool, count_by, None, Some}
use Rattle.std.proofs.lemmas.List.Sums.{sum_by-cons}
use Rattle.otp_table.specs.declared.row.Row.{Row}
use Rattle.otp_table.specs.declared.row.RowState.{RowState}
use Rattle.otp_table.specs.declared.row.RowState.TheVariants.{Undefined, Starting, Up, Asked, Killed, Restarting}
use Rattle.otp_table.specs.Counted.{is_of, kind_of}
use Rattle.otp_table.specs.Rows.{is_active, is_awaited, is_timed, is_undefined, row_has}

abbrev bit : Bool → ℕ
bit b = cond b 1 0

-- rows that pass one test where they pass the other
same_count : (f g : Row → Bool) → ((row : Row) → bit (f row) ≡ bit (g row)) → (rows : List Row) → count_by f rows ≡ count_by g rows
same_count f g same [] = refl
same_count f g same (row ∷ rows) =
    let a : count_by f (row ∷ rows) ≡ bit (f row) + count_by f rows = sum_by-cons (λ (r : Row). bit (f r)) row rows in
    let b : count_by g (row ∷ rows) ≡ bit (g row) + count_by g rows = sum_by-cons (λ (r : Row). bit (g r)) row rows in
    omega (arith, a, b, same row, same_count f g same rows)

-- rows that pass one test where they pass one of four others
four_counts : (f a b c d : Row → Bool) → ((row : Row) → bit (f row) ≡ bit (a row) + (bit (b row) + bit (c row) + bit (d row))) → (rows : List Row)
    → count_by f rows ≡ count_by a rows + (count_by b rows + count_by c rows + count_by d rows)
four_counts f a b c d same [] = refl
four_counts f a b c d same (row ∷ rows) =
    let of_f : count_by f (row ∷ rows) ≡ bit (f row) + count_by f rows = sum_by-cons (λ (r : Row). bit (f r)) row rows in
    let of_a : count_by a (row ∷ rows) ≡ bit (a row) + count_by a rows = sum_by-cons (λ (r : Row). bit (a r)) row rows in
    let of_b : count_by b (row ∷ rows) ≡ bit (b row) + count_by b rows = sum_by-cons (λ (r : Row). bit (b r)) row rows in
    let of_c : count_by c (row ∷ rows) ≡ bit (c row) + count_by c rows = sum_by-cons (λ (r : Row). bit (c r)) row rows in
    let of_d : count_by d (row ∷ rows) ≡ bit (d row) + count_by d rows = sum_by-cons (λ (r : Row). bit (d r)) row rows in
    omega (arith, of_f, of_a, of_b, of_c, of_d, same row, four_counts f a b c d same rows)

undefined_state : (s : RowState) → bit (is_undefined s) ≡ bit (kind_of s == 0)
undefined_state Undefined = refl
undefined_state (Starting p k) = refl
undefined_state (Up p) = refl
undefined_state (Asked p None) = refl
undefined_state (Asked p (Some t)) = refl
undefined_state (Killed p) = refl
undefined_state (Restarting k) = refl

timed_state : (s : RowState) → bit (is_timed s) ≡ bit (kind_of s == 4)
timed_state Undefined = refl
timed_state (Starting p k) = refl
timed_state (Up p) = refl
timed_state (Asked p None) = refl
timed_state (Asked p (Some t)) = refl
timed_state (Killed p) = refl
timed_state (Restarting k) = refl

awaited_state : (s : RowState) → bit (is_awaited s) ≡ bit (kind_of s == 1) + (bit (kind_of s == 3) + bit (kind_of s == 4) + bit (kind_of s == 5))
awaited_state Undefined = refl
awaited_state (Starting p k) = refl
awaited_state (Up p) = refl
awaited_state (Asked p None) = refl
awaited_state (Asked p (Some t)) = refl
awaited_state (Killed p) = refl
awaited_state (Restarting k) = refl

active_state : (s : RowState) → bit (is_active s) ≡ bit (kind_of s == 2) + (bit (kind_of s == 3) + bit (kind_of s == 4) + bit (kind_of s == 5))
active_state Undefined = refl
active_state (Starting p k) = refl
active_state (Up p) = refl
active_state (Asked p None) = refl
active_state (Asked p (Some t)) = refl
active_state (Killed p) = refl
active_state (Restarting k) = refl

pub undefined_kind : (rows : List Row) → count_by (row_has is_undefined) rows ≡ count_by (is_of 0) rows
undefined_kind rows = same_count (row_has is_undefined) (is_of 0) (λ row. undefined_state row.state) rows

pub timed_kind : (rows : List Row) → count_by (row_has is_timed) rows ≡ count_by (is_of 4) rows
timed_kind rows = same_count (row_has is_timed) (is_of 4) (λ row. timed_state row.state) rows

pub awaited_kinds : (rows : List Row) → count_by (row_has is_awaited) rows ≡ count_by (is_of 1) rows + (count_by (is_of 3) rows + count_by (is_of 4) rows + count_by (is_of 5) rows)
awaited_kinds rows = four_counts (row_has is_awaited) (is_of 1) (is_of 3) (is_of 4) (is_of 5) (λ row. awaited_state row.state) rows

pub active_kinds : (rows : List Row) → count_by (row_has is_active) rows ≡ count_by (is_of 2) rows + (count_by (is_of 3) rows + count_by (is_of 4) rows + count_by (is_of 5) rows)
active_kinds rows = four_counts (row_has is_active) (is_of 2) (is_of 3) (is_of 4) (is_of 5) (λ row. active_state row.state) rows
