-- Counting rows and numbers.
use Rattle.std.specs.Prelude.{◌≡◌, ℕ, ◌==◌, ◌+◌, ◌≤◌, ◌<◌, ◌++◌, ◌||◌, Bool, true, false, List, [], ◌∷◌, Option, None, Some, refl, if◌then◌else◌, not, position, is_some, slice_get, slice_set, nat_le, nat_lt, length, remove, map, reverse, take, drop, count_by}
use Rattle.std.specs.List.{list_any, cons_option, position_or_len}
use Rattle.std.proofs.Common.{◌∙◌, ap, sym, subst, arith, cond, get_or}
use Rattle.std.proofs.lemmas.Bool.{cond_both, false≢true, ltb-false, eq-eqb, eqb-true}
use Rattle.std.proofs.lemmas.List.Quantifiers.{position-Some}
use Rattle.std.proofs.lemmas.List.Sums.{sum_by-append, sum_by-cons, sum_by-le-sum_by, sum_by-set, sum_by-remove, sum_by-take-drop, sum_by-take-le}
use Rattle.std.proofs.lemmas.Option.{slice_get_within, get_or_from_slice_get, slice_get-get_or}
use Rattle.otp_spec.specs.declared.child.Shutdown.{Shutdown}
use Rattle.otp_spec.specs.declared.child.Shutdown.TheVariants.{BrutalKill, Milliseconds, Infinity}
use Rattle.otp_table.specs.declared.row.Row.{Row}
use Rattle.otp_table.specs.declared.row.RowState.{RowState}
use Rattle.otp_table.specs.declared.row.RowState.TheVariants.{Undefined, Starting, Up, Asked, Killed, Restarting}
use Rattle.otp_table.specs.Rows.{has_process, is_awaited, row_has, with_state, calm_rows, calmed, up_number}
use Rattle.otp_rules.specs.declared.event.Waiting.{Waiting}
use Rattle.otp_rules.specs.State.{Outcome, with_rows, with_waiting}
use Rattle.otp_rules.specs.Places.{at_place, at_found, at_row, end_row, end_process, is_removed, set_row}
use Rattle.otp_rules.specs.Restarts.{running}
use Rattle.otp_rules.specs.Stops.{is_exit, without, told, tell_row, tell, use_exit, stop_each}
use Rattle.otp_rules.specs.Step.{killed, late_by, late_number, tick}
use Rattle.otp_rules.specs.Fit.{is_told, rows_in, times, runs_as}
use Rattle.otp_rules.proofs.Walks.{stop_each-by}
use Rattle.otp_rules.proofs.Decisions.{StandsAt, at_number-survives, by_test, AtPassing}
use Rattle.std.proofs.lemmas.List.Sorted.{sum_by-IsPermutation, IsPermutation-reverse}
use Prim.Native.Nat.{suc}
use Rattle.otp_rules.specs.declared.event.Waiting.TheVariants as waiting

pub times-cons : (q p : ℕ) (ps : List ℕ) → times q (p ∷ ps) ≡ cond (p == q) 1 0 + times q ps
times-cons q p ps = sum_by-cons (λ x. cond (x == q) 1 0) p ps

pub times-append : (q : ℕ) (ps qs : List ℕ) → times q (ps ++ qs) ≡ times q ps + times q qs
times-append q ps qs = sum_by-append (λ x. cond (x == q) 1 0) ps qs

pub rows_in-cons : (t : RowState → Bool) (row : Row) (rows : List Row) → rows_in t (row ∷ rows) ≡ cond (t row.state) 1 0 + rows_in t rows
rows_in-cons t row rows = sum_by-cons (λ (r : Row). cond (row_has t r) 1 0) row rows

pub rows_in-append : (t : RowState → Bool) (xs ys : List Row) → rows_in t (xs ++ ys) ≡ rows_in t xs + rows_in t ys
rows_in-append t xs ys = sum_by-append (λ (r : Row). cond (row_has t r) 1 0) xs ys

-- of two tests the second passes wherever the first does
pub rows_in-le : (s t : RowState → Bool) → ((state : RowState) → cond (s state) 1 0 ≤ cond (t state) 1 0) → (rows : List Row) → rows_in s rows ≤ rows_in t rows
rows_in-le s t less rows = sum_by-le-sum_by (λ (row : Row). cond (row_has s row) 1 0) (λ (row : Row). cond (row_has t row) 1 0) rows (λ row. less row.state)

pub cond_le : (b c : Bool) → (b ≡ true → c ≡ true) → cond b 1 0 ≤ cond c 1 0
cond_le true c h = subst (λ (x : Bool). 1 ≤ cond x 1 0) (sym (h refl)) (omega arith)
cond_le false c h = omega arith

-- no state passes both of two tests, and a third passes wherever one of them does
pub rows_in-apart : (s t u : RowState → Bool) → ((state : RowState) → cond (s state) 1 0 + cond (t state) 1 0 ≤ cond (u state) 1 0) → (rows : List Row) → rows_in s rows + rows_in t rows ≤ rows_in u rows
rows_in-apart s t u apart [] = omega arith
rows_in-apart s t u apart (row ∷ rows) = omega (arith, apart row.state, rows_in-cons s row rows, rows_in-cons t row rows, rows_in-cons u row rows, rows_in-apart s t u apart rows)

-- one row changes
pub set_count : (p : Row → Bool) (rows : List Row) (place : ℕ) (row new : Row) → slice_get rows place ≡ Some row → count_by p (slice_set rows place new) + cond (p row) 1 0 ≡ count_by p rows + cond (p new) 1 0
set_count p rows place row new h =
    subst (λ (r : Row). count_by p (slice_set rows place new) + cond (p r) 1 0 ≡ count_by p rows + cond (p new) 1 0)
    (get_or_from_slice_get rows place row row h)
    (sum_by-set (λ (r : Row). cond (p r) 1 0) rows place new row (slice_get_within rows place row h))

-- one row goes
pub remove_count : (p : Row → Bool) (rows : List Row) (place : ℕ) (row : Row) → slice_get rows place ≡ Some row → count_by p (remove rows place) + cond (p row) 1 0 ≡ count_by p rows
remove_count p rows place row h =
    subst (λ (r : Row). count_by p (remove rows place) + cond (p r) 1 0 ≡ count_by p rows)
    (get_or_from_slice_get rows place row row h)
    (sum_by-remove (λ (r : Row). cond (p r) 1 0) rows place row (slice_get_within rows place row h))

-- one row's state changes
pub rows_in-set : (t : RowState → Bool) (place : ℕ) (row : Row) (state : RowState) (rows : List Row) → slice_get rows place ≡ Some row → rows_in t (slice_set rows place (with_state state row)) + cond (t row.state) 1 0 ≡ rows_in t rows + cond (t state) 1 0
rows_in-set t place row state rows h = set_count (row_has t) rows place row (with_state state row) h

-- a row that stands there counts
pub rows_in-at : (t : RowState → Bool) (place : ℕ) (row : Row) (rows : List Row) → slice_get rows place ≡ Some row → cond (t row.state) 1 0 ≤ rows_in t rows
rows_in-at t place row rows h = let e : rows_in t (remove rows place) + cond (t row.state) 1 0 ≡ rows_in t rows = remove_count (row_has t) rows place row h in omega (arith, e)

-- a row's end
pub rows_in-end : (t : RowState → Bool) → t Undefined ≡ false → (place : ℕ) (row : Row) (o : Outcome) → slice_get o.state.rows place ≡ Some row → rows_in t (end_row place row o).state.rows + cond (t row.state) 1 0 ≡ rows_in t o.state.rows
unfolding end_row
rows_in-end t none place row o h =
    elim (is_removed row) as (λ b. rows_in t (if b then with_rows (remove o.state.rows place) o else set_row place row Undefined o).state.rows + cond (t row.state) 1 0 ≡ rows_in t o.state.rows) [
      | true ↦ remove_count (row_has t) o.state.rows place row h
      | false ↦
          let e : rows_in t (slice_set o.state.rows place (with_state Undefined row)) + cond (t row.state) 1 0 ≡ rows_in t o.state.rows + cond (t Undefined) 1 0 = rows_in-set t place row Undefined o.state.rows h in
          let z : ◌≡◌ {A = ℕ} (cond (t Undefined) 1 0) 0 = ap (λ (b : Bool). cond b 1 0) none in
          omega (arith, e, z)
    ]

-- the work, the phase, the flags and the stamps are the same
abbrev pub Alike : Outcome → Outcome → Type 0
Alike new old =
    (new.state.flags ≡ old.state.flags) × (new.state.phase ≡ old.state.phase) × (new.state.to_stop ≡ old.state.to_stop)
    × (new.state.to_start ≡ old.state.to_start) × (new.state.follows ≡ old.state.follows)
    × (new.state.stamps ≡ old.state.stamps) × (new.state.last ≡ old.state.last)

pub alike : (o : Outcome) → Alike o o
alike o = (refl, refl, refl, refl, refl, refl, refl)

pub alike-chain : (new mid old : Outcome) → Alike new mid → Alike mid old → Alike new old
alike-chain new mid old h k = (h.0 ∙ k.0, h.1 ∙ k.1, h.2 ∙ k.2, h.3 ∙ k.3, h.4 ∙ k.4, h.5 ∙ k.5, h.6 ∙ k.6)

pub end_row-alike : (place : ℕ) (row : Row) (o : Outcome) → Alike (end_row place row o) o
unfolding end_row
end_row-alike place row o = by_test (λ x. Alike x o) (is_removed row) (with_rows (remove o.state.rows place) o) (set_row place row Undefined o) (λ _. alike o) (λ _. alike o)

pub tell-alike : (p : ℕ) (o : Outcome) → Alike (tell p o) o
unfolding tell tell_row
tell-alike p o = at_number-survives (λ x. Alike x o) p (tell_row p) o (alike o) (λ place row at h. alike o)

pub use_exit-alike : (p : ℕ) (place : Option ℕ) (o : Outcome) → Alike (use_exit p place o) o
unfolding use_exit end_process
use_exit-alike p place o =
    at_number-survives (λ x. Alike x o) p end_row (with_waiting (without o.state.waiting place) o) (alike o)
    (λ i row at h. end_row-alike i row (with_waiting (without o.state.waiting place) o))

pub stop_each-alike : (ps : List ℕ) (o : Outcome) → Alike (stop_each ps o) o
stop_each-alike ps o =
    stop_each-by (λ x. Alike x o) (λ p x _ h. let place : Option ℕ = position (is_exit p) x.state.waiting in alike-chain (use_exit p place x) x o (use_exit-alike p place x) h)
    (λ p x _ h. alike-chain (tell p x) x o (tell-alike p x) h) ps o (alike o)

-- what has been told to stop is awaited, and no more up
pub told-runs : (now p q : ℕ) (s : Shutdown) → runs_as q (told now p s) ≡ false
told-runs now p q BrutalKill = refl
told-runs now p q (Milliseconds _) = refl
told-runs now p q Infinity = refl

pub told-told : (now p : ℕ) (s : Shutdown) → is_told p (told now p s) ≡ true
told-told now p BrutalKill = eq-eqb p p refl
told-told now p (Milliseconds _) = eq-eqb p p refl
told-told now p Infinity = eq-eqb p p refl

-- a row has one process
pub runs_number : (p q : ℕ) (state : RowState) → has_process p state ≡ true → cond (runs_as q state) 1 0 ≤ cond (p == q) 1 0
runs_number p q Undefined h = omega arith
runs_number p q (Starting _ _) h = omega arith
runs_number p q (Up x) h = subst (λ (n : ℕ). cond (x == q) 1 0 ≤ cond (n == q) 1 0) (eqb-true x p h) (omega arith)
runs_number p q (Asked _ _) h = omega arith
runs_number p q (Killed _) h = omega arith
runs_number p q (Restarting x) h = omega arith

pub times-reverse : (q : ℕ) (ps : List ℕ) → times q (reverse ps) ≡ times q ps
times-reverse q ps = sum_by-IsPermutation (λ x. cond (x == q) 1 0) ps (reverse ps) (IsPermutation-reverse ps)

up_counts : (q : ℕ) (state : RowState) (rest : List ℕ) → times q (cons_option (up_number state) rest) ≤ cond (runs_as q (calmed state)) 1 0 + times q rest
up_counts q Undefined rest = omega arith
up_counts q (Starting _ _) rest = omega arith
up_counts q (Up p) rest = omega (arith, times-cons q p rest)
up_counts q (Asked _ _) rest = omega arith
up_counts q (Killed _) rest = omega arith
up_counts q (Restarting _) rest = omega arith

-- those that run are up, also where the rows are calmed
pub running_counted : (q : ℕ) (rows : List Row) → times q (running rows) ≤ rows_in (runs_as q) (calm_rows rows)
running_counted q [] = omega arith
running_counted q (row ∷ rows) =
    omega (arith, up_counts q row.state (running rows), rows_in-cons (runs_as q) (with_state (calmed row.state) row) (calm_rows rows), running_counted q rows)

-- what a change of each row keeps
pub rows_in-map : (t : RowState → Bool) (f : Row → Row) → ((row : Row) → t (f row).state ≡ t row.state) → (rows : List Row) → rows_in t (map f rows) ≡ rows_in t rows
rows_in-map t f h [] = refl
rows_in-map t f h (row ∷ rows) =
    let e : ◌≡◌ {A = ℕ} (cond (t (f row).state) 1 0) (cond (t row.state) 1 0) = ap (λ (b : Bool). cond b 1 0) (h row) in
    omega (arith, e, rows_in-cons t row rows, rows_in-cons t (f row) (map f rows), rows_in-map t f h rows)

calmed-awaited : (state : RowState) → is_awaited (calmed state) ≡ is_awaited state
calmed-awaited Undefined = refl
calmed-awaited (Starting _ _) = refl
calmed-awaited (Up _) = refl
calmed-awaited (Asked _ _) = refl
calmed-awaited (Killed _) = refl
calmed-awaited (Restarting _) = refl

pub calm_awaited : (rows : List Row) → rows_in is_awaited (calm_rows rows) ≡ rows_in is_awaited rows
calm_awaited rows = rows_in-map is_awaited (λ (row : Row). with_state (calmed row.state) row) (λ row. calmed-awaited row.state) rows

-- a child that is killed since it is late was asked under the same number
late_by-keeps : (t : RowState → Bool) → ((p : ℕ) (d : Option ℕ) → t (Killed p) ≡ t (Asked p d)) → (now p : ℕ) (d : Option ℕ) (row : Row) → t row.state ≡ t (Asked p d) → t (killed row (late_by now p d)).state ≡ t row.state
late_by-keeps t h now p None row is = refl
late_by-keeps t h now p (Some deadline) row is =
    cond_both (nat_le deadline now) (Some p) None (λ (x : Option ℕ). t (killed row x).state ≡ t row.state) (λ _. h p (Some deadline) ∙ sym is) (λ _. refl)

late_state : (t : RowState → Bool) → ((p : ℕ) (d : Option ℕ) → t (Killed p) ≡ t (Asked p d)) → (now : ℕ) (row : Row) (state : RowState) → row.state ≡ state → t (killed row (late_number now state)).state ≡ t row.state
late_state t h now row Undefined is = refl
late_state t h now row (Starting _ _) is = refl
late_state t h now row (Up _) is = refl
late_state t h now row (Asked p d) is = late_by-keeps t h now p d row (ap (λ (s : RowState). t s) is)
late_state t h now row (Killed _) is = refl
late_state t h now row (Restarting _) is = refl

-- a test that takes the two alike counts the same rows after a tick
pub tick_count : (t : RowState → Bool) → ((p : ℕ) (d : Option ℕ) → t (Killed p) ≡ t (Asked p d)) → (o : Outcome) → rows_in t (tick o).state.rows ≡ rows_in t o.state.rows
unfolding tick
tick_count t h o = rows_in-map t (λ (row : Row). killed row (late_number o.state.last row.state)) (λ row. late_state t h o.state.last row row.state refl) o.state.rows

pub take_rows : (t : RowState → Bool) (n : ℕ) (rows : List Row) → rows_in t (take n rows) ≤ rows_in t rows
take_rows t n rows = sum_by-take-le (λ (r : Row). cond (row_has t r) 1 0) rows n

pub drop_rows : (t : RowState → Bool) (n : ℕ) (rows : List Row) → rows_in t (drop n rows) ≤ rows_in t rows
drop_rows t n rows = let e : rows_in t (take n rows) + rows_in t (drop n rows) ≡ rows_in t rows = sum_by-take-drop (λ (r : Row). cond (row_has t r) 1 0) rows n in omega (arith, e)

pub none_in : (t : RowState → Bool) (rows : List Row) → list_any (row_has t) rows ≡ false → rows_in t rows ≡ 0
none_in t [] h = refl
none_in t (row ∷ rows) h =
    rows_in-cons t row rows
    ∙ (elim (t row.state) as (λ b. (b || list_any (row_has t) rows) ≡ false → cond b 1 0 + rows_in t rows ≡ 0) [
      | true ↦ λ k. absurd (false≢true (sym k))
      | false ↦ λ k. let rest : rows_in t rows ≡ 0 = none_in t rows k in omega (arith, rest)
    ]) h

-- nothing passes where no first place is found
none_there : {X : Type 0} (t : X → Bool) (xs : List X) → length xs ≤ position_or_len t xs → count_by t xs ≡ 0
none_there t [] h = refl
none_there t (x ∷ xs) h =
    sum_by-cons (λ y. cond (t y) 1 0) x xs
    ∙ (elim (t x) as (λ b. suc (length xs) ≤ cond (not b) (1 + position_or_len t xs) 0 → cond b 1 0 + count_by t xs ≡ 0) [
      | true ↦ λ k. absurd (omega (arith, k))
      | false ↦ λ k. let rest : count_by t xs ≡ 0 = none_there t xs (omega (arith, k)) in omega (arith, rest)
    ]) h

-- what is there is found
pub found : {X : Type 0} (t : X → Bool) (xs : List X) → 0 < count_by t xs → is_some (position t xs) ≡ true
found t xs h =
    cond_both (nat_lt (position_or_len t xs) (length xs)) (Some (position_or_len t xs)) None (λ (x : Option ℕ). is_some x ≡ true)
    (λ _. refl)
    (λ e. absurd (let none : count_by t xs ≡ 0 = none_there t xs (ltb-false (position_or_len t xs) (length xs) e) in omega (arith, none, h)))

-- what is found is there
pub there : {X : Type 0} (t : X → Bool) (xs : List X) (d : X) → is_some (position t xs) ≡ true → 0 < count_by t xs
there t xs d h =
    (elim (position t xs) as (λ (x : Option ℕ). position t xs ≡ x → is_some x ≡ true → 0 < count_by t xs) [
      | None ↦ λ e k. absurd (false≢true k)
      | Some i ↦ λ e k.
          let at : (i < length xs) × (t (get_or xs i d) ≡ true) × ((j : ℕ) → j < i → t (get_or xs j d) ≡ false) = position-Some t xs i d e in
          let one : ◌≡◌ {A = ℕ} (cond (t (get_or xs i d)) 1 0) 1 = ap (λ (b : Bool). cond b 1 0) at.1 in
          let less : count_by t (remove xs i) + cond (t (get_or xs i d)) 1 0 ≡ count_by t xs = sum_by-remove (λ x. cond (t x) 1 0) xs i d at.0 in
          omega (arith, one, less)
    ]) refl h

-- nor does the place of what is found lie beyond the rows
pub no_row : (test : Row → Bool) (rows : List Row) (i : ℕ) → position test rows ≡ Some i → slice_get rows i ≡ None → ⊥
no_row test [] i e n = let no : ◌≡◌ {A = Option ℕ} None (Some i) = e in cc
no_row test (row ∷ rows) i e n =
    let in_it : i < length (row ∷ rows) = (position-Some test (row ∷ rows) i row e).0 in
    let got : slice_get (row ∷ rows) i ≡ Some (get_or (row ∷ rows) i row) = slice_get-get_or (row ∷ rows) i row in_it in
    let no : ◌≡◌ {A = Option Row} None (Some (get_or (row ∷ rows) i row)) = sym n ∙ got in cc

-- a row's end changes neither what waits nor the orders
pub end_row-quiet : (place : ℕ) (row : Row) (o : Outcome) → ((end_row place row o).state.waiting ≡ o.state.waiting) × ((end_row place row o).orders ≡ o.orders)
unfolding end_row
end_row-quiet place row o =
    by_test (λ x. (x.state.waiting ≡ o.state.waiting) × (x.orders ≡ o.orders)) (is_removed row) (with_rows (remove o.state.rows place) o) (set_row place row Undefined o) (λ _. (refl, refl)) (λ _. (refl, refl))

pub use_exit-quiet : (p : ℕ) (place : Option ℕ) (o : Outcome) → ((use_exit p place o).state.waiting ≡ without o.state.waiting place) × ((use_exit p place o).orders ≡ o.orders)
unfolding use_exit end_process
use_exit-quiet p place o =
    at_number-survives (λ x. (x.state.waiting ≡ without o.state.waiting place) × (x.orders ≡ o.orders)) p end_row (with_waiting (without o.state.waiting place) o) (refl, refl)
    (λ i row at h. end_row-quiet i row (with_waiting (without o.state.waiting place) o))

-- the test of an exit counts no more of what is left
pub without_count : (q : ℕ) (t : Waiting → Bool) (ws : List Waiting) → count_by (is_exit q) (without ws (position t ws)) ≤ count_by (is_exit q) ws
without_count q t ws =
    (elim (position t ws) as (λ (x : Option ℕ). position t ws ≡ x → count_by (is_exit q) (without ws x) ≤ count_by (is_exit q) ws) [
      | None ↦ λ e. omega arith
      | Some i ↦ λ e.
          let d : Waiting = waiting.Retry 0 in
          let at : (i < length ws) × (t (get_or ws i d) ≡ true) × ((j : ℕ) → j < i → t (get_or ws j d) ≡ false) = position-Some t ws i d e in
          let less : count_by (is_exit q) (remove ws i) + cond (is_exit q (get_or ws i d)) 1 0 ≡ count_by (is_exit q) ws = sum_by-remove (λ x. cond (is_exit q x) 1 0) ws i d at.0 in
          omega (arith, less)
    ]) refl

pub put_count : (q : ℕ) (ws : List Waiting) (w : Waiting) → count_by (is_exit q) (ws ++ w ∷ []) ≡ count_by (is_exit q) ws + cond (is_exit q w) 1 0
put_count q ws w = let a : count_by (is_exit q) (ws ++ w ∷ []) ≡ count_by (is_exit q) ws + count_by (is_exit q) (w ∷ []) = sum_by-append (λ x. cond (is_exit q x) 1 0) ws (w ∷ []) in omega (arith, a, sum_by-cons (λ x. cond (is_exit q x) 1 0) w [])

-- what is made of the first row that passes, where one does
pub at_row-first : (P : Outcome → Type 0) (test : Row → Bool) (missing : Outcome) (f : ℕ → Row → Outcome → Outcome) (o : Outcome) → 0 < count_by test o.state.rows
    → ((place : ℕ) (row : Row) → position test o.state.rows ≡ Some place → StandsAt place row o → P (f place row o)) → P (at_row test missing f o)
unfolding at_row at_found at_place
at_row-first P test missing f o some h =
    (elim (position test o.state.rows) as (λ (x : Option ℕ). position test o.state.rows ≡ x → is_some x ≡ true → P (at_found missing f x o)) [
      | None ↦ λ e k. absurd (false≢true k)
      | Some i ↦ λ e k.
          (elim (slice_get o.state.rows i) as (λ (r : Option Row). slice_get o.state.rows i ≡ r → P (at_place f i r o)) [
            | None ↦ λ n. absurd (no_row test o.state.rows i e n)
            | Some row ↦ λ at. h i row e at
          ]) refl
    ]) refl (found test o.state.rows some)

pub at_row-found : (P : Outcome → Type 0) (test : Row → Bool) (missing : Outcome) (f : ℕ → Row → Outcome → Outcome) (o : Outcome) → 0 < count_by test o.state.rows → AtPassing P test f o → P (at_row test missing f o)
at_row-found P test missing f o some h =
    at_row-first P test missing f o some (λ i row first at. h i row at (ap (λ (r : Row). test r) (sym (get_or_from_slice_get o.state.rows i row row at)) ∙ (position-Some test o.state.rows i row first).1))
