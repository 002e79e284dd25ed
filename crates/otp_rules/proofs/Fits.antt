-- The children that are to be started have rows, in their order.
use Rattle.std.specs.Prelude.{◌≡◌, ℕ, ◌==◌, ◌+◌, ◌≤◌, ◌<◌, ◌++◌, Bool, true, false, List, [], ◌∷◌, Option, None, Some, refl, not, position, slice_get, slice_set, nat_lt, length, remove, map, count_by}
use Rattle.std.specs.Option.{option_eq}
use Rattle.std.specs.Ordering.{on}
use Rattle.std.specs.Str.{bytes_eq}
use Rattle.std.proofs.Common.{◌∙◌, ap, sym, subst, inl, inr, arith, ⊎_elim, cond}
use Rattle.std.proofs.lemmas.Bool.{cond_both, false≢true, cases_Bool, and_parts, and_from, eq-eqb, eqb-true, lt-ltb, ltb-true}
use Rattle.std.proofs.lemmas.List.Sums.{sum_by-cons}
use Rattle.std.proofs.lemmas.List.{append-nil}
use Rattle.otp_reason.specs.declared.name.Name.{Name}
use Rattle.otp_reason.specs.Names.{name_bytes}
use Rattle.otp_table.specs.declared.row.Row.{Row}
use Rattle.otp_table.specs.declared.row.RowState.{RowState}
use Rattle.otp_table.specs.declared.row.RowState.TheVariants.{Undefined, Starting, Up, Asked, Killed, Restarting}
use Rattle.otp_table.specs.Rows.{has_process, is_awaited, is_undefined, with_state}
use Rattle.otp_rules.specs.declared.work.Due.{Due}
use Rattle.otp_rules.specs.Places.{is_removed}
use Rattle.otp_rules.specs.Restarts.{dues}
use Rattle.otp_rules.specs.Starts.{is_due}
use Rattle.std.specs.List.{position_or_len}
use Prim.Native.Nat.{zero, suc}
use Rattle.otp_rules.specs.Fit.{rows_in, times, is_free, IsFree, Matches, Fits}
use Rattle.otp_rules.proofs.Bits.{counts_none}
use Rattle.otp_rules.proofs.Counting.{times-cons, rows_in-cons, rows_in-at, found}

-- a row in front changes nothing
pub fits-front : (ps : List ℕ) (dues : List Due) (row : Row) (rows : List Row) → Fits ps dues rows → Fits ps dues (row ∷ rows)
fits-front ps [] row rows h = tt
fits-front ps (due ∷ dues) row rows h = inr h

-- one child less
pub fits-rest : (ps : List ℕ) (due : Due) (dues : List Due) (rows : List Row) → Fits ps (due ∷ dues) rows → Fits ps dues rows
fits-rest ps due dues [] h = absurd h
fits-rest ps due dues (row ∷ rows) (inl h) = fits-front ps dues row rows h.2
fits-rest ps due dues (row ∷ rows) (inr h) = fits-front ps dues row rows (fits-rest ps due dues rows h)

-- rows before and after
pub fits-after : (ps : List ℕ) (dues : List Due) (front rows : List Row) → Fits ps dues rows → Fits ps dues (front ++ rows)
fits-after ps dues [] rows h = h
fits-after ps dues (row ∷ front) rows h = fits-front ps dues row (front ++ rows) (fits-after ps dues front rows h)

pub fits-append : (ps : List ℕ) (ds es : List Due) (xs ys : List Row) → Fits ps ds xs → Fits ps es ys → Fits ps (ds ++ es) (xs ++ ys)
fits-append ps [] es xs ys h k = fits-after ps es xs ys k
fits-append ps (d ∷ ds) es [] ys h k = absurd h
fits-append ps (d ∷ ds) es (x ∷ xs) ys (inl h) k = inl (h.0, h.1, fits-append ps ds es xs ys h.2 k)
fits-append ps (d ∷ ds) es (x ∷ xs) ys (inr h) k = inr (fits-append ps (d ∷ ds) es xs ys h k)

pub fits-before : (ps : List ℕ) (dues : List Due) (rows back : List Row) → Fits ps dues rows → Fits ps dues (rows ++ back)
fits-before ps dues rows back h = subst (λ (ds : List Due). Fits ps ds (rows ++ back)) (append-nil dues) (fits-append ps dues [] rows back h tt)

-- each row that is free stays so
pub fits-map : (ps qs : List ℕ) (f : Row → Row) → ((row : Row) → (f row).id ≡ row.id) → ((row : Row) → IsFree ps row → IsFree qs (f row)) → (dues : List Due) (rows : List Row) → Fits ps dues rows → Fits qs dues (map f rows)
fits-map ps qs f same free [] rows h = tt
fits-map ps qs f same free (due ∷ dues) [] h = absurd h
fits-map ps qs f same free (due ∷ dues) (row ∷ rows) (inl h) =
    inl (subst (λ (id : Option Name). option_eq (on name_bytes bytes_eq) id due.id ≡ true) (sym (same row)) h.0, free row h.1, fits-map ps qs f same free dues rows h.2)
fits-map ps qs f same free (due ∷ dues) (row ∷ rows) (inr h) = inr (fits-map ps qs f same free (due ∷ dues) rows h)

-- one row changes its state, and stays free if it was
pub fits-set : (ps : List ℕ) (place : ℕ) (row : Row) (state : RowState) → (IsFree ps row → IsFree ps (with_state state row)) → (dues : List Due) (rows : List Row) → slice_get rows place ≡ Some row → Fits ps dues rows → Fits ps dues (slice_set rows place (with_state state row))
fits-set ps place row state free [] rows at h = tt
fits-set ps place row state free (due ∷ dues) [] at h = absurd h
fits-set ps zero row state free (due ∷ dues) (x ∷ rows) at (inl h) =
    let same : x ≡ row = let e : ◌≡◌ {A = Option Row} (Some x) (Some row) = at in cc in
    inl (subst (λ (r : Row). Matches due r) same h.0, free (subst (λ (r : Row). IsFree ps r) same h.1), h.2)
fits-set ps zero row state free (due ∷ dues) (x ∷ rows) at (inr h) = inr h
fits-set ps (suc i) row state free (due ∷ dues) (x ∷ rows) at (inl h) = inl (h.0, h.1, fits-set ps i row state free dues rows at h.2)
fits-set ps (suc i) row state free (due ∷ dues) (x ∷ rows) at (inr h) = inr (fits-set ps i row state free (due ∷ dues) rows at h)

-- a row goes that isn't free
pub fits-remove : (ps : List ℕ) (place : ℕ) (row : Row) → (IsFree ps row → ⊥) → (dues : List Due) (rows : List Row) → slice_get rows place ≡ Some row → Fits ps dues rows → Fits ps dues (remove rows place)
fits-remove ps place row busy [] rows at h = tt
fits-remove ps place row busy (due ∷ dues) [] at h = absurd h
fits-remove ps zero row busy (due ∷ dues) (x ∷ rows) at (inl h) =
    let same : x ≡ row = let e : ◌≡◌ {A = Option Row} (Some x) (Some row) = at in cc in
    absurd (busy (subst (λ (r : Row). IsFree ps r) same h.1))
fits-remove ps zero row busy (due ∷ dues) (x ∷ rows) at (inr h) = h
fits-remove ps (suc i) row busy (due ∷ dues) (x ∷ rows) at (inl h) = inl (h.0, h.1, fits-remove ps i row busy dues rows at h.2)
fits-remove ps (suc i) row busy (due ∷ dues) (x ∷ rows) at (inr h) = inr (fits-remove ps i row busy (due ∷ dues) rows at h)

swap : (x p : ℕ) → (x == p) ≡ false → (p == x) ≡ false
swap x p h = ⊎_elim (λ yes. absurd (false≢true (sym h ∙ eq-eqb x p (sym (eqb-true p x yes))))) (λ other. other) (cases_Bool (p == x))

-- a process that no row has needn't be stopped
free-pop : (p : ℕ) (ps : List ℕ) (goes : Bool) (state : RowState) → has_process p state ≡ false → is_free (p ∷ ps) goes state ≡ true → is_free ps goes state ≡ true
free-pop p ps goes Undefined other h = refl
free-pop p ps goes (Starting _ _) other h = absurd (false≢true h)
free-pop p ps goes (Up x) other h =
    let parts : (not goes ≡ true) × (nat_lt 0 (times x (p ∷ ps)) ≡ true) = and_parts (not goes) (nat_lt 0 (times x (p ∷ ps))) h in
    let z : ◌≡◌ {A = ℕ} (cond (p == x) 1 0) 0 = ap (λ (b : Bool). cond b 1 0) (swap x p other) in
    and_from (not goes) (nat_lt 0 (times x ps)) parts.0 (lt-ltb 0 (times x ps) (omega (arith, ltb-true 0 (times x (p ∷ ps)) parts.1, times-cons x p ps, z)))
free-pop p ps goes (Asked _ _) other h = h
free-pop p ps goes (Killed _) other h = h
free-pop p ps goes (Restarting _) other h = absurd (false≢true h)

pub fits-pop : (p : ℕ) (ps : List ℕ) (dues : List Due) (rows : List Row) → rows_in (has_process p) rows ≡ 0 → Fits (p ∷ ps) dues rows → Fits ps dues rows
fits-pop p ps [] rows none h = tt
fits-pop p ps (due ∷ dues) [] none h = absurd h
fits-pop p ps (due ∷ dues) (row ∷ rows) none (inl h) =
    let parts : rows_in (has_process p) (row ∷ rows) ≡ cond (has_process p row.state) 1 0 + rows_in (has_process p) rows = rows_in-cons (has_process p) row rows in
    inl (h.0, free-pop p ps (is_removed row) row.state (counts_none (has_process p row.state) (omega (arith, none, parts))) h.1, fits-pop p ps dues rows (omega (arith, none, parts)) h.2)
fits-pop p ps (due ∷ dues) (row ∷ rows) none (inr h) =
    let parts : rows_in (has_process p) (row ∷ rows) ≡ cond (has_process p row.state) 1 0 + rows_in (has_process p) rows = rows_in-cons (has_process p) row rows in
    inr (fits-pop p ps (due ∷ dues) rows (omega (arith, none, parts)) h)

-- where a later row has the process and one at most has it, the first row hasn't
only_later : (p i : ℕ) (row x : Row) (rows : List Row) → has_process p row.state ≡ true → slice_get rows i ≡ Some row → rows_in (has_process p) (x ∷ rows) ≤ 1 → (has_process p x.state ≡ false) × (rows_in (has_process p) rows ≤ 1)
only_later p i row x rows has at one =
    let there : ◌≡◌ {A = ℕ} (cond (has_process p row.state) 1 0) 1 = ap (λ (b : Bool). cond b 1 0) has in
    let more : cond (has_process p row.state) 1 0 ≤ rows_in (has_process p) rows = rows_in-at (has_process p) i row rows at in
    let split : rows_in (has_process p) (x ∷ rows) ≡ cond (has_process p x.state) 1 0 + rows_in (has_process p) rows = rows_in-cons (has_process p) x rows in
    (counts_none (has_process p x.state) (omega (arith, one, split, more, there)), omega (arith, one, split))

-- one process is stopped: its row is free from now on, or goes, and no other row has it
pub fits-stop : (p : ℕ) (ps : List ℕ) (place : ℕ) (row : Row) (state : RowState) → has_process p row.state ≡ true → (IsFree (p ∷ ps) row → IsFree ps (with_state state row)) → (dues : List Due) (rows : List Row) → slice_get rows place ≡ Some row → rows_in (has_process p) rows ≤ 1 → Fits (p ∷ ps) dues rows → Fits ps dues (slice_set rows place (with_state state row))
fits-stop p ps place row state has free [] rows at one h = tt
fits-stop p ps place row state has free (due ∷ dues) [] at one h = absurd h
fits-stop p ps zero row state has free (due ∷ dues) (x ∷ rows) at one h =
    let same : x ≡ row = let e : ◌≡◌ {A = Option Row} (Some x) (Some row) = at in cc in
    let here : ◌≡◌ {A = ℕ} (cond (has_process p x.state) 1 0) 1 = ap (λ (b : Bool). cond b 1 0) (ap (λ (r : Row). has_process p r.state) same ∙ has) in
    let none : rows_in (has_process p) rows ≡ 0 = omega (arith, one, rows_in-cons (has_process p) x rows, here) in
    ⊎_elim
    (λ (k : Matches due x × IsFree (p ∷ ps) x × Fits (p ∷ ps) dues rows). inl (subst (λ (r : Row). Matches due r) same k.0, free (subst (λ (r : Row). IsFree (p ∷ ps) r) same k.1), fits-pop p ps dues rows none k.2))
    (λ (k : Fits (p ∷ ps) (due ∷ dues) rows). inr (fits-pop p ps (due ∷ dues) rows none k))
    h
fits-stop p ps (suc i) row state has free (due ∷ dues) (x ∷ rows) at one h =
    let later : (has_process p x.state ≡ false) × (rows_in (has_process p) rows ≤ 1) = only_later p i row x rows has at one in
    ⊎_elim
    (λ (k : Matches due x × IsFree (p ∷ ps) x × Fits (p ∷ ps) dues rows). inl (k.0, free-pop p ps (is_removed x) x.state later.0 k.1, fits-stop p ps i row state has free dues rows at later.1 k.2))
    (λ (k : Fits (p ∷ ps) (due ∷ dues) rows). inr (fits-stop p ps i row state has free (due ∷ dues) rows at later.1 k))
    h

pub fits-stop-remove : (p : ℕ) (ps : List ℕ) (place : ℕ) (row : Row) → has_process p row.state ≡ true → (IsFree (p ∷ ps) row → ⊥) → (dues : List Due) (rows : List Row) → slice_get rows place ≡ Some row → rows_in (has_process p) rows ≤ 1 → Fits (p ∷ ps) dues rows → Fits ps dues (remove rows place)
fits-stop-remove p ps place row has busy [] rows at one h = tt
fits-stop-remove p ps place row has busy (due ∷ dues) [] at one h = absurd h
fits-stop-remove p ps zero row has busy (due ∷ dues) (x ∷ rows) at one h =
    let same : x ≡ row = let e : ◌≡◌ {A = Option Row} (Some x) (Some row) = at in cc in
    let here : ◌≡◌ {A = ℕ} (cond (has_process p x.state) 1 0) 1 = ap (λ (b : Bool). cond b 1 0) (ap (λ (r : Row). has_process p r.state) same ∙ has) in
    let none : rows_in (has_process p) rows ≡ 0 = omega (arith, one, rows_in-cons (has_process p) x rows, here) in
    ⊎_elim
    (λ (k : Matches due x × IsFree (p ∷ ps) x × Fits (p ∷ ps) dues rows). absurd (busy (subst (λ (r : Row). IsFree (p ∷ ps) r) same k.1)))
    (λ (k : Fits (p ∷ ps) (due ∷ dues) rows). fits-pop p ps (due ∷ dues) rows none k)
    h
fits-stop-remove p ps (suc i) row has busy (due ∷ dues) (x ∷ rows) at one h =
    let later : (has_process p x.state ≡ false) × (rows_in (has_process p) rows ≤ 1) = only_later p i row x rows has at one in
    ⊎_elim
    (λ (k : Matches due x × IsFree (p ∷ ps) x × Fits (p ∷ ps) dues rows). inl (k.0, free-pop p ps (is_removed x) x.state later.0 k.1, fits-stop-remove p ps i row has busy dues rows at later.1 k.2))
    (λ (k : Fits (p ∷ ps) (due ∷ dues) rows). inr (fits-stop-remove p ps i row has busy (due ∷ dues) rows at later.1 k))
    h

-- with nothing left to stop and no answer awaited, the row of the next child is undefined
free_now : (goes : Bool) (state : RowState) → is_awaited state ≡ false → is_free [] goes state ≡ true → is_undefined state ≡ true
free_now goes Undefined calm h = refl
free_now goes (Starting _ _) calm h = absurd (false≢true (sym calm))
free_now goes (Up p) calm h = absurd (false≢true (and_parts (not goes) false h).1)
free_now goes (Asked _ _) calm h = absurd (false≢true (sym calm))
free_now goes (Killed _) calm h = absurd (false≢true (sym calm))
free_now goes (Restarting _) calm h = absurd (false≢true h)

none_awaits : (row : Row) (rows : List Row) → rows_in is_awaited (row ∷ rows) ≡ 0 → (is_awaited row.state ≡ false) × (rows_in is_awaited rows ≡ 0)
none_awaits row rows h =
    let split : rows_in is_awaited (row ∷ rows) ≡ cond (is_awaited row.state) 1 0 + rows_in is_awaited rows = rows_in-cons is_awaited row rows in
    (counts_none (is_awaited row.state) (omega (arith, h, split)), omega (arith, h, split))

pub due_there : (due : Due) (dues : List Due) (rows : List Row) → rows_in is_awaited rows ≡ 0 → Fits [] (due ∷ dues) rows → 0 < count_by (is_due due) rows
due_there due dues [] none h = absurd h
due_there due dues (row ∷ rows) none (inl h) =
    let here : is_due due row ≡ true = and_from (option_eq (on name_bytes bytes_eq) row.id due.id) (is_undefined row.state) h.0 (free_now (is_removed row) row.state (none_awaits row rows none).0 h.1) in
    let one : ◌≡◌ {A = ℕ} (cond (is_due due row) 1 0) 1 = ap (λ (b : Bool). cond b 1 0) here in
    omega (arith, one, sum_by-cons (λ (r : Row). cond (is_due due r) 1 0) row rows)
due_there due dues (row ∷ rows) none (inr h) =
    omega (arith, due_there due dues rows (none_awaits row rows none).1 h, sum_by-cons (λ (r : Row). cond (is_due due r) 1 0) row rows)

-- the first row that is due is started: the others still have theirs
start_at : (due : Due) (dues : List Due) (new : Row) (rows : List Row) → rows_in is_awaited rows ≡ 0 → Fits [] (due ∷ dues) rows → Fits [] dues (slice_set rows (position_or_len (is_due due) rows) new)
start_at due dues new [] none h = absurd h
start_at due dues new (row ∷ rows) none h =
    let rest : Fits [] dues rows = ⊎_elim (λ (k : Matches due row × IsFree [] row × Fits [] dues rows). k.2) (λ (k : Fits [] (due ∷ dues) rows). fits-rest [] due dues rows k) h in
    (elim (is_due due row) as (λ b. is_due due row ≡ b → Fits [] dues (slice_set (row ∷ rows) (cond (not b) (1 + position_or_len (is_due due) rows) 0) new)) [
      | true ↦ λ e. fits-front [] dues new rows rest
      | false ↦ λ e.
          let next : suc (position_or_len (is_due due) rows) ≡ 1 + position_or_len (is_due due) rows = omega arith in
          subst (λ (i : ℕ). Fits [] dues (slice_set (row ∷ rows) i new)) next
          (fits-front [] dues row (slice_set rows (position_or_len (is_due due) rows) new)
          (start_at due dues new rows (none_awaits row rows none).1
          (⊎_elim
          (λ (k : Matches due row × IsFree [] row × Fits [] dues rows). absurd (false≢true (sym e ∙ and_from (option_eq (on name_bytes bytes_eq) row.id due.id) (is_undefined row.state) k.0 (free_now (is_removed row) row.state (none_awaits row rows none).0 k.1))))
          (λ (k : Fits [] (due ∷ dues) rows). k) h)))
    ]) refl

pub fits-start : (due : Due) (dues : List Due) (new : Row) (place : ℕ) (rows : List Row) → position (is_due due) rows ≡ Some place → rows_in is_awaited rows ≡ 0 → Fits [] (due ∷ dues) rows → Fits [] dues (slice_set rows place new)
fits-start due dues new place rows found none h =
    subst (λ (i : ℕ). Fits [] dues (slice_set rows i new)) (place_is place found) (start_at due dues new rows none h)
  where
    place_is : (place : ℕ) → position (is_due due) rows ≡ Some place → position_or_len (is_due due) rows ≡ place
    place_is place e =
        cond_both (nat_lt (position_or_len (is_due due) rows) (length rows)) (Some (position_or_len (is_due due) rows)) None (λ (x : Option ℕ). x ≡ Some place → position_or_len (is_due due) rows ≡ place)
        (λ _ k. let j : ◌≡◌ {A = Option ℕ} (Some (position_or_len (is_due due) rows)) (Some place) = k in cc)
        (λ _ k. absurd (let j : ◌≡◌ {A = Option ℕ} None (Some place) = k in cc)) e
