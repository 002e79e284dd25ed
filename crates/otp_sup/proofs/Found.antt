-- The child that heeds a note is the one that has the note's process: two rows that have one process are one row.
use Rattle.std.specs.Prelude.{◌≡◌, ℕ, ◌<◌, ◌≤◌, Bool, true, false, List, [], ◌∷◌, Option, None, Some, Contains, refl, if◌then◌else◌, is_some, length, position, count_by}
use Prim.Native.Nat.{zero, suc}
use Rattle.std.proofs.Common.{◌∙◌, ap, sym, subst, arith, cond, get_or, ⊎_elim}
use Rattle.std.proofs.lemmas.Bool.{false≢true, cases_Bool, eq-eqb}
use Rattle.std.proofs.lemmas.List.Quantifiers.{position-Some}
use Rattle.std.proofs.lemmas.List.Sums.{sum_by-cons}
use Rattle.otp_reason.specs.declared.note.Note.{Note}
use Rattle.otp_reason.specs.declared.note.Note.TheVariants as note
use Rattle.otp_table.specs.declared.row.Row.{Row}
use Rattle.otp_table.specs.declared.row.RowState.{RowState}
use Rattle.otp_table.specs.declared.row.RowState.TheVariants.{Undefined, Starting, Up, Asked, Killed, Restarting}
use Rattle.otp_table.specs.Rows.{has_process, has_slot, row_has}
use Rattle.otp_rules.specs.Fit.{is_starting}
use Rattle.otp_rules.specs.Slots.{AreSlotted}
use Rattle.otp_rules.proofs.Counting.{found}
use Rattle.otp_bodies.specs.Letters.{number_of}
use Rattle.otp_bodies.specs.Offices.{AreApart}
use Rattle.otp_sup.specs.Moves.{is_heeded, slot_heeding}

-- as many rows as there are of a slot: one at most, so two are one

pub contains_counts : (t : Row → Bool) (rows : List Row) (row : Row) → Contains rows row → t row ≡ true → 0 < count_by t rows
contains_counts t [] row c h = absurd (omega (arith, c.1))
contains_counts t (x ∷ xs) row (zero, a, b) h =
    let one : ◌≡◌ {A = ℕ} (cond (t x) 1 0) 1 = ap (λ (r : Bool). cond r 1 0) (subst (λ (r : Row). t r ≡ true) (sym b) h) in
    omega (arith, one, sum_by-cons (λ (r : Row). cond (t r) 1 0) x xs)
contains_counts t (x ∷ xs) row (suc k, a, b) h = omega (arith, contains_counts t xs row (k, omega (arith, a), b) h, sum_by-cons (λ (r : Row). cond (t r) 1 0) x xs)

one_row : (t : Row → Bool) (rows : List Row) (a b : Row) → count_by t rows ≤ 1 → Contains rows a → Contains rows b → t a ≡ true → t b ≡ true → a ≡ b
one_row t [] a b few ca cb ha hb = absurd (omega (arith, ca.1))
one_row t (x ∷ xs) a b few (zero, wa, ea) (zero, wb, eb) ha hb = sym ea ∙ eb
one_row t (x ∷ xs) a b few (zero, wa, ea) (suc j, wb, eb) ha hb =
    let one : ◌≡◌ {A = ℕ} (cond (t x) 1 0) 1 = ap (λ (r : Bool). cond r 1 0) (subst (λ (r : Row). t r ≡ true) (sym ea) ha) in
    absurd (omega (arith, few, one, contains_counts t xs b (j, omega (arith, wb), eb) hb, sum_by-cons (λ (r : Row). cond (t r) 1 0) x xs))
one_row t (x ∷ xs) a b few (suc i, wa, ea) (zero, wb, eb) ha hb =
    let one : ◌≡◌ {A = ℕ} (cond (t x) 1 0) 1 = ap (λ (r : Bool). cond r 1 0) (subst (λ (r : Row). t r ≡ true) (sym eb) hb) in
    absurd (omega (arith, few, one, contains_counts t xs a (i, omega (arith, wa), ea) ha, sum_by-cons (λ (r : Row). cond (t r) 1 0) x xs))
one_row t (x ∷ xs) a b few (suc i, wa, ea) (suc j, wb, eb) ha hb =
    one_row t xs a b (let e = sum_by-cons (λ (r : Row). cond (t r) 1 0) x xs in omega (arith, few, e)) (i, omega (arith, wa), ea) (j, omega (arith, wb), eb) ha hb

pub same_slot : (rows : List Row) (a b : Row) → AreSlotted rows → Contains rows a → Contains rows b → a.slot ≡ b.slot → a ≡ b
same_slot rows a b own ca cb same = one_row (has_slot b.slot) rows a b (own.one b.slot) ca cb (eq-eqb a.slot b.slot same) (eq-eqb b.slot b.slot refl)

pub in_list : (xs : List Row) (i : ℕ) (d : Row) → i < length xs → Contains xs (get_or xs i d)
in_list [] i d w = absurd (omega (arith, w))
in_list (x ∷ xs) zero d w = (0, omega arith, refl)
in_list (x ∷ xs) (suc i) d w = let r : Contains xs (get_or xs i d) = in_list xs i d (omega (arith, w)) in (suc r.0, omega (arith, r.1), r.2)

-- who heeds a note has its process

starting_has : (p : ℕ) (state : RowState) → is_starting p state ≡ true → has_process p state ≡ true
starting_has p Undefined h = absurd (false≢true h)
starting_has p (Starting q k) h = h
starting_has p (Up q) h = absurd (false≢true h)
starting_has p (Asked q d) h = absurd (false≢true h)
starting_has p (Killed q) h = absurd (false≢true h)
starting_has p (Restarting k) h = absurd (false≢true h)

heeding_has : (x : Note) (row : Row) → is_heeded x row ≡ true → has_process (number_of x) row.state ≡ true
heeding_has (note.Up p) row h = absurd (false≢true h)
heeding_has (note.Ignored p) row h = starting_has p row.state h
heeding_has (note.Failed p r) row h = starting_has p row.state h
heeding_has (note.Exit p r) row h = h

-- no row heeds it
none_heeding : (x : Note) (rows : List Row) → ((row : Row) → Contains rows row → is_heeded x row ≡ true → ⊥) → slot_heeding x rows ≡ None
none_heeding x [] none = refl
none_heeding x (r ∷ rows) none =
    ⊎_elim
    (λ (h : is_heeded x r ≡ true). absurd (none r (0, omega arith, refl) h))
    (λ (h : is_heeded x r ≡ false).
    ap (λ (b : Bool). if b then Some r.slot else slot_heeding x rows) h ∙ none_heeding x rows (λ row c heeds. none row (suc c.0, (let w = c.1 in omega (arith, w)), c.2) heeds))
    (cases_Bool (is_heeded x r))

-- a row does, and all that do have one slot
some_heeding : (x : Note) (rows : List Row) (slot : ℕ) (row : Row) → ((r : Row) → Contains rows r → is_heeded x r ≡ true → r.slot ≡ slot) → Contains rows row → is_heeded x row ≡ true → slot_heeding x rows ≡ Some slot
some_heeding x [] slot row all c h = absurd (omega (arith, c.1))
some_heeding x (r ∷ rows) slot row all (zero, w, e) h =
    let here : is_heeded x r ≡ true = subst (λ (y : Row). is_heeded x y ≡ true) (sym e) h in
    ap (λ (b : Bool). if b then Some r.slot else slot_heeding x rows) here ∙ ap (λ (n : ℕ). Some n) (all r (0, omega arith, refl) here)
some_heeding x (r ∷ rows) slot row all (suc k, w, e) h =
    ⊎_elim
    (λ (here : is_heeded x r ≡ true). ap (λ (b : Bool). if b then Some r.slot else slot_heeding x rows) here ∙ ap (λ (n : ℕ). Some n) (all r (0, omega arith, refl) here))
    (λ (no : is_heeded x r ≡ false).
    ap (λ (b : Bool). if b then Some r.slot else slot_heeding x rows) no
    ∙ some_heeding x rows slot row (λ y c heeds. all y (suc c.0, (let u = c.1 in omega (arith, u)), c.2) heeds) (k, omega (arith, w), e) h)
    (cases_Bool (is_heeded x r))

-- where no row has the note's process, none heeds it
pub unfound_heeding : (x : Note) (rows : List Row) → position (row_has (has_process (number_of x))) rows ≡ None → slot_heeding x rows ≡ None
unfound_heeding x rows none =
    none_heeding x rows
    (λ row c h.
    let t : Row → Bool = row_has (has_process (number_of x)) in
    let some : is_some (position t rows) ≡ true = found t rows (contains_counts t rows row c (heeding_has x row h)) in
    false≢true (ap (λ (o : Option ℕ). is_some o) (sym none) ∙ some))

-- where one has it, that one heeds it or none does
pub found_heeding : (x : Note) (rows : List Row) (place : ℕ) (d : Row) → AreSlotted rows → AreApart rows → position (row_has (has_process (number_of x))) rows ≡ Some place
    → slot_heeding x rows ≡ (if is_heeded x (get_or rows place d) then Some (get_or rows place d).slot else None)
found_heeding x rows place d own apart is = by (is_heeded x row) refl
  where
    row : Row
    row = get_or rows place d

    at : (place < length rows) × (has_process (number_of x) row.state ≡ true)
    at = let p = position-Some (row_has (has_process (number_of x))) rows place d is in (p.0, p.1)

    among : Contains rows row
    among = in_list rows place d at.0

    same : (r : Row) → Contains rows r → is_heeded x r ≡ true → r.slot ≡ row.slot
    same r c h = (apart r row (number_of x) (number_of x) c among (heeding_has x r h) at.1).1 refl

    by : (b : Bool) → is_heeded x row ≡ b → slot_heeding x rows ≡ (if is_heeded x row then Some row.slot else None)
    by true h = some_heeding x rows row.slot row same among h ∙ sym (ap (λ (b : Bool). if b then Some row.slot else None) h)
    by false h =
        none_heeding x rows (λ r c heeds. false≢true (sym h ∙ subst (λ (y : Row). is_heeded x y ≡ true) (same_slot rows r row own c among (same r c heeds)) heeds))
        ∙ sym (ap (λ (b : Bool). if b then Some row.slot else None) h)
