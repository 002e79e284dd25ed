-- After a change, too, no two children have one slot, and each slot is below the limit.
use Rattle.std.proofs.Common.{◌≡◌, ◌+◌, ◌<◌, ◌≤◌, ◌==◌, ◌||◌, ◌&&◌, ℕ, All, Bool, true, false, cond, not, List, [], ◌∷◌, ◌++◌, Option, None, Some, ap, arith, count_by, length, length-append, map, nat_lt, refl, subst, sym, ◌∙◌, inl, inr, ⊎_elim}
use Rattle.std.specs.Prelude.{◌⊎◌, if◌then◌else◌}
use Rattle.std.specs.List.{list_any}
use Prim.Native.Nat.{suc, zero}
use Rattle.std.proofs.lemmas.Bool.{cases_Bool, cond_both, eq-eqb, eqb-true, false≢true, lt-ltb, ltb-false, ltb-true}
use Rattle.std.proofs.lemmas.List.Elements.{All-head, All-tail}
use Rattle.std.proofs.lemmas.Option.{none-some}
use Rattle.otp_spec.specs.declared.child.ChildSpec.{ChildSpec}
use Rattle.otp_spec.specs.declared.fault.SpecFault.{SpecFault}
use Rattle.otp_spec.specs.declared.fault.SpecFault.TheVariants.{BadFlag, SimpleNeedsOne, TooManyChildren}
use Rattle.otp_spec.specs.declared.flags.SupFlags.{SupFlags}
use Rattle.otp_spec.specs.declared.limits.TheConstants.{MAX_CHILDREN}
use Rattle.otp_spec.specs.Flags.{are_lawful_flags, is_simple}
use Rattle.otp_spec.specs.Lawful.{first_fault}
use Rattle.otp_spec.specs.Supervisor.{supervisor_fault}
use Rattle.otp_table.specs.declared.row.Row.{Row}
use Rattle.otp_table.specs.Rows.{free_from, free_slot, has_slot}
use Rattle.otp_rules.specs.Slots.{AreSlotted}
use Rattle.otp_rules.specs.State.{State, is_over}
use Rattle.otp_base.specs.declared.change.seat.Seat.{Seat}
use Rattle.otp_base.specs.declared.change.seat.Seat.TheVariants.{Kept, Added}
use Rattle.otp_base.specs.Change.{MayChange, changed, shared}
use Rattle.otp_base.specs.Seats.{added_row, filled, kept_rows, rows_of, seated, standing, vacant}
use Rattle.otp_base.proofs.Counted.{all_counted, count-cons, count-push, seat_count, shared_count}
use Rattle.otp_base.proofs.Kept.{no_plan_fault}
use Rattle.otp_base.proofs.Resumes.{plan_length}
use Rattle.otp_base.proofs.Seating.{all_seats, each_seat}

-- how many rows have the slot
abbrev holding : ℕ → List Row → ℕ
holding k rows = count_by (has_slot k) rows

-- how many have one below this
abbrev below : ℕ → List Row → ℕ
below m rows = count_by (λ (r : Row). nat_lt r.slot m) rows

zero_if : (b : Bool) → b ≡ false → ◌≡◌ {A = ℕ} (cond b 1 0) 0
zero_if b h = ap (λ (x : Bool). cond {A = ℕ} x 1 0) h

one_if : (b : Bool) → b ≡ true → ◌≡◌ {A = ℕ} (cond b 1 0) 1
one_if b h = ap (λ (x : Bool). cond {A = ℕ} x 1 0) h

at_most_1 : (b : Bool) → cond b 1 0 ≤ 1
at_most_1 true = omega arith
at_most_1 false = omega arith

parts : (a b c : Bool) → (a ≡ true → c ≡ true) → (b ≡ true → c ≡ true) → (a ≡ true → b ≡ false) → cond a 1 0 + cond b 1 0 ≤ cond c 1 0
parts true true c f g h = absurd (false≢true (sym (h refl)))
parts true false c f g h = omega (arith, one_if c (f refl))
parts false true c f g h = omega (arith, one_if c (g refl))
parts false false c f g h = omega arith

one_more : (x m : ℕ) → cond (nat_lt x m) 1 0 + cond (x == m) 1 0 ≤ cond (nat_lt x (suc m)) 1 0
one_more x m =
    parts (nat_lt x m) (x == m) (nat_lt x (suc m))
    (λ less. lt-ltb x (suc m) (omega (arith, ltb-true x m less)))
    (λ same. lt-ltb x (suc m) (let z : x ≡ m = eqb-true x m same in omega (arith, z)))
    (λ less. ⊎_elim (λ same. absurd (let z : x ≡ m = eqb-true x m same in omega (arith, z, ltb-true x m less))) (λ other. other) (cases_Bool (x == m)))

below-more : (m : ℕ) (rows : List Row) → below m rows + holding m rows ≤ below (suc m) rows
below-more m [] = omega arith
below-more m (row ∷ rows) =
    omega (
      arith,
      count-cons (λ (r : Row). nat_lt r.slot (suc m)) row rows,
      count-cons (λ (r : Row). nat_lt r.slot m) row rows,
      count-cons (has_slot m) row rows,
      below-more m rows,
      one_more row.slot m,
    )

below-length : (m : ℕ) (rows : List Row) → below m rows ≤ length rows
below-length m [] = omega arith
below-length m (row ∷ rows) = omega (arith, count-cons (λ (r : Row). nat_lt r.slot m) row rows, below-length m rows, at_most_1 (nat_lt row.slot m))

-- so many slots are taken, so many rows are there
taken : (m : ℕ) (rows : List Row) → ((j : ℕ) → j < m → 1 ≤ holding j rows) → m ≤ below m rows
taken zero rows h = omega arith
taken (suc m) rows h = omega (arith, taken m rows (λ j less. h j (omega (arith, less))), below-more m rows, h m (omega arith))

some_at : (k : ℕ) (row : Row) (rows : List Row) (b : Bool) → (row.slot == k) ≡ b → (list_any (has_slot k) rows ≡ true → 1 ≤ holding k rows) → (b || list_any (has_slot k) rows) ≡ true → 1 ≤ holding k (row ∷ rows)
some_at k row rows true is rest e = omega (arith, count-cons (has_slot k) row rows, one_if (row.slot == k) is)
some_at k row rows false is rest e = omega (arith, count-cons (has_slot k) row rows, rest e)

some_holds : (k : ℕ) (rows : List Row) → list_any (has_slot k) rows ≡ true → 1 ≤ holding k rows
some_holds k [] h = absurd (false≢true h)
some_holds k (row ∷ rows) h = some_at k row rows (row.slot == k) refl (λ e. some_holds k rows e) h

none_at : (k : ℕ) (row : Row) (rows : List Row) (b : Bool) → (row.slot == k) ≡ b → (list_any (has_slot k) rows ≡ false → holding k rows ≡ 0) → (b || list_any (has_slot k) rows) ≡ false → holding k (row ∷ rows) ≡ 0
none_at k row rows true is rest e = absurd (false≢true (sym e))
none_at k row rows false is rest e = omega (arith, count-cons (has_slot k) row rows, zero_if (row.slot == k) is, rest e)

none_holds : (k : ℕ) (rows : List Row) → list_any (has_slot k) rows ≡ false → holding k rows ≡ 0
none_holds k [] h = refl
none_holds k (row ∷ rows) h = none_at k row rows (row.slot == k) refl (λ e. none_holds k rows e) h

or_same : (j slot : ℕ) → j < slot + 1 → (j < slot) ⊎ (j ≡ slot)
or_same j slot less =
    ⊎_elim (λ yes. inl (ltb-true j slot yes)) (λ no. inr (let ge = ltb-false j slot no in omega (arith, ge, less))) (cases_Bool (nat_lt j slot))

-- the slot that the search finds is free
found_free : (more slot : ℕ) (rows : List Row) → slot + more ≡ length rows → ((j : ℕ) → j < slot → 1 ≤ holding j rows) → holding (free_from more slot rows) rows ≡ 0
unfolding free_from
found_free zero slot rows all before = omega (arith, all, taken slot rows before, below-more slot rows, below-length (suc slot) rows)
found_free (suc more) slot rows all before =
    cond_both (list_any (has_slot slot) rows) (free_from more (slot + 1) rows) slot (λ (k : ℕ). holding k rows ≡ 0)
    (λ some. found_free more (slot + 1) rows (omega (arith, all))
    (λ j less. ⊎_elim (λ h. before j h) (λ (z : j ≡ slot). subst (λ (n : ℕ). 1 ≤ holding n rows) (sym z) (some_holds slot rows some)) (or_same j slot less)))
    (λ none. none_holds slot rows none)

free : (rows : List Row) → holding (free_slot rows) rows ≡ 0
unfolding free_slot
free rows = found_free (length rows) 0 rows (omega arith) (λ j less. absurd (omega (arith, less)))

found_within : (more slot : ℕ) (rows : List Row) → free_from more slot rows ≤ slot + more
unfolding free_from
found_within zero slot rows = omega arith
found_within (suc more) slot rows =
    cond_both (list_any (has_slot slot) rows) (free_from more (slot + 1) rows) slot (λ (k : ℕ). k ≤ slot + suc more)
    (λ _. omega (arith, found_within more (slot + 1) rows)) (λ _. omega arith)

free_within : (rows : List Row) → free_slot rows ≤ length rows
unfolding free_slot
free_within rows = omega (arith, found_within (length rows) 0 rows)

-- each slot has one row at most, and none from the limit on has one
abbrev Slotted : List Row → Type 0
Slotted rows = ((k : ℕ) → holding k rows ≤ 1) × ((k : ℕ) → MAX_CHILDREN ≤ k → holding k rows ≡ 0)

fewer : (xs ys : List Row) → ((k : ℕ) → holding k ys ≤ holding k xs) → Slotted xs → Slotted ys
fewer xs ys less h = (λ k. omega (arith, less k, h.0 k), λ k high. omega (arith, less k, h.1 k high))

-- a row more, in the slot that is free
one_added : (used : List Row) (row : Row) (slot : ℕ) → row.slot ≡ slot → holding slot used ≡ 0 → slot < MAX_CHILDREN → Slotted used → Slotted (used ++ row ∷ [])
one_added used row slot is none low h = (
  λ k. ⊎_elim
      (λ (same : (row.slot == k) ≡ true).
      let here : holding k used ≡ 0 = subst (λ (n : ℕ). holding n used ≡ 0) (sym is ∙ eqb-true row.slot k same) none in
      omega (arith, count-push (has_slot k) used row, one_if (row.slot == k) same, here))
      (λ (other : (row.slot == k) ≡ false). omega (arith, count-push (has_slot k) used row, zero_if (row.slot == k) other, h.0 k))
      (cases_Bool (row.slot == k)),
  λ k high. ⊎_elim
      (λ (same : (row.slot == k) ≡ true). absurd (let z : row.slot ≡ k = eqb-true row.slot k same in omega (arith, z, is, low, high)))
      (λ (other : (row.slot == k) ≡ false). omega (arith, count-push (has_slot k) used row, zero_if (row.slot == k) other, h.1 k high))
      (cases_Bool (row.slot == k)),
)

-- the slots of the rows that there are, and of those that have seats, are taken
abbrev Covers : List Row → List Row → List Seat → Type 0
Covers used rows seats = (k : ℕ) → holding k rows + seat_count (has_slot k) seats ≤ holding k used

filled_slotted : (used rows : List Row) (seats : List Seat) → Covers used rows seats → length used + vacant seats ≤ MAX_CHILDREN → Slotted used → Slotted (filled used rows seats)
filled_slotted used rows [] covers few h = fewer used rows (λ k. omega (arith, covers k)) h
filled_slotted used rows (Kept row ∷ seats) covers few h =
    filled_slotted used (rows ++ row ∷ []) seats (λ k. omega (arith, covers k, count-push (has_slot k) rows row)) few h
filled_slotted used rows (Added spec ∷ seats) covers few h =
    let row : Row = added_row spec used in
    filled_slotted (used ++ row ∷ []) (rows ++ row ∷ []) seats
    (λ k. omega (arith, covers k, count-push (has_slot k) rows row, count-push (has_slot k) used row))
    (omega (arith, few, length-append used (row ∷ [])))
    (one_added used row (free_slot used) refl (free used) (omega (arith, few, free_within used)) h)

kept_count : (test : Row → Bool) (seats : List Seat) → count_by test (kept_rows seats) ≡ seat_count test seats
kept_count test [] = refl
kept_count test (Kept row ∷ seats) = omega (arith, count-cons test row (kept_rows seats), kept_count test seats)
kept_count test (Added _ ∷ seats) = kept_count test seats

seats_slotted : (rows : List Row) (specs : List ChildSpec) → length specs ≤ MAX_CHILDREN → Slotted rows → Slotted (rows_of (seated (standing rows) specs).seats)
seats_slotted rows specs few h =
    let seats : List Seat = (seated (standing rows) specs).seats in
    let kept : (k : ℕ) → holding k (kept_rows seats) ≤ holding k rows =
    λ k. omega (arith, kept_count (has_slot k) seats, all_counted (has_slot k) (λ spec row. refl) specs (standing rows)) in
    filled_slotted (kept_rows seats) [] seats
    (λ k. let none : holding k [] ≡ 0 = refl in omega (arith, none, kept_count (has_slot k) seats))
    (omega (arith, few, all_seats seats, each_seat specs (standing rows)))
    (fewer rows (kept_rows seats) kept h)

slotted_by : (b over : Bool) (rows : List Row) (specs : List ChildSpec) → length specs ≤ MAX_CHILDREN → Slotted rows
    → Slotted (if b then map (shared specs) rows else rows_of (seated (standing rows) (if over then [] else specs)).seats)
slotted_by true over rows specs few h = fewer rows (map (shared specs) rows) (λ k. omega (arith, shared_count (has_slot k) (λ spec row. refl) specs rows)) h
slotted_by false over rows specs few h =
    let plan : List ChildSpec = if over then [] else specs in
    seats_slotted rows plan (omega (arith, few, plan_length over specs)) h

-- more specifications than the limit are a fault
few_specs : (flags : SupFlags) (specs : List ChildSpec) → supervisor_fault flags specs ≡ None → length specs ≤ MAX_CHILDREN
unfolding supervisor_fault
few_specs flags specs =
    let P : Option SpecFault → Type 0 = λ fault. fault ≡ None → length specs ≤ MAX_CHILDREN in
    let last : Option SpecFault = if nat_lt MAX_CHILDREN (length specs) then Some TooManyChildren else first_fault specs (Some flags.auto_shutdown) in
    cond_both (not (are_lawful_flags flags)) (Some BadFlag) (if is_simple flags.strategy && not (length specs == 1) then Some SimpleNeedsOne else last) P
    (λ _ e. absurd (none-some BadFlag (sym e)))
    (λ _. cond_both (is_simple flags.strategy && not (length specs == 1)) (Some SimpleNeedsOne) last P
    (λ _ e. absurd (none-some SimpleNeedsOne (sym e)))
    (λ _. cond_both (nat_lt MAX_CHILDREN (length specs)) (Some TooManyChildren) (first_fault specs (Some flags.auto_shutdown)) P
    (λ _ e. absurd (none-some TooManyChildren (sym e)))
    (λ few _. ltb-false MAX_CHILDREN (length specs) few)))

each_below : (rows : List Row) → ((k : ℕ) → MAX_CHILDREN ≤ k → holding k rows ≡ 0) → All (λ row. row.slot < MAX_CHILDREN) rows
each_below [] h i d less = absurd (omega (arith, less))
each_below (row ∷ rows) h zero d less =
    ⊎_elim
    (λ (yes : nat_lt row.slot MAX_CHILDREN ≡ true). ltb-true row.slot MAX_CHILDREN yes)
    (λ (no : nat_lt row.slot MAX_CHILDREN ≡ false). absurd (
    let high : MAX_CHILDREN ≤ row.slot = ltb-false row.slot MAX_CHILDREN no in
    omega (arith, h row.slot high, count-cons (has_slot row.slot) row rows, one_if (row.slot == row.slot) (eq-eqb row.slot row.slot refl))
    ))
    (cases_Bool (nat_lt row.slot MAX_CHILDREN))
each_below (row ∷ rows) h (suc i) d less = each_below rows (λ k high. omega (arith, h k high, count-cons (has_slot k) row rows)) i d (omega (arith, less))

none_above : (rows : List Row) → All (λ row. row.slot < MAX_CHILDREN) rows → (k : ℕ) → MAX_CHILDREN ≤ k → holding k rows ≡ 0
none_above [] h k high = refl
none_above (row ∷ rows) h k high =
    ⊎_elim
    (λ (same : (row.slot == k) ≡ true). absurd (let z : row.slot ≡ k = eqb-true row.slot k same in omega (arith, z, high, All-head (λ (r : Row). r.slot < MAX_CHILDREN) row rows h)))
    (λ (other : (row.slot == k) ≡ false). omega (arith, count-cons (has_slot k) row rows, zero_if (row.slot == k) other, none_above rows (All-tail (λ (r : Row). r.slot < MAX_CHILDREN) row rows h) k high))
    (cases_Bool (row.slot == k))

pub slots_stay : (flags : SupFlags) (specs : List ChildSpec) (s : State) → MayChange flags specs s → AreSlotted s.rows → AreSlotted (changed flags specs s).rows
slots_stay flags specs s may h =
    let few : length specs ≤ MAX_CHILDREN = few_specs flags specs (no_plan_fault flags specs s may.planned).1 in
    let end : Slotted (changed flags specs s).rows = slotted_by (is_simple flags.strategy) (is_over s.phase) s.rows specs few (h.one, none_above s.rows h.below) in
    record { one = end.0; below = λ i d less. each_below (changed flags specs s).rows end.1 i d less }
