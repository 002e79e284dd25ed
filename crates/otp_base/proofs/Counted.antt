-- A test that asks for no specification is passed by as many children after a change as before.
use Rattle.std.proofs.Common.{◌≡◌, ◌+◌, ℕ, Bool, true, false, cond, not, List, [], ◌∷◌, ◌++◌, Option, None, Some, ap, arith, map, refl, sym, ◌∙◌, ⊎_elim, count_by}
use Rattle.std.specs.Prelude.{if◌then◌else◌}
use Rattle.std.specs.List.{list_any}
use Rattle.std.proofs.lemmas.Bool.{cases_Bool, false≢true, or_parts}
use Rattle.std.proofs.lemmas.List.Sums.{sum_by-append, sum_by-cons}
use Rattle.otp_spec.specs.declared.child.ChildSpec.{ChildSpec}
use Rattle.otp_spec.specs.declared.flags.SupFlags.{SupFlags}
use Rattle.otp_spec.specs.Flags.{is_simple}
use Rattle.otp_table.specs.declared.row.Row.{Row}
use Rattle.otp_table.specs.declared.row.RowState.{RowState}
use Rattle.otp_table.specs.declared.row.RowState.TheVariants.{Undefined, Starting, Up, Asked, Killed, Restarting}
use Rattle.otp_table.specs.Rows.{has_id, is_undefined, row_has}
use Rattle.otp_reason.specs.declared.name.Name.{Name}
use Rattle.otp_rules.specs.State.{State}
use Rattle.otp_base.specs.declared.change.seat.Seat.{Seat}
use Rattle.otp_base.specs.declared.change.seat.Seat.TheVariants.{Kept, Added}
use Rattle.otp_base.specs.Change.{MayChange, changed, is_defined, plan_in, shared}
use Rattle.otp_base.specs.Laws.{Spares}
use Rattle.otp_base.specs.Seats.{added_row, filled, kept_rows, named, respecified, rows_of, seat_of, seated, standing, with_seat, without, Seated}

pub count-cons : (test : Row → Bool) (row : Row) (rows : List Row) → count_by test (row ∷ rows) ≡ cond (test row) 1 0 + count_by test rows
count-cons test row rows = sum_by-cons (λ (r : Row). cond (test r) 1 0) row rows

count-append : (test : Row → Bool) (xs ys : List Row) → count_by test (xs ++ ys) ≡ count_by test xs + count_by test ys
count-append test xs ys = sum_by-append (λ (r : Row). cond (test r) 1 0) xs ys

pub count-push : (test : Row → Bool) (rows : List Row) (row : Row) → count_by test (rows ++ row ∷ []) ≡ count_by test rows + cond (test row) 1 0
count-push test rows row =
    let none : count_by test [] ≡ 0 = refl in
    omega (arith, count-append test rows (row ∷ []), count-cons test row [], none)

-- of the child that was found, if one was
abbrev found_count : (Row → Bool) → Option Row → ℕ
found_count test None = 0
found_count test (Some row) = cond (test row) 1 0

-- of the children that have seats
abbrev pub seat_count : (Row → Bool) → List Seat → ℕ
seat_count test [] = 0
seat_count test (Kept row ∷ seats) = cond (test row) 1 0 + seat_count test seats
seat_count test (Added _ ∷ seats) = seat_count test seats

-- the test asks for no specification
abbrev pub IsBlind : (Row → Bool) → Type 0
IsBlind test = (spec : ChildSpec) (row : Row) → test (respecified spec row) ≡ test row

taken_more : (test : Row → Bool) (b : Bool) (row : Row) (rows : List Row) (found : Option Row) (rest : List Row)
    → count_by test rows ≡ found_count test found + count_by test rest
    → count_by test (row ∷ rows) ≡ found_count test (if b then Some row else found) + count_by test (if b then rows else row ∷ rest)
taken_more test true row rows found rest h = count-cons test row rows
taken_more test false row rows found rest h = omega (arith, h, count-cons test row rows, count-cons test row rest)

taken : (test : Row → Bool) (id : Name) (rows : List Row) → count_by test rows ≡ found_count test (named id rows) + count_by test (without id rows)
taken test id [] = refl
taken test id (row ∷ rows) = taken_more test (has_id id row) row rows (named id rows) (without id rows) (taken test id rows)

same_one : (a b : Bool) → a ≡ b → ◌≡◌ {A = ℕ} (cond a 1 0) (cond b 1 0)
same_one a b h = ap (λ (x : Bool). cond {A = ℕ} x 1 0) h

seat_count-push : (test : Row → Bool) → IsBlind test → (seats : List Seat) (spec : ChildSpec) (found : Option Row)
    → seat_count test (seats ++ seat_of spec found ∷ []) ≡ seat_count test seats + found_count test found
seat_count-push test t [] spec None = refl
seat_count-push test t [] spec (Some row) = omega (arith, same_one (test (respecified spec row)) (test row) (t spec row))
seat_count-push test t (Kept row ∷ seats) spec found = omega (arith, seat_count-push test t seats spec found)
seat_count-push test t (Added _ ∷ seats) spec found = seat_count-push test t seats spec found

-- whoever has no seat yet is counted too
pub all_counted : (test : Row → Bool) → IsBlind test → (specs : List ChildSpec) (s : Seated)
    → seat_count test (seated s specs).seats + count_by test (seated s specs).left ≡ seat_count test s.seats + count_by test s.left
all_counted test t [] s = refl
all_counted test t (spec ∷ specs) s =
    omega (arith, all_counted test t specs (with_seat spec s), seat_count-push test t s.seats spec (named spec.id s.left), taken test spec.id s.left)

filled_count : (test : Row → Bool) → Spares test → (used rows : List Row) (seats : List Seat)
    → count_by test (filled used rows seats) ≡ count_by test rows + seat_count test seats
filled_count test t used rows [] = omega arith
filled_count test t used rows (Kept row ∷ seats) = omega (arith, filled_count test t used (rows ++ row ∷ []) seats, count-push test rows row)
filled_count test t used rows (Added spec ∷ seats) =
    let row : Row = added_row spec used in
    omega (arith, filled_count test t (used ++ row ∷ []) (rows ++ row ∷ []) seats, count-push test rows row, same_one (test row) false (t.alive row refl))

none_alive : (test : Row → Bool) → Spares test → (rows : List Row) → list_any is_defined rows ≡ false → count_by test rows ≡ 0
none_alive test t [] h = refl
none_alive test t (row ∷ rows) h =
    let parts = or_parts (is_defined row) (list_any is_defined rows) h in
    ⊎_elim
    (λ (idle : is_undefined row.state ≡ true). omega (arith, none_alive test t rows parts.1, count-cons test row rows, same_one (test row) false (t.alive row idle)))
    (λ (alive : is_undefined row.state ≡ false). absurd (false≢true (sym parts.0 ∙ ap (λ (b : Bool). not b) alive)))
    (cases_Bool (is_undefined row.state))

same_shared : (test : Row → Bool) → IsBlind test → (specs : List ChildSpec) (row : Row) → test (shared specs row) ≡ test row
same_shared test t [] row = refl
same_shared test t (spec ∷ _) row = t spec row

pub shared_count : (test : Row → Bool) → IsBlind test → (specs : List ChildSpec) (rows : List Row) → count_by test (map (shared specs) rows) ≡ count_by test rows
shared_count test t specs [] = refl
shared_count test t specs (row ∷ rows) =
    omega (arith, shared_count test t specs rows, count-cons test (shared specs row) (map (shared specs) rows), count-cons test row rows, same_one (test (shared specs row)) (test row) (same_shared test t specs row))

seats_counted : (test : Row → Bool) → Spares test → (rows : List Row) (specs : List ChildSpec) → list_any is_defined (seated (standing rows) specs).left ≡ false
    → count_by test (rows_of (seated (standing rows) specs).seats) ≡ count_by test rows
seats_counted test t rows specs h =
    let seats : List Seat = (seated (standing rows) specs).seats in
    let none : count_by test [] ≡ 0 = refl in
    omega (arith, filled_count test t (kept_rows seats) [] seats, all_counted test t.blind specs (standing rows), none_alive test t (seated (standing rows) specs).left h, none)

counted_by : (b : Bool) (test : Row → Bool) → Spares test → (rows : List Row) (specs plan : List ChildSpec)
    → list_any is_defined (if b then [] else (seated (standing rows) plan).left) ≡ false
    → count_by test (if b then map (shared specs) rows else rows_of (seated (standing rows) plan).seats) ≡ count_by test rows
counted_by true test t rows specs plan h = shared_count test t.blind specs rows
counted_by false test t rows specs plan h = seats_counted test t rows plan h

pub children_stay : (flags : SupFlags) (specs : List ChildSpec) (s : State) (test : Row → Bool) → MayChange flags specs s → Spares test
    → count_by test (changed flags specs s).rows ≡ count_by test s.rows
children_stay flags specs s test may t = counted_by (is_simple flags.strategy) test t s.rows specs (plan_in s.phase specs) may.kept

-- a test of what a child's process does
idle_fails : (t : RowState → Bool) → t Undefined ≡ false → (state : RowState) → is_undefined state ≡ true → t state ≡ false
idle_fails t h Undefined idle = h
idle_fails t h (Starting _ _) idle = absurd (false≢true idle)
idle_fails t h (Up _) idle = absurd (false≢true idle)
idle_fails t h (Asked _ _) idle = absurd (false≢true idle)
idle_fails t h (Killed _) idle = absurd (false≢true idle)
idle_fails t h (Restarting _) idle = absurd (false≢true idle)

pub by_state : (t : RowState → Bool) → t Undefined ≡ false → Spares (row_has t)
by_state t h = record { blind = λ spec row. refl; alive = λ row idle. idle_fails t h row.state idle }
