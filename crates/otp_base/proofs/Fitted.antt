-- The children after a change are those of the specifications.
use Rattle.std.proofs.Common.{◌≡◌, ◌+◌, Bool, true, false, List, [], ◌∷◌, ◌++◌, Option, None, Some, ap, append-nil, append_assoc, arith, length, length-append, map, refl, true≢false, sym, ◌∙◌}
use Rattle.std.specs.Prelude.{if◌then◌else◌}
use Rattle.std.proofs.lemmas.List.{map-append}
use Rattle.otp_spec.specs.declared.child.ChildSpec.{ChildSpec}
use Rattle.otp_spec.specs.declared.flags.SupFlags.{SupFlags}
use Rattle.otp_spec.specs.Flags.{is_simple}
use Rattle.otp_table.specs.declared.row.Row.{Row}
use Rattle.otp_rules.specs.State.{State, is_over}
use Rattle.otp_base.specs.declared.change.seat.Seat.{Seat}
use Rattle.otp_base.specs.declared.change.seat.Seat.TheVariants.{Kept, Added}
use Rattle.otp_base.specs.Change.{changed, shared}
use Rattle.otp_base.specs.Seats.{added_row, filled, kept_rows, named, rows_of, seat_of, seated, standing, with_seat, Seated}

-- the specification of a seat
abbrev seat_spec : Seat → ChildSpec
seat_spec (Kept row) = row.spec
seat_spec (Added spec) = spec

filled_specs : (used rows : List Row) (seats : List Seat)
    → map (λ row. row.spec) (filled used rows seats) ≡ map (λ row. row.spec) rows ++ map seat_spec seats
filled_specs used rows [] = sym (append-nil (map (λ (row : Row). row.spec) rows))
filled_specs used rows (Kept row ∷ seats) =
    filled_specs used (rows ++ row ∷ []) seats
    ∙ ap (λ (xs : List ChildSpec). xs ++ map seat_spec seats) (map-append (λ (r : Row). r.spec) rows (row ∷ []))
    ∙ append_assoc (map (λ (r : Row). r.spec) rows) (row.spec ∷ []) (map seat_spec seats)
filled_specs used rows (Added spec ∷ seats) =
    let row : Row = added_row spec used in
    filled_specs (used ++ row ∷ []) (rows ++ row ∷ []) seats
    ∙ ap (λ (xs : List ChildSpec). xs ++ map seat_spec seats) (map-append (λ (r : Row). r.spec) rows (row ∷ []))
    ∙ append_assoc (map (λ (r : Row). r.spec) rows) (spec ∷ []) (map seat_spec seats)

own_spec : (spec : ChildSpec) (found : Option Row) → seat_spec (seat_of spec found) ≡ spec
own_spec spec None = refl
own_spec spec (Some _) = refl

seated_specs : (specs : List ChildSpec) (s : Seated) → map seat_spec (seated s specs).seats ≡ map seat_spec s.seats ++ specs
seated_specs [] s = sym (append-nil (map seat_spec s.seats))
seated_specs (spec ∷ specs) s =
    let seat : Seat = seat_of spec (named spec.id s.left) in
    seated_specs specs (with_seat spec s)
    ∙ ap (λ (xs : List ChildSpec). xs ++ specs) (map-append seat_spec s.seats (seat ∷ []))
    ∙ append_assoc (map seat_spec s.seats) (seat_spec seat ∷ []) specs
    ∙ ap (λ (x : ChildSpec). map seat_spec s.seats ++ x ∷ specs) (own_spec spec (named spec.id s.left))

rows_fit : (rows : List Row) (specs : List ChildSpec) → map (λ row. row.spec) (rows_of (seated (standing rows) specs).seats) ≡ specs
rows_fit rows specs =
    let seats : List Seat = (seated (standing rows) specs).seats in
    filled_specs (kept_rows seats) [] seats ∙ seated_specs specs (standing rows)

fit_by : (b over : Bool) (rows : List Row) (specs : List ChildSpec) → b ≡ false → over ≡ false
    → map (λ row. row.spec) (if b then map (shared specs) rows else rows_of (seated (standing rows) (if over then [] else specs)).seats) ≡ specs
fit_by false false rows specs static runs = rows_fit rows specs
fit_by false true rows specs static runs = absurd (true≢false runs)
fit_by true over rows specs static runs = absurd (true≢false static)

pub children_fit : (flags : SupFlags) (specs : List ChildSpec) (s : State) → is_simple flags.strategy ≡ false → is_over s.phase ≡ false
    → map (λ row. row.spec) (changed flags specs s).rows ≡ specs
children_fit flags specs s static runs = fit_by (is_simple flags.strategy) (is_over s.phase) s.rows specs static runs

filled_length : (used rows : List Row) (seats : List Seat) → length (filled used rows seats) ≡ length rows + length seats
filled_length used rows [] = omega arith
filled_length used rows (Kept row ∷ seats) = omega (arith, filled_length used (rows ++ row ∷ []) seats, length-append rows (row ∷ []))
filled_length used rows (Added spec ∷ seats) =
    let row : Row = added_row spec used in
    omega (arith, filled_length (used ++ row ∷ []) (rows ++ row ∷ []) seats, length-append rows (row ∷ []))

pub rows_length : (seats : List Seat) → length (rows_of seats) ≡ length seats
rows_length seats = omega (arith, filled_length (kept_rows seats) [] seats)
