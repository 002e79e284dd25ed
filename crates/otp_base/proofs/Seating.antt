-- What the seats of children say of places and lengths.
use Rattle.std.proofs.Common.{◌≡◌, ◌+◌, ◌<◌, ◌≤◌, ℕ, Bool, true, false, cond, not, List, [], ◌∷◌, Option, None, Some, ap, arith, get_or, length, length-append, nat_lt, refl, subst, sym, ⊎_elim}
use Prim.Native.Nat.{suc}
use Rattle.std.specs.Prelude.{if◌then◌else◌}
use Rattle.std.proofs.lemmas.Bool.{cases_Bool, ltb-true, ltb-false}
use Rattle.std.specs.List.{position, position_or_len, remove}
use Rattle.otp_reason.specs.declared.name.Name.{Name}
use Rattle.otp_spec.specs.declared.child.ChildSpec.{ChildSpec}
use Rattle.otp_table.specs.declared.row.Row.{Row}
use Rattle.otp_table.specs.Rows.{has_id}
use Rattle.otp_base.specs.declared.change.seat.Seat.{Seat}
use Rattle.otp_base.specs.declared.change.seat.Seat.TheVariants.{Kept, Added}
use Rattle.otp_base.specs.Seats.{kept_rows, named, seat_of, seated, vacant, with_seat, without, Seated}

-- each child kept has a seat that isn't vacant
pub all_seats : (seats : List Seat) → length (kept_rows seats) + vacant seats ≡ length seats
all_seats [] = refl
all_seats (Kept row ∷ seats) = omega (arith, all_seats seats)
all_seats (Added spec ∷ seats) = omega (arith, all_seats seats)

-- each specification has a seat
pub each_seat : (specs : List ChildSpec) (s : Seated) → length (seated s specs).seats ≡ length s.seats + length specs
each_seat [] s = omega arith
each_seat (spec ∷ specs) s = omega (arith, each_seat specs (with_seat spec s), length-append s.seats (seat_of spec (named spec.id s.left) ∷ []))

-- what stands at a place, and the rows without it; or that the place is behind all rows
abbrev FoundAt : List Row → Option Row → List Row → ℕ → Type 0
FoundAt rows found rest k =
    (k < length rows → ((d : Row) → found ≡ Some (get_or rows k d)) × (rest ≡ remove rows k))
    × (length rows ≤ k → (found ≡ None) × (rest ≡ rows))

found_more : (b : Bool) (row : Row) (rows : List Row) (found : Option Row) (rest : List Row) (k : ℕ) → FoundAt rows found rest k
    → FoundAt (row ∷ rows) (if b then Some row else found) (if b then rows else row ∷ rest) (cond (not b) (suc k) 0)
found_more true row rows found rest k h = (λ inside. (λ d. refl, refl), λ outside. absurd (omega (arith, outside)))
found_more false row rows found rest k h = (
  λ inside. let p = h.0 (omega (arith, inside)) in (λ d. p.0 d, ap (λ xs. row ∷ xs) p.1),
  λ outside. let p = h.1 (omega (arith, outside)) in (p.0, ap (λ xs. row ∷ xs) p.1),
)

found_at : (id : Name) (rows : List Row) → FoundAt rows (named id rows) (without id rows) (position_or_len (has_id id) rows)
found_at id [] = (λ inside. absurd (omega (arith, inside)), λ outside. (refl, refl))
found_at id (row ∷ rows) =
    let k : ℕ = position_or_len (has_id id) rows in
    let next : suc k ≡ 1 + k = omega arith in
    subst (λ (n : ℕ). FoundAt (row ∷ rows) (named id (row ∷ rows)) (without id (row ∷ rows)) (cond (not (has_id id row)) n 0)) next
    (found_more (has_id id row) row rows (named id rows) (without id rows) k (found_at id rows))

-- what a search for the first child with an id says
abbrev pub Told : Name → List Row → Option ℕ → Type 0
Told id rows None = (named id rows ≡ None) × (without id rows ≡ rows)
Told id rows (Some k) = ((d : Row) → named id rows ≡ Some (get_or rows k d)) × (without id rows ≡ remove rows k)

pub told : (id : Name) (rows : List Row) → Told id rows (position (has_id id) rows)
told id rows =
    let k : ℕ = position_or_len (has_id id) rows in
    let found = found_at id rows in
    ⊎_elim
    (λ (inside : nat_lt k (length rows) ≡ true). subst (λ (b : Bool). Told id rows (cond b (Some k) None)) (sym inside) (found.0 (ltb-true k (length rows) inside)))
    (λ (outside : nat_lt k (length rows) ≡ false). subst (λ (b : Bool). Told id rows (cond b (Some k) None)) (sym outside) (found.1 (ltb-false k (length rows) outside)))
    (cases_Bool (nat_lt k (length rows)))
