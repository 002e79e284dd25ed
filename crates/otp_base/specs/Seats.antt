-- Which child takes which place of new specifications.
use Rattle.std.specs.Prelude.{ℕ, List, [], ◌∷◌, ◌++◌, ◌+◌, Option, None, Some, if◌then◌else◌}
use Rattle.std.specs.List.{filter_map}
use Rattle.otp_reason.specs.declared.name.Name.{Name}
use Rattle.otp_spec.specs.declared.child.ChildSpec.{ChildSpec}
use Rattle.otp_table.specs.declared.row.Row.{Row}
use Rattle.otp_table.specs.declared.row.RowState.TheVariants.{Undefined}
use Rattle.otp_table.specs.Rows.{free_slot, has_id}
use Rattle.otp_base.specs.declared.change.seat.Seat.{Seat}
use Rattle.otp_base.specs.declared.change.seat.Seat.TheVariants.{Kept, Added}

-- the first of these rows that has this id, if one has it
abbrev pub named : Name → List Row → Option Row
named id [] = None
named id (row ∷ rows) = if has_id id row then Some row else named id rows

-- the rows without that one
abbrev pub without : Name → List Row → List Row
without id [] = []
without id (row ∷ rows) = if has_id id row then rows else row ∷ without id rows

-- the row under another specification: its slot, its id and its process stay (supervisor, code_change/3)
abbrev pub respecified : ChildSpec → Row → Row
respecified spec row = record row { spec = spec }

-- the seats that were given, and the rows that have none yet
pub record Seated : Type 0 where
  pub seats : List Seat
  pub left : List Row

-- the seat of a specification is that of the child with its id, if there is one
abbrev pub seat_of : ChildSpec → Option Row → Seat
seat_of spec None = Added spec
seat_of spec (Some row) = Kept (respecified spec row)

abbrev pub with_seat : ChildSpec → Seated → Seated
with_seat spec s =
    record { seats = s.seats ++ seat_of spec (named spec.id s.left) ∷ []; left = without spec.id s.left }

-- each of these specifications, in its order, has a seat
abbrev pub seated : Seated → List ChildSpec → Seated
seated s [] = s
seated s (spec ∷ specs) = seated (with_seat spec s) specs

-- nobody has a seat
abbrev pub standing : List Row → Seated
standing rows = record { seats = []; left = rows }

-- the child that is kept, if the seat has one
abbrev pub kept_row : Seat → Option Row
kept_row (Kept row) = Some row
kept_row (Added _) = None

abbrev pub kept_rows : List Seat → List Row
kept_rows seats = filter_map kept_row seats

-- how many seats have no child yet
abbrev pub vacant : List Seat → ℕ
vacant [] = 0
vacant (Kept _ ∷ seats) = vacant seats
vacant (Added _ ∷ seats) = vacant seats + 1

-- a child that is added has no process, and the least slot that none of these rows has (own)
abbrev pub added_row : ChildSpec → List Row → Row
added_row spec used = record { slot = free_slot used; id = Some spec.id; spec = spec; state = Undefined }

-- the rows of the seats, behind those that there are; the first list has each row whose slot is taken
abbrev pub filled : List Row → List Row → List Seat → List Row
filled used rows [] = rows
filled used rows (Kept row ∷ seats) = filled used (rows ++ row ∷ []) seats
filled used rows (Added spec ∷ seats) = filled (used ++ added_row spec used ∷ []) (rows ++ added_row spec used ∷ []) seats

-- the rows of all seats
abbrev pub rows_of : List Seat → List Row
rows_of seats = filled (kept_rows seats) [] seats
