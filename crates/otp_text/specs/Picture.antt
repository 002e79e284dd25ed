-- A run as a picture: a column a moment, a row a child, and below a supervisor's children its restarts (own).
use Rattle.std.specs.Prelude.{ℕ, ◌-◌, ◌/◌, ◌==◌, nat_lt, nat_le, Bool, true, false, not, ◌&&◌, List, [], ◌∷◌, ◌++◌, Option, Some, None, is_none, codes, decimal, replicate, length, drop, fold, position, slice_get, count_by, if◌then◌else◌}
use Rattle.std.specs.List.{flat_map, list_any}
use Rattle.std.specs.Option.{option_eq}
use Rattle.std.specs.Ordering.{on}
use Rattle.std.specs.Str.{bytes_eq}
use Rattle.otp_reason.specs.declared.name.Name.{Name}
use Rattle.otp_reason.specs.Names.{name_bytes}
use Rattle.otp_spec.specs.declared.flags.SupFlags.{SupFlags}
use Rattle.otp_table.specs.declared.row.RowState.{RowState}
use Rattle.otp_table.specs.declared.row.RowState.TheVariants.{Undefined, Starting, Up, Asked, Killed, Restarting}
use Rattle.otp_table.specs.Rows.{is_up}
use Rattle.otp_text.specs.Values.{process_text}
use Rattle.otp_text.specs.declared.timeline.cell.TheConstants.{CELL, LABEL, WIDTH}
use Rattle.otp_text.specs.declared.timeline.colour.Colour.{Colour}
use Rattle.otp_text.specs.declared.timeline.colour.Colour.TheVariants.{Plain, Green, Yellow, Red}
use Rattle.otp_text.specs.declared.timeline.column.Look.{Look}
use Rattle.otp_text.specs.declared.timeline.moment.Mark.{Mark}
use Rattle.otp_text.specs.declared.timeline.moment.Moment.{Moment}
use Rattle.otp_text.specs.declared.timeline.moment.Standing.{Standing}
use Rattle.otp_text.specs.declared.timeline.picture.TheConstants.{LONG}
use Rattle.otp_text.specs.Seconds.{seconds_text}

-- the escape sequence of a terminal for a colour
unfoldable pub opening : Colour → List ℕ
opening Plain = []
opening Green = 27 ∷ codes "[32m"
opening Yellow = 27 ∷ codes "[33m"
opening Red = 27 ∷ codes "[31m"

-- a text, in a colour where colours are wanted
unfoldable pub painted : Bool → Colour → List ℕ → List ℕ
painted false colour text = text
painted true Plain text = text
painted true colour text = opening colour ++ text ++ 27 ∷ codes "[0m"

-- a text that fits into a cell, with a space in front; or dots
unfoldable pub fitted : List ℕ → List ℕ
fitted text = if nat_lt (length text) CELL then text else codes "..."

-- a text at the right of a cell
unfoldable pub cell : Bool → Colour → List ℕ → List ℕ
cell is_coloured colour text = replicate (CELL - length (fitted text)) 32 ++ painted is_coloured colour (fitted text)

-- a text on a line of its own: its end where it is longer than the line
unfoldable pub label_line : List ℕ → List ℕ
label_line text =
    if nat_le (length text) WIDTH then text ++ codes "\n" else codes "..." ++ drop (length text - (WIDTH - 3)) text ++ codes "\n"

-- what stands in front of the cells of a line
unfoldable pub label : List ℕ → List ℕ
label text =
    if nat_lt (length text) LABEL then text ++ replicate (LABEL - length text) 32 else label_line text ++ replicate LABEL 32

-- a child runs, is on its way, or has no process
unfoldable pub colour_of : RowState → Colour
colour_of Undefined = Red
colour_of (Starting _ _) = Yellow
colour_of (Up _) = Green
colour_of (Asked _ _) = Yellow
colour_of (Killed _) = Yellow
colour_of (Restarting _) = Red

-- what a child does, with the number of its process
unfoldable pub state_text : RowState → List ℕ
state_text Undefined = codes "down"
state_text (Starting p _) = codes "+" ++ process_text p
state_text (Up p) = process_text p
state_text (Asked p _) = codes "-" ++ process_text p
state_text (Killed p) = codes "-" ++ process_text p
state_text (Restarting _) = codes "retry"

unfoldable pub marks_in : Option Standing → List Mark
marks_in None = []
marks_in (Some standing) = standing.marks

-- the children of the supervisor at this place
unfoldable pub marks_at : ℕ → Moment → List Mark
marks_at place moment = marks_in (slice_get moment.standings place)

abbrev pub is_child : Name → Mark → Bool
is_child id mark = option_eq (on name_bytes bytes_eq) mark.id (Some id)

unfoldable pub mark_found : List Mark → Option ℕ → Option Mark
mark_found marks None = None
mark_found marks (Some place) = slice_get marks place

-- the process of a child in this state
unfoldable pub process_in : RowState → Option ℕ
process_in Undefined = None
process_in (Starting p _) = Some p
process_in (Up p) = Some p
process_in (Asked p _) = Some p
process_in (Killed p) = Some p
process_in (Restarting _) = None

-- a number, or else another
unfoldable pub or_before : Option ℕ → Option ℕ → Option ℕ
or_before before None = before
or_before before (Some p) = Some p

-- the last process of a child that was known before, after what it does now
unfoldable pub process_after : Option ℕ → Option Mark → Option ℕ
process_after before None = before
process_after before (Some mark) = or_before before (process_in mark.state)

-- two numbers that are not the same
unfoldable pub is_other : Option ℕ → ℕ → Bool
is_other None p = false
is_other (Some before) p = not (before == p)

-- whether a child runs as another process than before: it was started again
unfoldable pub is_again : Option ℕ → RowState → Bool
is_again before Undefined = false
is_again before (Starting _ _) = false
is_again before (Up p) = is_other before p
is_again before (Asked _ _) = false
is_again before (Killed _) = false
is_again before (Restarting _) = false

-- what a child does, with a star where it was started again
unfoldable pub marked_text : Bool → RowState → List ℕ
marked_text false state = state_text state
marked_text true state = codes "*" ++ state_text state

unfoldable pub mark_cell : Bool → Option ℕ → Option Mark → List ℕ
mark_cell is_coloured before None = cell is_coloured Plain (codes "-")
mark_cell is_coloured before (Some mark) = cell is_coloured (colour_of mark.state) (marked_text (is_again before mark.state) mark.state)

-- the child with this id at a moment, if there is one
unfoldable pub mark_at : ℕ → Name → Moment → Option Mark
mark_at place id moment = mark_found (marks_at place moment) (position (is_child id) (marks_at place moment))

-- what the child with this id does at these moments, of which the last process before is this
abbrev pub child_cells : Look → Name → Option ℕ → List Moment → List ℕ
child_cells look id before [] = []
child_cells look id before (moment ∷ moments) =
    mark_cell look.is_coloured before (mark_at look.place id moment) ++ child_cells look id (process_after before (mark_at look.place id moment)) moments

-- a child that a supervisor of simple_one_for_one started has no id
abbrev pub is_added : Mark → Bool
is_added mark = is_none mark.id

abbrev pub added_in : List Mark → ℕ
added_in marks = count_by (λ mark. is_added mark && is_up mark.state) marks

-- how many children without an id run at a moment
unfoldable pub added_cell : Look → Moment → List ℕ
added_cell look moment = cell look.is_coloured Plain (decimal (added_in (marks_at look.place moment)) ++ codes " up")

abbrev pub has_added : ℕ → Moment → Bool
has_added place moment = list_any is_added (marks_at place moment)

-- a full period is marked: the next restart may be one too many
unfoldable pub restarts_colour : ℕ → ℕ → Colour
restarts_colour restarts intensity = if nat_lt restarts intensity then Plain else Yellow

-- the restarts of a period, of how many, if both have room
unfoldable pub restarts_text : ℕ → ℕ → List ℕ
restarts_text restarts intensity =
    if nat_le 100 intensity then decimal restarts else decimal restarts ++ codes "/" ++ decimal intensity

unfoldable pub standing_cell : Look → ℕ → Option Standing → List ℕ
standing_cell look intensity None = cell look.is_coloured Plain (codes "-")
standing_cell look intensity (Some standing) =
    if standing.is_over then cell look.is_coloured Plain (codes "-")
    else cell look.is_coloured (restarts_colour standing.restarts intensity) (restarts_text standing.restarts intensity)

-- how the period fills, at a moment
unfoldable pub restarts_cell : Look → ℕ → Moment → List ℕ
restarts_cell look intensity moment = standing_cell look intensity (slice_get moment.standings look.place)

abbrev pub is_same : Name → Name → Bool
is_same id other = on name_bytes bytes_eq other id

-- an id behind others, if it isn't there yet
unfoldable pub with_id : List Name → Option Name → List Name
with_id ids None = ids
with_id ids (Some id) = if list_any (is_same id) ids then ids else ids ++ id ∷ []

-- the ids of these children behind others
abbrev pub with_marks : List Name → List Mark → List Name
with_marks ids [] = ids
with_marks ids (mark ∷ marks) = with_marks (with_id ids mark.id) marks

-- the ids of the children at these moments, each once, in the order in which they come first
abbrev pub ids_at : ℕ → List Name → List Moment → List Name
ids_at place ids [] = ids
ids_at place ids (moment ∷ moments) = ids_at place (with_marks ids (marks_at place moment)) moments

-- the line of a child
unfoldable pub child_line : Look → List ℕ → List Moment → Name → List ℕ
child_line look path moments id = label (path ++ name_bytes id) ++ child_cells look id None moments ++ codes "\n"

unfoldable pub added_line : Look → List ℕ → List Moment → List ℕ
added_line look path moments = label (path ++ codes "without an id") ++ flat_map (added_cell look) moments ++ codes "\n"

-- the line of the children without an id, if there are some
unfoldable pub added_lines : Look → List ℕ → List Moment → List ℕ
added_lines look path moments = if list_any (has_added look.place) moments then added_line look path moments else []

-- a number between two texts
unfoldable pub number_between : List ℕ → ℕ → List ℕ → List ℕ
number_between before number after = before ++ decimal number ++ after

-- in which time restarts are counted
unfoldable pub period_text : ℕ → List ℕ
period_text period = number_between (codes "restarts in ") period (codes " s")

-- the line of a supervisor's restarts
unfoldable pub restarts_line : Look → List ℕ → SupFlags → List Moment → List ℕ
restarts_line look path flags moments =
    label (path ++ period_text flags.period)
    ++ flat_map (restarts_cell look flags.intensity) moments
    ++ codes "\n"

-- a supervisor with this path and these flags, at these moments
unfoldable pub supervisor_text : Look → List ℕ → SupFlags → List Moment → List ℕ
supervisor_text look path flags moments =
    flat_map (child_line look path moments) (ids_at look.place [] moments)
    ++ added_lines look path moments
    ++ restarts_line look path flags moments

-- the line of a script, or the start
unfoldable pub line_text : ℕ → List ℕ
line_text line = if line == 0 then codes "start" else decimal line

unfoldable pub line_cell : Moment → List ℕ
line_cell moment = cell false Plain (line_text moment.line)

-- a time in seconds, whole ones where it is long
unfoldable pub time_text : ℕ → List ℕ
time_text time = if nat_lt time LONG then seconds_text time else decimal (time / 1000)

unfoldable pub time_cell : Moment → List ℕ
time_cell moment = cell false Plain (time_text moment.time)

-- which moments the columns are
unfoldable pub heads_text : List Moment → List ℕ
heads_text moments =
    label (codes "line") ++ flat_map line_cell moments ++ codes "\n"
    ++ label (codes "seconds") ++ flat_map time_cell moments ++ codes "\n"
