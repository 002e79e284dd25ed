-- The children of a run as a picture: a bar each while its process is up, with time to scale (own).
use Rattle.std.specs.Prelude.{◌≡◌, ℕ, ◌+◌, ◌-◌, ◌*◌, ◌/◌, ◌==◌, Bool, true, false, not, ◌&&◌, ◌||◌, List, [], ◌∷◌, ◌++◌, Option, Some, None, codes, decimal, drop, length, nat_le, nat_lt, position, replicate, slice_index_or, slice_set, take, if◌then◌else◌}
use Rattle.std.specs.List.{list_any}
use Rattle.std.specs.Str.{bytes_eq}
use Rattle.otp_try.specs.declared.account.account.Played.{Played}
use Rattle.otp_pages.specs.Markup.{element, number_element}
use Rattle.otp_reason.specs.Names.{name_bytes}
use Rattle.otp_reason.specs.declared.name.Name.{Name}
use Rattle.otp_table.specs.declared.row.RowState.{RowState}
use Rattle.otp_table.specs.declared.row.RowState.TheVariants.{Undefined, Starting, Up, Asked, Killed, Restarting}
use Rattle.otp_text.specs.Seconds.{seconds_text}
use Rattle.otp_text.specs.declared.timeline.moment.Mark.{Mark}
use Rattle.otp_text.specs.declared.timeline.moment.Standing.{Standing}
use Rattle.otp_trial.specs.Played.{Seated}
use Rattle.otp_try_pages.specs.Names.{child_in, is_start}
use Rattle.otp_try_pages.specs.Orders.{first_word, is_down, order_in, rest_of}
use Rattle.otp_try_pages.specs.Scale.{millis_from, next_count, percent, slot_of}
use Rattle.otp_try_pages.specs.declared.tracks.TrackState.{TrackState}

-- a row of the picture, as what an element's place is
unfoldable pub row_text : ℕ → List ℕ
row_text row = number_element (codes "%\" y=\"") row (codes "em\"")

-- a gap of a bar: the child was not there between these places
unfoldable pub gap_opening : ℕ → ℕ → ℕ → List ℕ
gap_opening row from to =
    codes "<rect class=\"off\" x=\"" ++ percent from ++ row_text row ++ codes " width=\"" ++ percent (to - from) ++ codes "%\" height=\".36em\">"

unfoldable pub gap_html : ℕ → ℕ → ℕ → List ℕ → List ℕ
gap_html row from to line = if nat_lt from to then gap_opening row from to ++ element (codes "<title>") line (codes "</title></rect>\n") else []

-- a start behind the first: of one that ended by itself, or that was stopped before
unfoldable pub mark_class : Bool → List ℕ
mark_class true = codes "<rect class=\"along\" x=\""
mark_class false = codes "<rect class=\"crash\" x=\""

unfoldable pub mark_html : ℕ → ℕ → Bool → List ℕ → List ℕ
mark_html row slot is_stopped line =
    mark_class is_stopped ++ percent slot ++ row_text row ++ element (codes " width=\"3\" height=\".5em\"><title>") line (codes "</title></rect>\n")

-- a start: what was before the first is a gap; of those at one place only the first is marked
unfoldable pub start_html : ℕ → ℕ → TrackState → List ℕ → List ℕ
start_html row slot seen line =
    if seen.place == 0 then gap_html row 0 slot line
    else if seen.place == next_count slot then []
    else mark_html row slot seen.is_stopped line

-- how long a child was down that is up again at this time: ` was down 1.500 s`
unfoldable pub down_for : List ℕ → ℕ
down_for line = millis_from 0 (first_word (rest_of (rest_of (rest_of (order_in line)))))

unfoldable pub back_html : ℕ → ℕ → ℕ → List ℕ → List ℕ
back_html last row time line = gap_html row (slot_of last (time - down_for line)) (slot_of last time) line

unfoldable pub time_in : List ℕ → ℕ
time_in line = millis_from 0 (first_word line)

-- what a line draws that tells of the child of a row, of which this was seen before
unfoldable pub sign_html : ℕ → ℕ → TrackState → List ℕ → List ℕ
sign_html last row seen line =
    if is_down (order_in line) then back_html last row (time_in line) line
    else if is_start line then start_html row (slot_of last (time_in line)) seen line
    else []

-- what was seen of a child then: where it was last started, and whether it was stopped since
unfoldable pub seen_then : ℕ → TrackState → List ℕ → TrackState
seen_then last seen line =
    if is_down (order_in line) then seen
    else if is_start line then record { place = next_count (slot_of last (time_in line)); is_stopped = false }
    else record { place = seen.place; is_stopped = true }

abbrev pub unseen : TrackState
unseen = record { place = 0; is_stopped = false }

-- the row of the child of which a line tells
unfoldable pub row_of : List (List ℕ) → List ℕ → Option ℕ
row_of names line = position (λ (name : List ℕ). bytes_eq name (child_in line)) names

unfoldable pub event_at : ℕ → List TrackState → Option ℕ → List ℕ → List ℕ
event_at last seen None line = []
event_at last seen (Some row) line = sign_html last row (slice_index_or seen row unseen) line

unfoldable pub seen_at : ℕ → List TrackState → Option ℕ → List ℕ → List TrackState
seen_at last seen None line = seen
seen_at last seen (Some row) line = slice_set seen row (seen_then last (slice_index_or seen row unseen) line)

-- what these lines draw, the first of which has begun so
abbrev pub events_from : ℕ → List (List ℕ) → List TrackState → List ℕ → List ℕ → List ℕ
events_from last names seen line [] = []
events_from last names seen line (byte ∷ bytes) =
    if byte == 10 then
    event_at last seen (row_of names line) line ++ events_from last names (seen_at last seen (row_of names line) line) [] bytes
    else events_from last names seen (line ++ byte ∷ []) bytes

-- a child has a process
unfoldable pub is_alive : RowState → Bool
is_alive Undefined = false
is_alive (Starting _ _) = false
is_alive (Up _) = true
is_alive (Asked _ _) = true
is_alive (Killed _) = true
is_alive (Restarting _) = false

-- a name stands behind the path of a supervisor's children: its id is the rest
unfoldable pub is_behind : List ℕ → List ℕ → Bool
is_behind name path = nat_le (length path) (length name) && bytes_eq (take (length path) name) path

unfoldable pub id_behind : List ℕ → List ℕ → List ℕ
id_behind name path = if nat_le (length path) (length name) then drop (length path) name else []

unfoldable pub is_id : List ℕ → Option Name → Bool
is_id id None = false
is_id id (Some name) = bytes_eq (name_bytes name) id

unfoldable pub is_alive_as : List ℕ → Mark → Bool
is_alive_as id mark = is_alive mark.state && is_id id mark.id

-- the child of this name has a process where the supervisor of this path stands so
unfoldable pub is_alive_at : List ℕ → List ℕ → Standing → Bool
is_alive_at name path standing = is_behind name path && list_any (is_alive_as (id_behind name path)) standing.marks

abbrev pub is_alive_in : List ℕ → List Seated → List Standing → Bool
is_alive_in name [] standings = false
is_alive_in name (seat ∷ seats) [] = false
is_alive_in name (seat ∷ seats) (standing ∷ standings) = is_alive_at name seat.path standing || is_alive_in name seats standings

-- since when a child has no process, after a moment at which it had one or not
unfoldable pub down_then : Option ℕ → Bool → ℕ → Option ℕ
down_then since true time = None
down_then None false time = Some time
down_then (Some since) false time = Some since

-- since when a child has no process in the end
abbrev pub down_since : List ℕ → List Seated → Option ℕ → List Played → Option ℕ
down_since name seats since [] = since
down_since name seats since (one ∷ lines) =
    down_since name seats (down_then since (is_alive_in name seats one.moment.standings) one.moment.time) lines

-- the gap behind that, to the end of the run
unfoldable pub tail_html : ℕ → ℕ → Option ℕ → List ℕ
tail_html last row None = []
tail_html last row (Some since) = gap_html row (slot_of last since) 960 (codes "down since " ++ seconds_text since ++ codes " s")

-- the row of a child: its name, and its bar
unfoldable pub label_html : ℕ → List ℕ → List ℕ
label_html row name = codes "<svg y=\"" ++ decimal row ++ codes "em\">" ++ element (codes "<text y=\"1em\">") name (codes "</text></svg>\n")

unfoldable pub bar_html : ℕ → List ℕ
bar_html row = codes "<rect class=\"on\" x=\"0" ++ row_text row ++ codes " width=\"96%\" height=\".36em\"/>\n"

unfoldable pub track_html : ℕ → List Seated → List Played → ℕ → List ℕ → List ℕ
track_html last seats lines row name = label_html row name ++ bar_html row ++ tail_html last row (down_since name seats None lines)

-- the rows of children, of which the first has this number
abbrev pub tracks_html : ℕ → List Seated → List Played → ℕ → List (List ℕ) → List ℕ
tracks_html last seats lines row [] = []
tracks_html last seats lines row (name ∷ names) =
    track_html last seats lines row name ++ tracks_html last seats lines (next_count row) names

-- five times of a run, evenly apart, above the picture
unfoldable pub tick_html : List ℕ → ℕ → List ℕ
tick_html opening time = opening ++ seconds_text time ++ codes " s</text>\n"

unfoldable pub first_ticks : ℕ → List ℕ
first_ticks last = tick_html (codes "<text y=\"1em\">") 0 ++ tick_html (codes "<text x=\"24%\" y=\"1em\">") (last / 4)

unfoldable pub three_quarters : ℕ → ℕ
three_quarters last = last - last / 4

unfoldable pub end_tick : ℕ → List ℕ
end_tick last = tick_html (codes "<text class=\"last\" x=\"100%\" y=\"1em\">") last

unfoldable pub late_ticks : ℕ → List ℕ
late_ticks last = tick_html (codes "<text x=\"72%\" y=\"1em\">") (three_quarters last) ++ end_tick last

unfoldable pub last_ticks : ℕ → List ℕ
last_ticks last = tick_html (codes "<text x=\"48%\" y=\"1em\">") (last / 2) ++ late_ticks last

unfoldable pub axis_html : ℕ → List ℕ
axis_html last = codes "<svg class=\"axis\" role=\"img\" aria-label=\"seconds\">\n" ++ first_ticks last ++ last_ticks last ++ codes "</svg>\n"

-- the lines of those times in a picture
unfoldable pub grid_html : List ℕ
grid_html = codes "<line x1=\"24%\" x2=\"24%\" y2=\"100%\"/><line x1=\"48%\" x2=\"48%\" y2=\"100%\"/><line x1=\"72%\" x2=\"72%\" y2=\"100%\"/><line x1=\"96%\" x2=\"96%\" y2=\"100%\"/>\n"

unfoldable pub tracks_opening : ℕ → List ℕ
tracks_opening rows =
    number_element (codes "<svg class=\"tracks\" role=\"img\" aria-label=\"when each child had a process\" height=\"") rows (codes "em\">\n")

unfoldable pub tracks_legend : List ℕ
tracks_legend = codes "<p class=\"legend\">A bar while a child has a process, with time to scale. <b class=\"crash\">|</b> It ended unasked and was started again; <b class=\"along\">|</b> it was stopped and started again. A gap: it had no process. What is shorter than a thousandth of the run is one mark.</p>\n"

-- the rows, and what lines draw in them
unfoldable pub rows_html : ℕ → List Seated → List Played → List (List ℕ) → List ℕ → List ℕ
rows_html last seats lines names told =
    tracks_html last seats lines 0 names ++ events_from last names (replicate (length names) unseen) [] told

-- the picture of a run that ends at the last time and told these lines
unfoldable pub picture_html : ℕ → List Seated → List Played → List (List ℕ) → List ℕ → List ℕ
picture_html last seats lines names told =
    tracks_legend ++ axis_html last ++ tracks_opening (length names) ++ grid_html
    ++ rows_html last seats lines names told ++ codes "</svg>\n"
