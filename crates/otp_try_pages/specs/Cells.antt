-- How a supervisor and its children stood at a moment, as a cell of a page (own).
use Rattle.std.specs.Prelude.{ℕ, Bool, true, false, not, ◌||◌, max, List, [], ◌∷◌, ◌++◌, Option, Some, None, codes, decimal, nat_lt, if◌then◌else◌}
use Rattle.std.specs.List.{flat_map}
use Rattle.otp_pages.specs.Markup.{element}
use Rattle.otp_reason.specs.Names.{name_bytes}
use Rattle.otp_reason.specs.declared.name.Name.{Name}
use Rattle.otp_table.specs.Rows.{is_up, number_of}
use Rattle.otp_table.specs.declared.row.RowState.{RowState}
use Rattle.otp_table.specs.declared.row.RowState.TheVariants.{Undefined, Starting, Up, Asked, Killed, Restarting}
use Rattle.otp_text.specs.declared.timeline.moment.Mark.{Mark}
use Rattle.otp_text.specs.declared.timeline.moment.Moment.{Moment}
use Rattle.otp_text.specs.declared.timeline.moment.Standing.{Standing}
use Rattle.otp_trial.specs.Played.{Seated}

-- the greater of two numbers, of which there may be no second
unfoldable pub larger : ℕ → Option ℕ → ℕ
larger most None = most
larger most (Some number) = max most number

-- the greatest number that a process of these children has, or this one
abbrev pub greatest_of : ℕ → List Mark → ℕ
greatest_of most [] = most
greatest_of most (mark ∷ marks) = greatest_of (larger most (number_of mark.state)) marks

abbrev pub greatest_in : ℕ → List Standing → ℕ
greatest_in most [] = most
greatest_in most (standing ∷ standings) = greatest_in (greatest_of most standing.marks) standings

-- the greatest number of a process at a moment: those that are started later have greater ones
unfoldable pub greatest : Moment → ℕ
greatest moment = greatest_in 0 moment.standings

-- a child runs as a process that was started since one had this number as the greatest
unfoldable pub is_new : ℕ → RowState → Bool
is_new last Undefined = false
is_new last (Starting _ _) = false
is_new last (Up p) = nat_lt last p
is_new last (Asked _ _) = false
is_new last (Killed _) = false
is_new last (Restarting _) = false

-- it runs, it is on its way, or it has no process
unfoldable pub chip_class : RowState → List ℕ
chip_class Undefined = codes "<span class=\"chip down\">"
chip_class (Starting _ _) = codes "<span class=\"chip way\">"
chip_class (Up _) = codes "<span class=\"chip up\">"
chip_class (Asked _ _) = codes "<span class=\"chip way\">"
chip_class (Killed _) = codes "<span class=\"chip way\">"
chip_class (Restarting _) = codes "<span class=\"chip down\">"

unfoldable pub new_mark : Bool → List ℕ
new_mark true = codes "<b class=\"new\">*</b>"
new_mark false = []

-- what its process does
unfoldable pub process_words : RowState → List ℕ
process_words Undefined = codes "down"
process_words (Starting p _) = codes "starts as #" ++ decimal p
process_words (Up p) = codes "#" ++ decimal p
process_words (Asked p _) = codes "is asked to end #" ++ decimal p
process_words (Killed p) = codes "is killed #" ++ decimal p
process_words (Restarting _) = codes "start failed"

unfoldable pub id_text : Option Name → List ℕ
id_text None = []
id_text (Some id) = name_bytes id

unfoldable pub chip_html : ℕ → Mark → List ℕ
chip_html last mark =
    chip_class mark.state ++ new_mark (is_new last mark.state) ++ element [] (id_text mark.id) (codes " ")
    ++ process_words mark.state ++ codes "</span>"

-- a row tells of those that were started since, and of those that don't run; all others run on
unfoldable pub is_told : ℕ → RowState → Bool
is_told last state = is_new last state || not (is_up state)

unfoldable pub chip_if : ℕ → Mark → List ℕ
chip_if last mark = if is_told last mark.state then chip_html last mark else []

-- how many restarts lie in the period, of how many
unfoldable pub use_html : ℕ → ℕ → List ℕ
use_html restarts intensity = codes "<small>" ++ decimal restarts ++ codes "/" ++ decimal intensity ++ codes " restarts</small>"

-- the cell of a supervisor
unfoldable pub standing_cell : ℕ → ℕ → Standing → List ℕ
standing_cell last intensity standing =
    if standing.is_over then codes "<td><small>does not run</small></td>\n"
    else codes "<td>" ++ flat_map (chip_if last) standing.marks ++ use_html standing.restarts intensity ++ codes "</td>\n"

-- those of supervisors, in their order
unfoldable pub cells_html : ℕ → List Seated → List Standing → List ℕ
cells_html last [] standings = []
cells_html last (seat ∷ seats) [] = []
cells_html last (seat ∷ seats) (standing ∷ standings) =
    standing_cell last seat.base.flags.intensity standing ++ cells_html last seats standings
