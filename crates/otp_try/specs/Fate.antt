-- What came of a supervisor in a run (own).
use Rattle.std.specs.Prelude.{ℕ, ◌-◌, ◌==◌, Bool, true, false, not, ◌&&◌, List, [], ◌∷◌, ◌++◌, Option, codes, count_by, if◌then◌else◌, is_some, nat_lt}
use Rattle.otp_reason.specs.declared.name.Name.{Name}
use Rattle.otp_rules.specs.State.{is_over}
use Rattle.otp_table.specs.declared.row.Row.{Row}
use Rattle.otp_table.specs.declared.row.RowState.{RowState}
use Rattle.otp_table.specs.declared.row.RowState.TheVariants.{Undefined, Starting, Up, Asked, Killed, Restarting}
use Rattle.otp_trial.specs.Story.{number_after}
use Rattle.otp_trial.specs.declared.story.strain.Course.{Course}
use Rattle.otp_trial.specs.declared.story.strain.Course.TheVariants as course
use Rattle.otp_trial.specs.Played.{Seated, state_in}
use Rattle.otp_try.specs.Awaiting.{process_of_child}
use Rattle.otp_try.specs.declared.remarks.fate.Fate.{Fate}
use Rattle.otp_try.specs.declared.remarks.fate.Fate.TheVariants as fate

-- a supervisor that has a process is stopping or starting children
unfoldable pub is_open : Bool → Seated → Bool
is_open is_running seat = is_running && not (is_over (state_in seat).phase) && is_some (state_in seat).follows

-- what comes of one that is: it was asked to stop, gives up, or it isn't decided
unfoldable pub fate_on : Course → Fate
fate_on (course.Asked time) = fate.Asked time
fate_on (course.GivesUp time) = fate.GivesUp time
fate_on course.Stays = fate.Undecided

-- what came of one that never gave up: the root has ended or not; of another its parent knows
unfoldable pub other_fate : Bool → Bool → Fate
other_fate true true = fate.Ended
other_fate true false = fate.Survived
other_fate false has_ended = fate.Lasted

-- what came of one that does not
unfoldable pub settled_fate : Bool → Seated → Fate
settled_fate is_root seat = if nat_lt 0 seat.strain.times then fate.GaveUp else other_fate is_root (is_over (state_in seat).phase)

-- what came of a supervisor, which has a process or not
unfoldable pub fate_of : Bool → Bool → Seated → Fate
fate_of is_root is_running seat = if is_open is_running seat then fate_on seat.strain.course else settled_fate is_root seat

-- a child is awaited: its start, or its end
unfoldable pub is_awaited_in : RowState → Bool
is_awaited_in Undefined = false
is_awaited_in (Starting _ _) = true
is_awaited_in (Up _) = false
is_awaited_in (Asked _ _) = true
is_awaited_in (Killed _) = true
is_awaited_in (Restarting _) = false

abbrev pub is_awaited : Row → Bool
is_awaited row = is_awaited_in row.state

-- this is awaited of a child
unfoldable pub part_text : List ℕ → List ℕ → Option Name → ℕ → List ℕ
part_text what path id process = what ++ process_of_child path id process

-- what is awaited of a child
unfoldable pub awaited_part : List ℕ → Option Name → RowState → List ℕ
awaited_part path id Undefined = []
awaited_part path id (Starting process _) = part_text (codes "the start of ") path id process
awaited_part path id (Up _) = []
awaited_part path id (Asked process _) = part_text (codes "the end of ") path id process
awaited_part path id (Killed process) = part_text (codes "the end of ") path id process
awaited_part path id (Restarting _) = []

-- what is awaited of the first of these children of which something is
abbrev pub first_awaited : List ℕ → List Row → List ℕ
first_awaited path [] = []
first_awaited path (row ∷ rows) = if is_awaited row then awaited_part path row.id row.state else first_awaited path rows

-- how many children are awaited beside the first
unfoldable pub others_text : ℕ → List ℕ
others_text count = if nat_lt 1 count then number_after (codes " and of ") (count - 1) ++ codes " more" else []

-- what a supervisor with these children awaits: `the end of pool/a #4 and of 2 more`
unfoldable pub awaits_text : List ℕ → List Row → List ℕ
awaits_text path rows = first_awaited path rows ++ others_text (count_by is_awaited rows)
