-- How supervisors stand at a moment of a run (own).
use Rattle.std.specs.Prelude.{ℕ, Bool, List, map}
use Rattle.otp_table.specs.declared.row.Row.{Row}
use Rattle.otp_text.specs.declared.timeline.moment.Mark.{Mark}
use Rattle.otp_text.specs.declared.timeline.moment.Standing.{Standing}
use Rattle.otp_window.specs.Period.{in_period}

-- the child of a row
abbrev pub mark_of : Row → Mark
mark_of row = record { id = row.id; state = row.state }

-- how a supervisor stands now, whose children have these rows and whose restarts were at these times
abbrev pub standing_of : List Row → List ℕ → ℕ → Bool → ℕ → Standing
standing_of rows stamps period is_over now =
    record { marks = map mark_of rows; restarts = in_period period stamps now; is_over = is_over }
