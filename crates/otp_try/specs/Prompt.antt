-- What is shown of the supervisors of a trial: the prompt, and what stands at the end of a run (own).
use Rattle.std.specs.Prelude.{ℕ, Bool, true, false, Option, Some, None, List, [], ◌∷◌, ◌++◌, codes, drop, if◌then◌else◌, length, nat_lt}
use Rattle.otp_rules.specs.Ends.{last_stamps}
use Rattle.otp_rules.specs.State.{is_over}
use Rattle.otp_try.specs.Awaiting.{awaited_text}
use Rattle.otp_trial.specs.Played.{Seated, state_in}
use Rattle.otp_try.specs.Standing.{state_text}
use Rattle.otp_trial.specs.Story.{heading, time_text}

-- that a supervisor has ended, or how it stands by its own state and its own last restarts
unfoldable pub seat_text : Seated → ℕ → List ℕ
seat_text seat now =
    if is_over (state_in seat).phase then codes "the supervisor has ended"
    else state_text seat.base.flags (state_in seat).rows (last_stamps (state_in seat).flags.intensity (state_in seat).stamps) now

-- how a supervisor stands now, behind the time and its path
unfoldable pub standing_text : Seated → ℕ → List ℕ
standing_text seat now = time_text now ++ codes "  " ++ heading seat.path ++ seat_text seat now

-- how the root stands
unfoldable pub root_text : List Seated → ℕ → List ℕ
root_text [] now = []
root_text (root ∷ seats) now = standing_text root now

-- when next something happens by itself
unfoldable pub next_text : Option ℕ → List ℕ
next_text None = []
next_text (Some time) = codes ", next at " ++ time_text time

-- that events wait until what is awaited is done
unfoldable pub waits_text : Bool → List ℕ
waits_text false = []
waits_text true = codes ", what came since waits"

-- what a person sees before a line is read
unfoldable pub prompt_text : List Seated → ℕ → Option ℕ → Bool → List ℕ
prompt_text seats now next waits = root_text seats now ++ next_text next ++ waits_text waits ++ codes "> "

-- a line for a supervisor, if it has a process
unfoldable pub standing_line : ℕ → Seated → Bool → List ℕ
standing_line now seat true = standing_text seat now ++ codes "\n"
standing_line now seat false = []

-- the lines of supervisors, of which these have a process
abbrev pub standing_lines : ℕ → List Seated → List Bool → List ℕ
standing_lines now [] running = []
standing_lines now (seat ∷ seats) [] = []
standing_lines now (seat ∷ seats) (is_running ∷ running) = standing_line now seat is_running ++ standing_lines now seats running

-- what a supervisor awaits, if it has a process
unfoldable pub awaited_by : Seated → Bool → List ℕ
awaited_by seat true = awaited_text seat.path (state_in seat).rows (nat_lt 0 (length (state_in seat).waiting))
awaited_by seat false = []

-- what supervisors await, of which these have a process
abbrev pub awaited_by_all : List Seated → List Bool → List ℕ
awaited_by_all [] running = []
awaited_by_all (seat ∷ seats) [] = []
awaited_by_all (seat ∷ seats) (is_running ∷ running) = awaited_by seat is_running ++ awaited_by_all seats running

-- how the supervisors stand, of which these have a process: the root, then those below it, and what all of them await
unfoldable pub standings_text : ℕ → List Seated → List Bool → List ℕ
standings_text now seats running =
    root_text seats now ++ codes "\n" ++ standing_lines now (drop 1 seats) (drop 1 running) ++ awaited_by_all seats running
