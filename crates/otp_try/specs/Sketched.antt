-- A run as a picture: its supervisors at some moments (own).
use Rattle.std.specs.Prelude.{ℕ, ◌+◌, Bool, true, false, List, [], ◌∷◌, ◌++◌}
use Rattle.otp_rules.specs.Ends.{last_stamps}
use Rattle.otp_rules.specs.State.{is_over}
use Rattle.otp_text.specs.declared.timeline.moment.Moment.{Moment}
use Rattle.otp_text.specs.declared.timeline.moment.Standing.{Standing}
use Rattle.otp_text.specs.Moments.{standing_of}
use Rattle.otp_text.specs.Picture.{heads_text, supervisor_text}
use Rattle.otp_trial.specs.Played.{Seated, state_in}

-- how a supervisor stands at this time, by its state then, and by its last restarts: no period has more of them than those,
-- one more than the intensity; without a process it has no children
unfoldable pub standing_in : ℕ → Seated → Bool → Standing
standing_in time seat true =
    standing_of (state_in seat).rows (last_stamps (state_in seat).flags.intensity (state_in seat).stamps) seat.base.flags.period (is_over (state_in seat).phase) time
standing_in time seat false = record { marks = []; restarts = 0; is_over = true }

-- how each of these supervisors stands, of which these have a process
abbrev pub standings_in : ℕ → List Seated → List Bool → List Standing
standings_in time [] running = []
standings_in time (seat ∷ seats) [] = []
standings_in time (seat ∷ seats) (is_running ∷ running) = standing_in time seat is_running ∷ standings_in time seats running

-- a moment of a run: the supervisors stand so at this time, once this line of the script was played
abbrev pub moment_of : ℕ → ℕ → List Seated → List Bool → Moment
moment_of line time seats running = record { line = line; time = time; standings = standings_in time seats running }

-- the lines of supervisors, of which the first has this place
abbrev pub supervisors_text : Bool → List Moment → ℕ → List Seated → List ℕ
supervisors_text is_coloured moments place [] = []
supervisors_text is_coloured moments place (seat ∷ seats) =
    supervisor_text (record { place = place; is_coloured = is_coloured }) seat.path seat.base.flags moments
    ++ supervisors_text is_coloured moments (place + 1) seats

-- the picture of these moments
unfoldable pub picture : Bool → List Seated → List Moment → List ℕ
picture is_coloured seats moments = heads_text moments ++ supervisors_text is_coloured moments 0 seats

-- the picture of these moments, if there are some
unfoldable pub drawing : Bool → List Seated → List Moment → List ℕ
drawing is_coloured seats [] = []
drawing is_coloured seats (moment ∷ moments) = picture is_coloured seats (moment ∷ moments)
