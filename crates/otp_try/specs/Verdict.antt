-- The verdict of a run: who gave up and when, whether the root survived, and how much of each period was used (own).
use Rattle.std.specs.Prelude.{ℕ, ◌==◌, Bool, true, false, ◌||◌, List, [], ◌∷◌, ◌++◌, Option, Some, None, codes, drop, if◌then◌else◌, nat_lt}
use Rattle.otp_spec.specs.declared.flags.SupFlags.{SupFlags}
use Rattle.otp_trial.specs.Played.{Seated, state_in}
use Rattle.otp_trial.specs.Story.{number_after, time_text}
use Rattle.otp_trial.specs.declared.story.strain.Strain.{Strain}
use Rattle.otp_trial.specs.declared.clock.Clock.{Clock}
use Rattle.otp_trial.specs.declared.clock.Clock.TheVariants as clock
use Rattle.otp_try.specs.Fate.{awaits_text, fate_of, is_open}
use Rattle.otp_try.specs.declared.remarks.fate.Fate.{Fate}
use Rattle.otp_try.specs.declared.remarks.fate.Fate.TheVariants as fate
use Rattle.otp_try.specs.Standing.{used_text}

-- a time after a word
unfoldable pub time_after : List ℕ → ℕ → List ℕ
time_after before time = before ++ time_text time

-- when a supervisor gave up that did so once
unfoldable pub once_text : Strain → List ℕ
once_text strain = time_after (codes " gave up at ") strain.last

-- how often one gave up that did so more often, and when last
unfoldable pub often_text : Strain → List ℕ
often_text strain = number_after (codes " gave up ") strain.times ++ codes " times, last at " ++ time_text strain.last

-- when a supervisor gave up, and how often, if more than once
unfoldable pub give_ups_text : Strain → List ℕ
give_ups_text strain = if strain.times == 1 then once_text strain else often_text strain

-- since when one is on its way to its end, and what it awaits
unfoldable pub since_text : List ℕ → ℕ → List ℕ → List ℕ
since_text what time awaits = time_after what time ++ codes " and awaits " ++ awaits

-- what came of a supervisor that awaits this, if it awaits something
unfoldable pub fate_text : Fate → Strain → List ℕ → List ℕ
fate_text fate.GaveUp strain awaits = give_ups_text strain
fate_text fate.Ended strain awaits = codes " ended"
fate_text fate.Survived strain awaits = codes " survived"
fate_text fate.Lasted strain awaits = codes " never gave up"
fate_text (fate.Asked time) strain awaits = since_text (codes " was asked to stop at ") time awaits
fate_text (fate.GivesUp time) strain awaits = since_text (codes " has given up at ") time awaits
fate_text fate.Undecided strain awaits = codes " awaits " ++ awaits

-- that it isn't decided, where it isn't
unfoldable pub undecided_text : Fate → List ℕ
undecided_text fate.Undecided = codes "not decided: "
undecided_text fate = []

-- the root, or another by its path
unfoldable pub who_text : Bool → List ℕ → List ℕ
who_text true path = codes "the root"
who_text false path = path

-- the most restarts that lay in its period
unfoldable pub most_text : SupFlags → Strain → List ℕ
most_text flags strain = codes ", at most " ++ used_text flags strain.most

-- by whose clock a line tells
unfoldable pub apart_head : List ℕ
apart_head = codes "verdict: by OTP's clock "

-- who may give up at this time
unfoldable pub gives_up_text : List ℕ → ℕ → List ℕ
gives_up_text who time = who ++ time_after (codes " may give up at ") time

-- that it may give up at this time where its clock shows whole seconds: where a second falls isn't known
unfoldable pub apart_line : List ℕ → ℕ → List ℕ
apart_line who time = apart_head ++ gives_up_text who time ++ codes ", as the second falls\n"

-- the same, if that is before it does
unfoldable pub apart_text : List ℕ → Option ℕ → List ℕ
apart_text who None = []
apart_text who (Some time) = apart_line who time

-- what came of it, where it awaits this
unfoldable pub fate_line : Bool → Fate → List ℕ → Seated → List ℕ
fate_line is_root fate awaits seat =
    codes "verdict: " ++ undecided_text fate ++ who_text is_root seat.path ++ fate_text fate seat.strain awaits ++ most_text seat.base.flags seat.strain ++ codes "\n"

-- the root is always judged, and another if it had restarts, gave up, or stops or starts children
unfoldable pub is_judged : Bool → Bool → Seated → Bool
is_judged is_root is_running seat = is_root || nat_lt 0 seat.strain.most || nat_lt 0 seat.strain.times || is_open is_running seat

unfoldable pub lines_of : Bool → Bool → Seated → List ℕ
lines_of is_root is_running seat =
    fate_line is_root (fate_of is_root is_running seat) (awaits_text seat.path (state_in seat).rows) seat ++ apart_text (who_text is_root seat.path) seat.strain.apart

-- the lines of a supervisor, if it is judged
unfoldable pub verdict_of : Bool → Bool → Seated → List ℕ
verdict_of is_root is_running seat = if is_judged is_root is_running seat then lines_of is_root is_running seat else []

-- those of supervisors below the root, of which these have a process
abbrev pub verdicts_of : List Seated → List Bool → List ℕ
verdicts_of [] running = []
verdicts_of (seat ∷ seats) [] = []
verdicts_of (seat ∷ seats) (is_running ∷ running) = verdict_of false is_running seat ++ verdicts_of seats running

-- the root, then the others, of which these have a process
unfoldable pub run_verdict : List Seated → List Bool → List ℕ
run_verdict [] running = []
run_verdict (root ∷ seats) running = verdict_of true true root ++ verdicts_of seats (drop 1 running)

-- that nothing of the clock's phase is told where seconds are counted from the beginning of the run on
unfoldable pub clock_text : Clock → List ℕ
clock_text clock.Milliseconds = []
clock_text clock.Seconds = codes "verdict: so it is if a second begins at 0.000 s; without --clock each phase is told\n"

-- the verdict of a run by this clock in which something was played; else there is none
unfoldable pub whole_verdict : Bool → Clock → List Seated → List Bool → List ℕ
whole_verdict true by seats running = run_verdict seats running ++ clock_text by
whole_verdict false by seats running = codes "verdict: none, since nothing was played\n"
