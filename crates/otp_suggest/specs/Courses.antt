-- How crashes of a child come, and what a run of them shows (own).
use Rattle.std.specs.Prelude.{◌≡◌, ℕ, ◌-◌, ◌/◌, ◌≤◌, ◌^◌, List, nat_le, if◌then◌else◌}
use Rattle.otp_costs.specs.Costs.{steady_crashes, verdict_of}
use Rattle.otp_costs.specs.Fates.{Plays}
use Rattle.otp_costs.specs.declared.limits.fate.Fate.{Fate}
use Rattle.otp_costs.specs.declared.limits.steady.Verdict.{Verdict}
use Rattle.otp_reason.specs.declared.name.Name.{Name}
use Rattle.otp_spec.specs.declared.child.ChildSpec.{ChildSpec}
use Rattle.otp_spec.specs.declared.flags.SupFlags.{SupFlags}
use Rattle.otp_trial.specs.declared.clock.Clock.{Clock}
use Rattle.otp_suggest.specs.declared.course.Course.{Course}
use Rattle.otp_suggest.specs.declared.course.Course.TheVariants.{Steady, Times}
use Rattle.otp_suggest.specs.declared.course.Question.{Question}
use Rattle.otp_suggest.specs.declared.course.Question.TheVariants.{Every, Within}
use Rattle.otp_suggest.specs.declared.course.TheConstants.{MOST_TIMES}

-- how many milliseconds lie between two of them
abbrev pub gap_of : Course → ℕ
gap_of (Steady gap) = gap
gap_of (Times count gap) = gap

-- how many are played: of those that never end so many as show whether a supervisor with these flags survives them for ever
abbrev pub count_of : Course → SupFlags → ℕ
count_of (Steady gap) flags = steady_crashes flags
count_of (Times count gap) flags = count

-- they aren't too far apart to be played, nor too many
abbrev pub IsCourse : Course → Type 0
IsCourse (Steady gap) = gap ≤ 2 ^ 30
IsCourse (Times count gap) = (count ≤ MOST_TIMES) × (gap ≤ 2 ^ 30)

-- what a run of them shows, by this clock
abbrev pub IsJudgedBy : Clock → SupFlags → List ChildSpec → Name → Course → Verdict → Type 0
IsJudgedBy clock flags specs id course verdict =
    (ending : Fate) × (Plays flags specs clock id (gap_of course) (count_of course flags) ending × (verdict_of ending ≡ verdict))

-- so many crashes within a time are evenly spread where they are so far apart: the first comes as the time begins, and the last
-- at its end, or less than a millisecond for each of them before
abbrev pub even_gap : ℕ → ℕ → ℕ
even_gap count time = if nat_le count 1 then 0 else time / (count - 1)

-- how the crashes come that are asked for: at an interval for ever, or so many evenly spread
abbrev pub course_of : Question → Course
course_of (Every gap) = Steady gap
course_of (Within count time) = Times count (even_gap count time)

-- how far apart those are
abbrev pub apart_of : Question → ℕ
apart_of (Every gap) = gap
apart_of (Within count time) = even_gap count time

-- the time is one that is played, and so is the number
abbrev pub IsQuestion : Question → Type 0
IsQuestion (Every gap) = gap ≤ 2 ^ 30
IsQuestion (Within count time) = (count ≤ MOST_TIMES) × (time ≤ 2 ^ 30)
