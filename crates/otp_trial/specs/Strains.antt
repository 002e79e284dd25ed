-- How a supervisor bears up over a whole run: when it gives up, and the most restarts that lay in its period (own).
use Rattle.std.specs.Prelude.{ℕ, zero, suc, ◌+◌, ◌*◌, ◌/◌, ◌==◌, Bool, true, false, not, ◌&&◌, ◌||◌, List, Option, Some, None, count_by, if◌then◌else◌, nat_le, nat_lt}
use Rattle.std.specs.List.{list_any}
use Rattle.otp_rules.specs.Ends.{last_stamps}
use Rattle.otp_rules.specs.declared.ending.Cause.{Cause}
use Rattle.otp_rules.specs.declared.ending.Cause.TheVariants as cause
use Rattle.otp_rules.specs.declared.event.Effect.{Effect}
use Rattle.otp_rules.specs.declared.event.Effect.TheVariants as effect
use Rattle.otp_rules.specs.declared.event.Kind.{Kind}
use Rattle.otp_rules.specs.declared.event.Kind.TheVariants as kind
use Rattle.otp_rules.specs.State.{Outcome}
use Rattle.otp_spec.specs.declared.flags.SupFlags.{SupFlags}
use Rattle.otp_trial.specs.declared.story.strain.Course.{Course}
use Rattle.otp_trial.specs.declared.story.strain.Course.TheVariants.{Stays, Asked, GivesUp}
use Rattle.otp_trial.specs.declared.story.strain.Strain.{Strain}
use Rattle.otp_window.specs.Period.{in_period, is_in_period}

-- the second that has begun at this time, in milliseconds
abbrev pub second : ℕ → ℕ
second time = time / 1000 * 1000

-- a supervisor that was never opened
abbrev pub unstrained : Strain
unstrained = record { times = 0; last = 0; most = 0; apart = None; course = Stays }

-- there were more restarts than the intensity (Maximum Restart Intensity)
unfoldable pub is_intensity : Cause → Bool
is_intensity (cause.Intensity _ _) = true
is_intensity (cause.Significant _) = false
is_intensity cause.Asked = false
is_intensity (cause.InitFailed _) = false

-- a supervisor ends for that: it gives up
unfoldable pub is_given_up : Effect → Bool
is_given_up (effect.Start _ _) = false
is_given_up (effect.Ask _ _) = false
is_given_up (effect.Kill _ _) = false
is_given_up (effect.Reply _) = false
is_given_up effect.Ready = false
is_given_up (effect.End end) = is_intensity end.cause

-- a restart that was made up to now lies in the period by a clock that shows whole seconds, as that of OTP up to today does, and
-- is so many milliseconds ahead of the time of the run
abbrev pub is_in_seconds : ℕ → ℕ → ℕ → ℕ → Bool
is_in_seconds phase period now stamp = nat_le stamp now && is_in_period period (second (now + phase)) (second (stamp + phase))

-- more restarts than the intensity do: such a clock ends the supervisor
abbrev pub is_too_many : ℕ → SupFlags → List ℕ → ℕ → Bool
is_too_many phase flags stamps now = nat_lt flags.intensity (count_by (is_in_seconds phase flags.period now) stamps)

-- more restarts than the intensity lie in a period at one of the first so many phases of such a clock
abbrev pub is_too_many_below : ℕ → SupFlags → List ℕ → ℕ → Bool
is_too_many_below zero flags stamps now = false
is_too_many_below (suc phase) flags stamps now = is_too_many phase flags stamps now || is_too_many_below phase flags stamps now

-- there is a phase of the second at which a clock of whole seconds ends the supervisor
unfoldable pub may_give_up : SupFlags → List ℕ → ℕ → Bool
may_give_up flags stamps now = is_too_many_below 1000 flags stamps now

-- how many restarts were made now
abbrev pub made_now : List ℕ → ℕ → ℕ
made_now stamps now = count_by (λ s. s == now) stamps

-- more restarts than the intensity lie in the period
unfoldable pub is_over_limit : SupFlags → List ℕ → ℕ → Bool
is_over_limit flags stamps now = nat_lt flags.intensity (in_period flags.period stamps now)

-- a restart was made now after which a clock of whole seconds may end the supervisor, and one of milliseconds doesn't
unfoldable pub is_apart : SupFlags → List ℕ → ℕ → Bool
is_apart flags stamps now = nat_lt 0 (made_now stamps now) && may_give_up flags stamps now && not (is_over_limit flags stamps now)

-- a restart was made now that is one too many
unfoldable pub is_last : SupFlags → List ℕ → ℕ → Bool
is_last flags stamps now = nat_lt 0 (made_now stamps now) && is_over_limit flags stamps now

-- a count more, while it fits
unfoldable pub one_more : ℕ → ℕ
one_more count = if count == 18446744073709551615 then count else count + 1

-- it gives up now, or not
unfoldable pub given_up : Bool → ℕ → Strain → Strain
given_up false now strain = strain
given_up true now strain = record strain { times = one_more strain.times; last = now }

-- so many restarts lie in its period now
unfoldable pub used : ℕ → Strain → Strain
used restarts strain = if nat_lt strain.most restarts then record strain { most = restarts } else strain

unfoldable pub first_apart : Option ℕ → ℕ → Strain → Strain
first_apart None now strain = record strain { apart = Some now }
first_apart (Some _) now strain = strain

-- the clocks decide apart now, or not; the first time is kept
unfoldable pub parted : Bool → ℕ → Strain → Strain
parted false now strain = strain
parted true now strain = first_apart strain.apart now strain

-- the first that it was on its way to its end for stays
unfoldable pub first_course : Course → Course → Course
first_course to Stays = to
first_course to course = course

-- on which course an event of this kind puts a supervisor, of which the last restart is one too many or not: it is started anew, is
-- asked to shut down, or begins to give up
unfoldable pub course_after : Kind → ℕ → Bool → Course → Course
course_after (kind.Opened own) now is_last course = Stays
course_after kind.Stopped now is_last course = first_course (Asked now) course
course_after _ now true course = first_course (GivesUp now) course
course_after _ now false course = course

unfoldable pub put_on : Kind → ℕ → Bool → Strain → Strain
put_on k now is_last strain = record strain { course = course_after k now is_last strain.course }

-- what an event of this kind made of it, after which the supervisor has these restarts, and by which it gave these orders
unfoldable pub strained : Strain → ℕ → Kind → SupFlags → List ℕ → List Effect → Strain
strained strain now k flags stamps orders =
    put_on k now (is_last flags stamps now)
    (parted (is_apart flags stamps now) now (used (in_period flags.period stamps now) (given_up (list_any is_given_up orders) now strain)))

-- how a supervisor with these flags bears up, by the state after the event
unfoldable pub strained_by : SupFlags → Strain → ℕ → Kind → Outcome → Strain
strained_by flags strain now k o = strained strain now k flags (last_stamps o.state.flags.intensity o.state.stamps) o.orders
