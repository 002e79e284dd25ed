-- What stands at the end of a run (own).
use Rattle.std.specs.Prelude.{◌≡◌, ℕ, Bool, true, false, List, [], ◌∷◌, ◌++◌}
use Rattle.otp_trial.specs.Played.{Seated, Stand, now_of}
use Rattle.otp_trial.specs.declared.clock.Clock.{Clock}
use Rattle.otp_trial.specs.declared.processes.inits.Init.{Init}
use Rattle.otp_trial.specs.declared.processes.plans.Hang.{Hang}
use Rattle.otp_trial.specs.declared.processes.plans.PlannedStart.{PlannedStart}
use Rattle.otp_try.specs.Fit.{fit}
use Rattle.otp_try.specs.Prompt.{standings_text}
use Rattle.otp_try.specs.Unused.{unused_text}
use Rattle.otp_try.specs.Verdict.{whole_verdict}

-- how the supervisors stand, what they await, and what was planned and never came
unfoldable pub stand_text : ℕ → List Seated → List Bool → List PlannedStart → List Init → List Hang → List ℕ
stand_text now seats running plans inits hanging = standings_text now seats running ++ unused_text seats plans inits hanging

-- how the supervisors stand, in lines of at most 80 columns, unless little is to be told
unfoldable pub front_text : Bool → ℕ → List Seated → List Bool → List PlannedStart → List Init → List Hang → List ℕ
front_text true now seats running plans inits hanging = []
front_text false now seats running plans inits hanging = fit [] (stand_text now seats running plans inits hanging)

-- what stands at the end of a run by this clock, in which something was played or not: that, and the verdict, of which no line is cut
unfoldable pub summary_text : Bool → Bool → Clock → ℕ → List Seated → List Bool → List PlannedStart → List Init → List Hang → List ℕ
summary_text is_quiet is_played by now seats running plans inits hanging =
    front_text is_quiet now seats running plans inits hanging ++ whole_verdict is_played by seats running

-- a text says so of a run that stands so, by its clock and at what that shows; the root has a process
abbrev pub IsSummary : Stand → List ℕ → Type 0
IsSummary stand text =
    (is_quiet : Bool) × (is_played : Bool) × (others : List Bool) × (plans : List PlannedStart) × (inits : List Init) × (hanging : List Hang)
    × (text ≡ summary_text is_quiet is_played stand.clock (now_of stand) stand.seats (true ∷ others) plans inits hanging)
