-- Restarts come no faster than the flags allow (Supervisor Behaviour, Maximum Restart Intensity).
use Rattle.std.specs.Prelude.{◌≡◌, ◌⊎◌, ℕ, ◌≤◌, List, [], ◌∷◌, ◌++◌, Option, Some, None, max, if◌then◌else◌}
use Rattle.otp_spec.specs.declared.child.ChildSpec.{ChildSpec}
use Rattle.otp_spec.specs.declared.flags.SupFlags.{SupFlags}
use Rattle.otp_window.specs.Period.{in_period}
use Rattle.otp_rules.specs.declared.ending.Ending.TheVariants.{Intensity}
use Rattle.otp_rules.specs.declared.event.Event.{Event}
use Rattle.otp_rules.specs.declared.work.Sequel.{Sequel}
use Rattle.otp_rules.specs.declared.work.Sequel.TheVariants as sequel
use Rattle.otp_rules.specs.declared.work.Phase.TheVariants.{Ended}
use Rattle.otp_rules.specs.State.{State}
use Rattle.otp_rules.specs.Run.{empty_state, state_after}
use Rattle.otp_rules.specs.Step.{step}
use Rattle.otp_rules.specs.Frames.{IsStamped}
use Rattle.otp_rules.specs.Progress.{decided, is_opened}
use Rattle.otp_rules.specs.Fit.{IsSound}

-- no period, wherever it ends, holds more restarts than the intensity
abbrev pub IsBounded : SupFlags → List ℕ → Type 0
IsBounded flags stamps = (t : ℕ) → in_period flags.period stamps t ≤ flags.intensity

-- the supervisor is ending, or has ended, since it restarted its children too often
abbrev pub EndsByIntensity : State → Type 0
EndsByIntensity s = (s.follows ≡ Some (sequel.End Intensity)) ⊎ ((own : ℕ) × (s.follows ≡ None) × (s.phase ≡ Ended own Intensity))

-- the last restart was one too many, those before it were not, and the supervisor ends by it
abbrev pub IsExceeded : State → Type 0
IsExceeded s = (front : List ℕ) × (t : ℕ) × (s.stamps ≡ front ++ t ∷ []) × IsBounded s.flags front × EndsByIntensity s

abbrev pub IsRated : State → Type 0
IsRated s = IsBounded s.flags s.stamps ⊎ IsExceeded s

-- the times of the restarts since the last opening, where work was opened at this time: an opening begins anew, and a
-- restart, also the one that is one too many, counts once
abbrev pub restarted : Option Sequel → ℕ → List ℕ → List ℕ
restarted (Some sequel.Ready) now times = []
restarted (Some sequel.Nothing) now times = times ++ now ∷ []
restarted (Some (sequel.End Intensity)) now times = times ++ now ∷ []
restarted _ now times = times

-- where this was to follow the open work, and that is now
abbrev pub restarts_by : Option Sequel → Option Sequel → ℕ → List ℕ → List ℕ
restarts_by f follows now times = if is_opened f follows then restarted follows now times else times

-- the times of the restarts after these events, seen from outside
abbrev pub restarts : State → List ℕ → List Event → List ℕ
restarts s times [] = times
restarts s times (e ∷ es) = restarts (step s e).state (restarts_by s.follows (decided s e).follows (max e.reading s.last) times) es

-- whatever happens from a sound state on, each restart is counted once
abbrev pub RestartsCounted : Type 0
RestartsCounted = (s : State) (events : List Event) → IsSound s → (state_after s events).stamps ≡ restarts s s.stamps events

-- whatever happens from a state on that keeps the rate
abbrev pub RestartRate : Type 0
RestartRate = (s : State) (events : List Event) → IsStamped s → IsRated s → IsRated (state_after s events)

-- it is so from the state that was never opened on
abbrev pub RestartRateFromEmpty : Type 0
RestartRateFromEmpty =
    (flags : SupFlags) (specs : List ChildSpec) (events : List Event)
    → IsRated (state_after (empty_state flags specs) events) × ((state_after (empty_state flags specs) events).stamps ≡ restarts (empty_state flags specs) [] events)
