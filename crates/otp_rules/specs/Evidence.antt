-- What an end shows by itself (Supervisor Behaviour, Maximum Restart Intensity and Automatic Shutdown).
use Rattle.std.specs.Prelude.{◌≡◌, ℕ, ◌+◌, ◌*◌, ◌≤◌, List, Some, All, length}
use Rattle.std.specs.List.{Contains}
use Rattle.std.specs.List.Sorted.{IsNonDecreasing}
use Rattle.otp_reason.specs.declared.reason.Reason.TheVariants.{Shutdown}
use Rattle.otp_rules.specs.declared.ending.Cause.{Cause}
use Rattle.otp_rules.specs.declared.ending.Cause.TheVariants as cause
use Rattle.otp_rules.specs.declared.ending.SupEnd.{SupEnd}
use Rattle.otp_spec.specs.declared.child.ChildSpec.{ChildSpec}
use Rattle.otp_spec.specs.declared.flags.SupFlags.{SupFlags}
use Rattle.otp_rules.specs.declared.event.Effect.{Effect}
use Rattle.otp_rules.specs.declared.event.Effect.TheVariants as effect
use Rattle.otp_rules.specs.declared.event.Event.{Event}
use Rattle.otp_rules.specs.Ends.{init_failed, last_stamps}
use Rattle.otp_rules.specs.Frames.{IsStamped}
use Rattle.otp_rules.specs.State.{State}
use Rattle.otp_rules.specs.declared.ending.Ending.TheVariants.{Intensity}
use Rattle.otp_rules.specs.declared.work.Sequel.TheVariants as sequel
use Rattle.otp_rules.specs.Run.{empty_state, state_after}
use Rattle.otp_rules.specs.Step.{step}

-- one restart more than the intensity, none before another, all within one period of milliseconds
pub record IsTooMany (intensity period : ℕ) (stamps : List ℕ) : Type 0 where
  pub count : length stamps ≡ intensity + 1
  pub ordered : IsNonDecreasing stamps
  pub within : (first last : ℕ) → Contains stamps first → Contains stamps last → last ≤ first + 1000 * period

abbrev pub IsShownBy : SupEnd → Cause → Type 0
IsShownBy end (cause.Intensity flags stamps) = (end.reason ≡ Shutdown) × IsTooMany flags.intensity flags.period stamps
IsShownBy end (cause.Significant _) = end.reason ≡ Shutdown
IsShownBy end cause.Asked = end.reason ≡ Shutdown
IsShownBy end (cause.InitFailed id) = end.reason ≡ init_failed id

-- the cause shows why the supervisor ended with this reason
abbrev pub IsEvidence : SupEnd → Type 0
IsEvidence end = IsShownBy end end.cause

-- an order to end shows why
abbrev pub IsEvident : Effect → Type 0
IsEvident (effect.End end) = IsEvidence end
IsEvident _ = Unit {0}

-- a state from which each end shows why: its restarts are in order, none later than the last event, and where it is
-- ending by the intensity they are one too many
abbrev pub IsShowing : State → Type 0
IsShowing s =
    IsNonDecreasing s.stamps × IsStamped s
    × (s.follows ≡ Some (sequel.End Intensity) → IsTooMany s.flags.intensity s.flags.period (last_stamps s.flags.intensity s.stamps))

-- whatever happens from such a state on, each end that is ordered shows why, and the state stays such
abbrev pub EndEvidence : Type 0
EndEvidence =
    (s : State) (events : List Event) (e : Event)
    → IsShowing s
    → IsShowing (state_after s events) × All IsEvident (step (state_after s events) e).orders

-- it is so from the state that was never opened on
abbrev pub EndEvidenceFromEmpty : Type 0
EndEvidenceFromEmpty =
    (flags : SupFlags) (specs : List ChildSpec) (events : List Event) (e : Event)
    → All IsEvident (step (state_after (empty_state flags specs) events) e).orders
