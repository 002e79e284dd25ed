-- The least intensity, or the greatest period, with which a supervisor survives crashes of a child (own).
use Rattle.std.specs.Prelude.{◌≡◌, ℕ, ◌+◌, ◌-◌, ◌<◌, ◌≤◌, List}
use Rattle.otp_costs.specs.Costs.{IsUnknown}
use Rattle.otp_trial.specs.declared.clock.Clock.{Clock}
use Rattle.otp_costs.specs.declared.limits.steady.Verdict.{Verdict}
use Rattle.otp_costs.specs.declared.limits.steady.Verdict.TheVariants.{Falls, Lasts}
use Rattle.otp_reason.specs.declared.name.Name.{Name}
use Rattle.otp_spec.specs.declared.child.ChildSpec.{ChildSpec}
use Rattle.otp_spec.specs.declared.flags.SupFlags.{SupFlags}
use Rattle.otp_spec.specs.declared.limits.TheConstants.{MAX_INTENSITY, MAX_PERIOD}
use Rattle.otp_suggest.specs.Courses.{IsJudgedBy}
use Rattle.otp_suggest.specs.declared.course.Course.{Course}
use Rattle.otp_suggest.specs.declared.dial.Dial.{Dial}
use Rattle.otp_suggest.specs.declared.dial.Dial.TheVariants.{Intensity, Period}
use Rattle.otp_suggest.specs.declared.edge.Bounds.{Bounds}
use Rattle.otp_suggest.specs.declared.edge.Edge.{Edge}
use Rattle.otp_suggest.specs.declared.edge.Edge.TheVariants as edge

-- the flags with another value in the place of one
abbrev pub turned : Dial → ℕ → SupFlags → SupFlags
turned Intensity value flags = record flags { intensity = value }
turned Period value flags = record flags { period = value }

-- the values that a supervisor may have, from that with which least is survived on: intensities from 0 up, periods from the
-- longest down to a second
abbrev pub value_at : Dial → ℕ → ℕ
value_at Intensity step = step
value_at Period step = MAX_PERIOD - step

-- the step of the last one
abbrev pub last_step : Dial → ℕ
last_step Intensity = MAX_INTENSITY
last_step Period = MAX_PERIOD - 1

-- what crashes that come so show, by this clock, where the flag has the value of this step
abbrev pub IsJudgedAt : Dial → Clock → SupFlags → List ChildSpec → Name → Course → ℕ → Verdict → Type 0
IsJudgedAt dial clock flags specs id course step verdict = IsJudgedBy clock (turned dial (value_at dial step) flags) specs id course verdict

-- the edge: crashes are survived with this value, and with the one before it they aren't; or each value survives them; or none
-- does
unfoldable pub IsEdge : Dial → Clock → SupFlags → List ChildSpec → Name → Course → Edge → Type 0
IsEdge dial clock flags specs id course edge.Any = IsJudgedAt dial clock flags specs id course 0 Lasts
IsEdge dial clock flags specs id course (edge.At value) =
    (step : ℕ) × ((value ≡ value_at dial (step + 1))
    × (IsJudgedAt dial clock flags specs id course (step + 1) Lasts × IsJudgedAt dial clock flags specs id course step Falls))
IsEdge dial clock flags specs id course edge.Nowhere = IsJudgedAt dial clock flags specs id course (last_step dial) Falls

-- the edge lies between these steps: at the long one the crashes are survived, and at the short one they aren't
pub record AreBounds (dial : Dial) (clock : Clock) (flags : SupFlags) (specs : List ChildSpec) (id : Name) (course : Course) (bounds : Bounds) : Type 0 where
  pub order : bounds.short < bounds.long
  pub limit : bounds.long ≤ MAX_PERIOD
  pub falls : IsJudgedAt dial clock flags specs id course bounds.short Falls
  pub lasts : IsJudgedAt dial clock flags specs id course bounds.long Lasts

-- the edge can't be found: with one of the values a run can't be played to its end
abbrev pub IsEdgeless : Dial → SupFlags → List ChildSpec → Name → Type 0
IsEdgeless dial flags specs id = (value : ℕ) × IsUnknown (turned dial value flags) specs id
