-- What a child's failure costs (own).
use Rattle.std.specs.Prelude.{◌≡◌, ℕ, ◌+◌, ◌*◌, ◌^◌, ◌<◌, ◌≤◌, min, List, [], ◌∷◌, Option, Some, None, unwrap_or}
use Rattle.std.specs.List.{filter_map}
use Rattle.otp_reason.specs.declared.name.Name.{Name}
use Rattle.otp_rules.specs.declared.event.Effect.{Effect}
use Rattle.otp_rules.specs.declared.event.Effect.TheVariants as effect
use Rattle.otp_spec.specs.declared.child.ChildSpec.{ChildSpec}
use Rattle.otp_spec.specs.declared.flags.SupFlags.{SupFlags}
use Rattle.otp_spec.specs.declared.limits.TheConstants.{MAX_INTENSITY, MAX_PERIOD}
use Rattle.otp_trial.specs.declared.clock.Clock.{Clock}
use Rattle.otp_trial.specs.declared.clock.Clock.TheVariants as clock
use Rattle.otp_costs.specs.declared.limits.cost.Cost.{Cost}
use Rattle.otp_costs.specs.declared.limits.cost.TheConstants.{MOST_CRASHES}
use Rattle.otp_costs.specs.declared.limits.fate.Fate.{Fate}
use Rattle.otp_costs.specs.declared.limits.fate.Fate.TheVariants as fate
use Rattle.otp_costs.specs.declared.limits.steady.Bounds.{Bounds}
use Rattle.otp_costs.specs.declared.limits.steady.Steady.{Steady}
use Rattle.otp_costs.specs.declared.limits.steady.Steady.TheVariants as steady
use Rattle.otp_costs.specs.declared.limits.steady.Verdict.{Verdict}
use Rattle.otp_costs.specs.declared.limits.steady.Verdict.TheVariants.{Lasts, Falls}
use Rattle.otp_costs.specs.Fates.{Crashes, IsUnplayed, Plays}
use Rattle.otp_costs.specs.Scene.{Opens, Scene}

-- the longest interval that is tried, in milliseconds: a second longer than the period
abbrev pub longest_gap : SupFlags → ℕ
longest_gap flags = (min flags.period MAX_PERIOD + 1) * 1000

-- how many crashes are played at an interval: so many that a period which holds them holds one more than the intensity,
-- and one after those
abbrev pub steady_crashes : SupFlags → ℕ
steady_crashes flags = min flags.intensity MAX_INTENSITY + 2

-- what a run that went so shows
unfoldable pub verdict_of : Fate → Verdict
verdict_of fate.Survived = Lasts
verdict_of (fate.Ended _) = Falls
verdict_of (fate.Gone _) = Lasts

-- what a run of crashes at this interval shows, by this clock
abbrev pub IsJudged : Clock → SupFlags → List ChildSpec → Name → ℕ → Verdict → Type 0
IsJudged clock flags specs id gap verdict = (ending : Fate) × (Plays flags specs clock id gap (steady_crashes flags) ending × (verdict_of ending ≡ verdict))

-- the shortest interval lies between these: at the long one the run is survived, and at the short one it isn't
pub record AreBounds (clock : Clock) (flags : SupFlags) (specs : List ChildSpec) (id : Name) (bounds : Bounds) : Type 0 where
  pub order : bounds.short < bounds.long
  pub limit : bounds.long ≤ 2 ^ 30
  pub falls : IsJudged clock flags specs id bounds.short Falls
  pub lasts : IsJudged clock flags specs id bounds.long Lasts

-- the shortest interval: with one millisecond less the run ends the supervisor
unfoldable pub IsSteady : Clock → SupFlags → List ChildSpec → Name → Steady → Type 0
IsSteady clock flags specs id steady.Always = IsJudged clock flags specs id 0 Lasts
IsSteady clock flags specs id (steady.Apart gap) = IsJudged clock flags specs id gap Lasts × ((less : ℕ) × ((less + 1 ≡ gap) × IsJudged clock flags specs id less Falls))
IsSteady clock flags specs id steady.Never = IsJudged clock flags specs id (longest_gap flags) Falls

-- the child that an order stops, and the one that it starts: where it has no id of its own, by that of its specification
unfoldable pub stopped_by : Name → Effect → Option Name
stopped_by spec (effect.Start _ _) = None
stopped_by spec (effect.Ask id _) = Some (unwrap_or id spec)
stopped_by spec (effect.Kill id _) = Some (unwrap_or id spec)
stopped_by spec (effect.Reply _) = None
stopped_by spec effect.Ready = None
stopped_by spec (effect.End _) = None

unfoldable pub started_by : Name → Effect → Option Name
started_by spec (effect.Start id _) = Some (unwrap_or id spec)
started_by spec (effect.Ask _ _) = None
started_by spec (effect.Kill _ _) = None
started_by spec (effect.Reply _) = None
started_by spec effect.Ready = None
started_by spec (effect.End _) = None

-- what one crash of a child stops, and starts again, in this order
pub record Crashed (id : Name) (opened : Scene) (stops starts : List Name) : Type 0 where
  pub after : Scene
  pub crashes : Crashes clock.Milliseconds id 0 1 opened after
  pub stopped : stops ≡ filter_map (stopped_by id) after.orders
  pub started : starts ≡ filter_map (started_by id) after.orders

pub record Affects (flags : SupFlags) (specs : List ChildSpec) (id : Name) (stops starts : List Name) : Type 0 where
  pub opened : Scene
  pub opens : Opens flags specs opened
  pub after : Scene
  pub crashes : Crashes clock.Milliseconds id 0 1 opened after
  pub stopped : stops ≡ filter_map (stopped_by id) after.orders
  pub started : starts ≡ filter_map (started_by id) after.orders

-- what the failure of the child with this id costs
pub record IsCost (flags : SupFlags) (specs : List ChildSpec) (id : Name) (cost : Cost) : Type 0 where
  pub named : cost.id ≡ id
  pub affects : Affects flags specs id cost.stops cost.starts
  pub burst : Plays flags specs clock.Milliseconds id 0 MOST_CRASHES cost.burst
  pub steady : IsSteady clock.Milliseconds flags specs id cost.steady
  -- how far apart crashes must be by the clock of OTP, from the beginning of a second on
  pub seconds : IsSteady clock.Seconds flags specs id cost.seconds

-- each of these is the cost of a child of this supervisor
abbrev pub AreCosts : SupFlags → List ChildSpec → List Cost → Type 0
AreCosts flags specs [] = Unit {0}
AreCosts flags specs (cost ∷ costs) = IsCost flags specs cost.id cost × AreCosts flags specs costs

-- the costs of this child can't be found: one of the runs that they are found by can't be played to its end
pub record IsUnknown (flags : SupFlags) (specs : List ChildSpec) (id : Name) : Type 0 where
  -- the clock, the interval of its crashes, and how many there are
  pub clock : Clock
  pub gap : ℕ
  pub crashes : ℕ
  pub unplayed : IsUnplayed flags specs clock id gap crashes
