-- What a script said beforehand, and the first of it that is for a child (own).
use Rattle.std.specs.Prelude.{ℕ, ◌==◌, Bool, ◌&&◌, List, Option, Some, None, option_map, position, slice_get}
use Rattle.std.specs.List.{remove}
use Rattle.std.specs.Option.{option_eq}
use Rattle.std.specs.Ordering.{on}
use Rattle.std.specs.Str.{bytes_eq}
use Rattle.otp_reason.specs.Names.{name_bytes}
use Rattle.otp_reason.specs.declared.name.Name.{Name}
use Rattle.otp_script.specs.declared.step.Child.{Child}
use Rattle.otp_script.specs.declared.step.Child.TheVariants as child
use Rattle.otp_script.specs.declared.step.NextStart.{NextStart}
use Rattle.otp_trial.specs.declared.processes.plans.Hang.{Hang}
use Rattle.otp_trial.specs.declared.processes.plans.PlannedStart.{PlannedStart}

-- a plan for this child of the supervisor at this place
abbrev pub is_for : ℕ → Name → PlannedStart → Bool
is_for place id plan = plan.place == place && bytes_eq (name_bytes plan.id) (name_bytes id)

-- where the first stands; a dynamic child has no id, and no start of one is planned
unfoldable pub plan_for : ℕ → Option Name → List PlannedStart → Option ℕ
plan_for place None plans = None
plan_for place (Some id) plans = position (is_for place id) plans

-- what it says, and the plans without it: a plan is for one start
unfoldable pub start_found : List PlannedStart → Option ℕ → Option NextStart
start_found plans None = None
start_found plans (Some at) = option_map (λ plan. plan.start) (slice_get plans at)

unfoldable pub without_plan : List PlannedStart → Option ℕ → List PlannedStart
without_plan plans None = plans
without_plan plans (Some at) = remove plans at

-- the script means this child, by its id or the number of its process
unfoldable pub is_meant : Child → Option Name → ℕ → Bool
is_meant (child.Named name) id number = option_eq (on name_bytes bytes_eq) id (Some name)
is_meant (child.Numbered process) id number = process == number

-- it is said of this child of the supervisor at this place that it doesn't end at once
unfoldable pub is_hung : ℕ → Option Name → ℕ → Hang → Bool
is_hung place id number hang = hang.place == place && is_meant hang.child id number

-- how much later a child ends of which that is said; nothing where it doesn't end
unfoldable pub delay_said : Option Hang → Option ℕ
delay_said None = None
delay_said (Some hang) = hang.delay
