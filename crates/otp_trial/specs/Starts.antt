-- Which child a process was started for: the starts that a supervisor ordered (own).
use Rattle.std.specs.Prelude.{ℕ, ◌==◌, Bool, List, [], ◌∷◌, ◌++◌, Option, Some, None, position, slice_get}
use Rattle.std.specs.List.{flat_map}
use Rattle.std.specs.Option.{option_eq}
use Rattle.std.specs.Ordering.{on}
use Rattle.std.specs.Str.{bytes_eq}
use Rattle.otp_reason.specs.Names.{name_bytes}
use Rattle.otp_reason.specs.declared.name.Name.{Name}
use Rattle.otp_rules.specs.declared.event.Effect.{Effect}
use Rattle.otp_rules.specs.declared.event.Effect.TheVariants as effect
use Rattle.otp_rules.specs.declared.event.Event.{Event}
use Rattle.otp_rules.specs.State.{State}
use Rattle.otp_rules.specs.Step.{step}
use Rattle.otp_script.specs.declared.step.Child.{Child}
use Rattle.otp_script.specs.declared.step.Child.TheVariants as child
use Rattle.otp_trial.specs.declared.story.starts.Started.{Started}

-- the start that an order asks for, if it asks for one
unfoldable pub start_in : Effect → List Started
start_in (effect.Start id process) = record { id = id; process = process } ∷ []
start_in (effect.Ask _ _) = []
start_in (effect.Kill _ _) = []
start_in (effect.Reply _) = []
start_in effect.Ready = []
start_in (effect.End _) = []

-- those that orders ask for
unfoldable pub starts_in : List Effect → List Started
starts_in orders = flat_map start_in orders

-- those that a supervisor ordered at these events
abbrev pub started_by : State → List Event → List Started
started_by s [] = []
started_by s (e ∷ es) = starts_in (step s e).orders ++ started_by (step s e).state es

abbrev pub is_of : ℕ → Started → Bool
is_of process started = started.process == process

-- the start at this place, if there is one
unfoldable pub start_found : List Started → Option ℕ → Option Started
start_found starts None = None
start_found starts (Some place) = slice_get starts place

-- the start of the process with this number: no other start has that
abbrev pub start_of : List Started → ℕ → Option Started
start_of starts process = start_found starts (position (is_of process) starts)

-- a start of the child with this id
unfoldable pub is_of_id : Name → Started → Bool
is_of_id id started = option_eq (on name_bytes bytes_eq) started.id (Some id)

-- a start of the child that a script means
unfoldable pub is_start_of : Child → Started → Bool
is_start_of (child.Named id) started = is_of_id id started
is_start_of (child.Numbered p) started = started.process == p
