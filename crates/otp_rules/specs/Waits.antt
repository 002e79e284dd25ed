-- The start calls that wait until no work is open (own): each brought a body, which waits with it.
use Rattle.std.specs.Prelude.{◌≡◌, ◌⊎◌, ℕ, true, not, ◌&&◌, List, [], ◌∷◌, ◌++◌, Option, Some, None, drop, is_some, if◌then◌else◌}
use Rattle.std.specs.List.{filter_map}
use Rattle.otp_rules.specs.declared.event.Event.{Event}
use Rattle.otp_rules.specs.declared.event.Item.{Item}
use Rattle.otp_rules.specs.declared.event.Item.TheVariants as item
use Rattle.otp_rules.specs.declared.event.Kind.{Kind}
use Rattle.otp_rules.specs.declared.event.Kind.TheVariants as kind
use Rattle.otp_rules.specs.declared.event.Waiting.{Waiting}
use Rattle.otp_rules.specs.declared.event.Waiting.TheVariants as waiting
use Rattle.otp_rules.specs.Homes.{is_start_call}
use Rattle.otp_rules.specs.State.{State, is_over}
use Rattle.otp_rules.specs.Step.{step}

-- the number of the call, if it is a start call
abbrev pub start_in : Item → Option ℕ
start_in (item.Note _) = None
start_in (item.Call c call) = if is_start_call call then Some c else None

abbrev pub start_waiting : Waiting → Option ℕ
start_waiting (waiting.Item i) = start_in i
start_waiting (waiting.Retry _) = None

-- the numbers of the start calls that wait, in their order
abbrev pub starts_waiting : List Waiting → List ℕ
starts_waiting ws = filter_map start_waiting ws

-- those after an event that doesn't end the supervisor: a call that comes while work is open waits last, and a
-- supervisor that runs and has no open work takes the first that waits
abbrev pub starts_left : Kind → State → List ℕ
starts_left (kind.Opened _) s = starts_waiting s.waiting
starts_left (kind.Took i) s = if is_some s.follows && not (is_over s.phase) then starts_waiting (s.waiting ++ waiting.Item i ∷ []) else starts_waiting s.waiting
starts_left kind.Resumed s = if not (is_some s.follows) && not (is_over s.phase) then starts_waiting (drop 1 s.waiting) else starts_waiting s.waiting
starts_left kind.Ticked s = starts_waiting s.waiting
starts_left kind.Stopped s = starts_waiting s.waiting

-- after each event those wait, or the supervisor has ended and nothing waits
abbrev pub StartsWait : Type 0
StartsWait =
    (s : State) (e : Event)
    → (starts_waiting (step s e).state.waiting ≡ starts_left e.kind s) ⊎ (((step s e).state.waiting ≡ []) × (is_over (step s e).state.phase ≡ true))
