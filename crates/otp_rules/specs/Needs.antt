-- Which events need a number, and histories that have one exactly there.
use Rattle.std.specs.Prelude.{AllPairs, ◌≡◌, ◌<◌, ℕ, Bool, true, false, ◌&&◌, not, List, [], ◌∷◌, None, is_some, position, unwrap_or}
use Rattle.std.specs.List.{list_any, filter_map}
use Rattle.otp_rules.specs.declared.event.Effect.{Effect}
use Rattle.otp_rules.specs.declared.event.Effect.TheVariants as effect
use Rattle.otp_rules.specs.declared.event.Event.{Event}
use Rattle.otp_rules.specs.declared.event.Kind.{Kind}
use Rattle.otp_rules.specs.declared.event.Waiting.{Waiting}
use Rattle.otp_rules.specs.declared.work.Due.{Due}
use Rattle.otp_table.specs.Rows.{is_awaited, row_has}
use Rattle.otp_rules.specs.State.{Outcome, State, is_busy}
use Rattle.otp_rules.specs.Stops.{is_exit, without}
use Rattle.otp_rules.specs.Step.{decide, stamped, step}

abbrev pub is_start : Effect → Bool
is_start (effect.Start _ _) = true
is_start _ = false

-- the event starts a child
unfoldable pub needs_number : State → ℕ → Kind → Bool
needs_number s reading kind = list_any is_start (step s (record { reading = reading; number = None; kind = kind })).orders

-- the ends of all these processes wait: each that is found is used
abbrev pub ends_wait : List ℕ → List Waiting → Bool
ends_wait [] items = true
ends_wait (p ∷ ps) items = is_some (position (is_exit p) items) && ends_wait ps (without items (position (is_exit p) items))

-- a child is left to start
abbrev pub has_due : List Due → Bool
has_due [] = false
has_due (due ∷ dues) = true

-- the open work goes on to the start of a child: no answer is awaited, what is still to stop has ended, and a child
-- is left to start
unfoldable pub work_starts : Outcome → Bool
work_starts o =
    is_busy o && (not (list_any (row_has is_awaited) o.state.rows) && (ends_wait o.state.to_stop o.state.waiting && has_due o.state.to_start))

-- an event needs a number exactly where the work that it opens, or that goes on, starts a child
abbrev pub NumberStartsWork : Type 0
NumberStartsWork = (reading : ℕ) (kind : Kind) (o : Outcome) → needs_number o.state reading kind ≡ work_starts (decide kind (record o { state = stamped reading o.state }))

-- the process numbers that the events gave
abbrev pub numbers_of : List Event → List ℕ
numbers_of events = filter_map (λ e. e.number) events

abbrev pub last_from : ℕ → List Event → ℕ
last_from n [] = n
last_from n (e ∷ es) = last_from (unwrap_or e.number n) es

-- the last process number that an event gave, or 0 where none did
abbrev pub last_number : List Event → ℕ
last_number events = last_from 0 events

-- an event has a number exactly where it starts a child
abbrev pub IsNumbered : State → List Event → Type 0
IsNumbered s [] = Unit {0}
IsNumbered s (e ∷ es) = (is_some e.number ≡ needs_number s e.reading e.kind) × IsNumbered (step s e).state es

-- a lawful history from a state: numbers are given exactly where children are started, and rise
abbrev pub IsLawfulHistory : State → List Event → Type 0
IsLawfulHistory s events = IsNumbered s events × AllPairs (λ m n. m < n) (numbers_of events)
