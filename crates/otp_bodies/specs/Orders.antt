-- The orders among effects: what they post, and which processes they start.
use Rattle.std.specs.Prelude.{ℕ, Bool, true, false, not, List, [], ◌∷◌, Option, Some, None, filter_map}
use Rattle.std.specs.List.{filter}
use Rattle.otp_table.specs.declared.row.Row.{Row}
use Rattle.otp_rules.specs.declared.event.Effect.{Effect}
use Rattle.otp_rules.specs.declared.event.Effect.TheVariants as effect
use Rattle.otp_bodies.specs.Rows.{slot_of}
use Rattle.otp_rules.specs.Effects.{is_reply}
use Rattle.otp_rules.specs.Run.{orders_of}
use Rattle.otp_core.specs.View.{View}
use Rattle.otp_signals.specs.declared.signal.Signal.{Signal}
use Rattle.otp_signals.specs.declared.signal.Signal.TheVariants as signal
use Rattle.otp_signals.specs.Signals.{word_of}

abbrev pub started_by : Effect → Option ℕ
started_by (effect.Start _ p) = Some p
started_by (effect.Ask _ _) = None
started_by (effect.Kill _ _) = None
started_by (effect.Reply _) = None
started_by effect.Ready = None
started_by (effect.End _) = None

-- the process that the first order starts
abbrev pub first_start : List Effect → Option ℕ
first_start [] = None
first_start (e ∷ es) = started_by e

abbrev pub slot_started : List Row → Option ℕ → Option ℕ
slot_started rows None = None
slot_started rows (Some p) = Some (slot_of rows p)

-- the slot of the child that the first order starts
abbrev pub starting_slot : List Effect → List Row → Option ℕ
starting_slot outbox rows = slot_started rows (first_start outbox)

-- the orders among effects
abbrev pub orders_in : List Effect → List Effect
orders_in effects = filter (λ e. not (is_reply e)) effects

-- the orders of a whole history
abbrev pub orders_along : View → List Effect
orders_along core = orders_in (orders_of core.base core.history)

-- the number and the signal that the sending of an order posts
abbrev pub post_of : Effect → Option (ℕ × Signal)
post_of (effect.Start _ n) = Some (n, signal.None)
post_of (effect.Ask _ n) = Some (n, signal.Shutdown)
post_of (effect.Kill _ n) = Some (n, signal.Kill)
post_of (effect.Reply _) = None
post_of effect.Ready = None
post_of (effect.End _) = None

-- the word that the sending of an order posts
abbrev pub word_posted : Option (ℕ × Signal) → Option ℕ
word_posted None = None
word_posted (Some p) = Some (word_of p.0 p.1)

abbrev pub word_ordered : Effect → Option ℕ
word_ordered e = word_posted (post_of e)

-- something is among these
abbrev pub has_some : {X : Type 0} → List X → Bool
has_some [] = false
has_some (x ∷ xs) = true

-- the processes whose starts are among these orders
abbrev pub starts_in : List Effect → List ℕ
starts_in orders = filter_map started_by orders
