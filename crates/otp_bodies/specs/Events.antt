-- What an event is to an office: when it is due, what it takes, and what it leaves.
use Rattle.std.specs.Prelude.{◌≡◌, ⊤, ℕ, ◌<◌, Bool, true, false, List, [], ◌∷◌, ◌++◌, Option, Some, None, is_some, nat_lt, length, filter_map, if◌then◌else◌, ◌+◌, All}
use Rattle.otp_rules.specs.declared.event.Item.{Item}
use Rattle.otp_rules.specs.declared.event.Kind.{Kind}
use Rattle.otp_rules.specs.declared.event.Kind.TheVariants as kind
use Rattle.otp_rules.specs.State.{State}
use Rattle.otp_rules.specs.declared.event.Event.{Event}
use Rattle.otp_rules.specs.Needs.{numbers_of, needs_number}
use Rattle.otp_rules.specs.Step.{step}
use Rattle.otp_core.specs.View.{state_of, stored_of}
use Rattle.otp_signals.specs.declared.view.Holding.{Holding}
use Rattle.otp_signals.specs.declared.signal.Signal.{Signal}
use Rattle.otp_signals.specs.declared.signal.Signal.TheVariants as signal
use Rattle.otp_bodies.specs.Orders.{orders_in}
use Rattle.otp_rules.specs.declared.work.Phase.{Phase}
use Rattle.otp_rules.specs.declared.work.Phase.TheVariants.{Unopened, Open, Ended}
use Rattle.otp_rules.specs.Next.{next_kind}
use Rattle.otp_signals.specs.Holdings.{after_draw}
use Rattle.otp_bodies.specs.declared.office.turns.TurnFault.{TurnFault}
use Rattle.otp_bodies.specs.declared.office.turns.TurnFault.TheVariants as fault
use Rattle.otp_bodies.specs.Offices.{OfficeView, sent_of}

-- something waits
abbrev pub is_any_waiting : State → Bool
is_any_waiting s = nat_lt 0 (length s.waiting)

-- the item that an event took
abbrev pub item_of : Kind → Option Item
item_of (kind.Opened _) = None
item_of (kind.Took x) = Some x
item_of kind.Resumed = None
item_of kind.Ticked = None
item_of kind.Stopped = None

abbrev pub IsOpening : Kind → Type 0
IsOpening (kind.Opened _) = ⊤
IsOpening (kind.Took _) = ⊥
IsOpening kind.Resumed = ⊥
IsOpening kind.Ticked = ⊥
IsOpening kind.Stopped = ⊥

abbrev pub items_of : List Event → List Item
items_of events = filter_map (λ e. item_of e.kind) events

abbrev pub is_told : Signal → Bool
is_told signal.None = false
is_told signal.Shutdown = true
is_told signal.Kill = true

-- a supervisor in this phase may be opened under the number
abbrev pub may_open : ℕ → Phase → Bool
may_open number Unopened = true
may_open number (Open own) = false
may_open number (Ended own _) = nat_lt own number

-- the event that is due whether or not an item can be taken: an opening, or else what a supervisor does by itself
unfoldable pub due_kind : State → ℕ → ℕ → Signal → Option Kind
due_kind s number reading told = if may_open number s.phase then Some (kind.Opened number) else next_kind s reading (is_told told)

-- the number of an event was drawn, if it has one
abbrev pub drawn_by : Option ℕ → Holding → Holding
drawn_by None h = h
drawn_by (Some n) h = after_draw n h

-- one event of this kind happened: it stands last in the history
pub record Happened (reading : ℕ) (kind : Kind) (old new : OfficeView) : Type 0 where
  pub number : Option ℕ
  pub history : new.core.history ≡ old.core.history ++ record { reading = reading; number = number; kind = kind } ∷ []
  -- it stands last among the stored events, behind the same checkpoint
  pub stored : stored_of new.core ≡ stored_of old.core ++ record { reading = reading; number = number; kind = kind } ∷ []
  pub cut : new.core.cut ≡ old.core.cut
  -- it has a number exactly where it starts a child, above all earlier ones
  pub needed : is_some number ≡ needs_number (state_of old.core) reading kind
  pub rises : (n : ℕ) → number ≡ Some n → All (λ m. m < n) (numbers_of old.core.history)
  -- its orders are to be sent
  pub outbox : new.outbox ≡ orders_in (step (state_of old.core) (record { reading = reading; number = number; kind = kind })).orders
  pub base : new.core.base ≡ old.core.base
  pub sent : new.sent ≡ old.sent
  -- those that were sent are the same
  pub same_sent : sent_of new ≡ sent_of old
  pub owner : new.owner ≡ drawn_by number old.owner
  pub first_slot : new.first_slot ≡ old.first_slot

-- nothing but that memory was taken
pub record Readied (old new : OfficeView) : Type 0 where
  pub core : new.core ≡ record old.core { prepared = new.core.prepared }
  pub owner : new.owner ≡ old.owner
  pub outbox : new.outbox ≡ old.outbox
  pub sent : new.sent ≡ old.sent
  pub first_slot : new.first_slot ≡ old.first_slot

-- why memory and a number for the next event aren't there: memory was refused, or no number is left
abbrev pub IsRefusal : OfficeView → TurnFault → Type 0
IsRefusal o fault.OutOfMemory = ⊤
IsRefusal o fault.Exhausted = o.owner.quota ≡ 0
IsRefusal o fault.WrongNumber = ⊥
