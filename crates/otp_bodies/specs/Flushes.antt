-- What the sending of an order does.
use Rattle.std.specs.Prelude.{◌≡◌, ℕ, ◌+◌, Option, is_some, ◌<◌, List, [], ◌∷◌, ◌++◌, Some, None, Bool, true, false, length}
use Rattle.otp_bodies.specs.declared.port.Flushed.{Flushed}
use Rattle.otp_bodies.specs.declared.port.Flushed.TheVariants as flushed
use Rattle.otp_bodies.specs.Letters.{one_if}
use Rattle.otp_reason.specs.declared.name.Name.{Name}
use Rattle.otp_reason.specs.declared.note.Note.{Note}
use Rattle.otp_reason.specs.declared.note.Note.TheVariants as note
use Rattle.otp_reason.specs.declared.reason.Reason.{Reason}
use Rattle.otp_rules.specs.declared.ending.Cause.{Cause}
use Rattle.otp_rules.specs.declared.ending.Cause.TheVariants as cause
use Rattle.otp_rules.specs.declared.ending.SupEnd.{SupEnd}
use Rattle.otp_rules.specs.declared.event.Effect.{Effect}
use Rattle.otp_rules.specs.declared.event.Effect.TheVariants as effect
use Rattle.otp_rules.specs.Ended.{end_in}
use Rattle.otp_rules.specs.State.{own_number}
use Rattle.otp_core.specs.Again.{starts_again}
use Rattle.otp_core.specs.View.{View, state_of}
use Rattle.otp_signals.specs.declared.signal.Signal.{Signal}
use Rattle.otp_signals.specs.declared.signal.Signal.TheVariants as signal
use Rattle.otp_signals.specs.Signals.{word_of}
use Rattle.otp_signals.specs.Holdings.{after_post}
use Rattle.otp_bodies.specs.declared.office.orders.Sending.{Sending}
use Rattle.otp_bodies.specs.declared.office.orders.Sending.TheVariants as sending
use Rattle.otp_bodies.specs.declared.port.Launched.{Launched}
use Rattle.otp_bodies.specs.declared.port.ToldNote.{ToldNote}
use Rattle.otp_bodies.specs.Offices.{OfficeView}
use Rattle.otp_bodies.specs.Orders.{post_of}
use Rattle.otp_bodies.specs.Ports.{Taken, launched, taken_by, told}
use Rattle.otp_bodies.specs.Rows.{slot_of}

-- how many starts were sent: one where an order was, and it was to start the child of this slot
abbrev pub starts_flushed : Flushed → Option ℕ → ℕ
starts_flushed flushed.Empty slot = 0
starts_flushed flushed.Sent slot = one_if (is_some slot)
starts_flushed flushed.Refused slot = 0

-- the note of a supervisor's end to its parent: it failed where a child didn't start at the opening, else it exited
abbrev pub end_note_by : ℕ → Reason → Cause → Note
end_note_by own reason (cause.InitFailed _) = note.Failed own reason
end_note_by own reason (cause.Intensity _ _) = note.Exit own reason
end_note_by own reason (cause.Significant _) = note.Exit own reason
end_note_by own reason cause.Asked = note.Exit own reason

abbrev pub end_note : ℕ → SupEnd → Note
end_note own e = end_note_by own e.reason e.cause

-- how an order of the supervisor with this number is sent
abbrev pub sending_of : ℕ → Effect → Option Sending
sending_of own (effect.Start id n) = Some (sending.Start id n)
sending_of own (effect.Ask _ n) = Some (sending.Ask n)
sending_of own (effect.Kill _ n) = Some (sending.Kill n)
sending_of own (effect.Reply _) = None
sending_of own effect.Ready = Some (sending.Tell (note.Up own))
sending_of own (effect.End e) = Some (sending.Tell (end_note own e))

-- the end that the first order tells
abbrev pub first_end : List Effect → Option SupEnd
first_end [] = None
first_end (x ∷ xs) = end_in x

-- the first order of the outbox is sent so
pub record IsFirst (o : OfficeView) (how : Sending) : Type 0 where
  pub order : Effect
  pub rest : List Effect
  pub outbox : o.outbox ≡ order ∷ rest
  pub sends : sending_of (own_number (state_of o.core).phase) order ≡ Some how

-- the first order of the outbox posts this
pub record Posts (o : OfficeView) (number : ℕ) (told : Signal) : Type 0 where
  pub order : Effect
  pub rest : List Effect
  pub outbox : o.outbox ≡ order ∷ rest
  pub post : post_of order ≡ Some (number, told)

-- one word more was posted, to one of the slots
pub record Posted (old new : OfficeView) (number : ℕ) (told : Signal) (slot : ℕ) : Type 0 where
  pub owner : new ≡ record old { owner = after_post slot (word_of number told) old.owner }
  -- the slot of the row that has the process
  pub of_row : slot ≡ old.first_slot + slot_of (state_of old.core).rows number

-- one word more was posted: this signal for this number, to the slot of the row that has the process
pub record IsPosted (number : ℕ) (told : Signal) (slot : ℕ) (old new : OfficeView) : Type 0 where
  pub owner : new.owner ≡ after_post slot (word_of number told) old.owner
  pub of_row : slot ≡ old.first_slot + slot_of (state_of old.core).rows number

-- the process stands last in what the port took, with its body: it is one of the child with this id, and a restart where the open
-- work starts children again
pub record IsPut (id : Option Name) (number : ℕ) (old new : OfficeView) (before after : Taken) : Type 0 where
  pub slot : ℕ
  pub posted : IsPosted number signal.None slot old new
  pub took : after ≡ record before { processes = before.processes ++ launched number slot id (starts_again (state_of old.core).follows) true ∷ [] }

-- a signal was posted, and the port took nothing
pub record IsAsked (number : ℕ) (told : Signal) (old new : OfficeView) (before after : Taken) : Type 0 where
  pub slot : ℕ
  pub posted : IsPosted number told slot old new
  pub took : after ≡ before

-- the note stands last in what the port took, with the end that the order tells
pub record IsTold (note : Note) (old new : OfficeView) (before after : Taken) : Type 0 where
  pub owner : new.owner ≡ old.owner
  pub took : after ≡ record before { notes = before.notes ++ told note (first_end old.outbox) ∷ [] }

abbrev pub IsSent : Sending → OfficeView → OfficeView → Taken → Taken → Type 0
IsSent (sending.Start id n) old new before after = IsPut id n old new before after
IsSent (sending.Ask n) old new before after = IsAsked n signal.Shutdown old new before after
IsSent (sending.Kill n) old new before after = IsAsked n signal.Kill old new before after
IsSent (sending.Tell x) old new before after = IsTold x old new before after

-- the first order left the outbox
pub record SentFirst (old new : OfficeView) (before after : Taken) : Type 0 where
  pub how : Sending
  pub first : IsFirst old how
  pub outbox : old.outbox ≡ first.order ∷ new.outbox
  pub count : new.sent ≡ old.sent + 1
  pub core : new.core ≡ old.core
  pub first_slot : new.first_slot ≡ old.first_slot
  pub is_sent : IsSent how old new before after

-- the word of a start was posted, as it will be again when the start is sent
pub record IsPrepared (number : ℕ) (old new : OfficeView) : Type 0 where
  pub slot : ℕ
  pub posted : IsPosted number signal.None slot old new

-- what a port that refuses leaves behind of an order: a start has posted its word, a note nothing
abbrev pub IsRefused : Sending → OfficeView → OfficeView → Type 0
IsRefused (sending.Start _ n) old new = IsPrepared n old new
IsRefused (sending.Ask _) old new = ⊥
IsRefused (sending.Kill _) old new = ⊥
IsRefused (sending.Tell _) old new = new.owner ≡ old.owner

-- the first order stays in the outbox
pub record SentNone (old new : OfficeView) : Type 0 where
  pub how : Sending
  pub first : IsFirst old how
  pub outbox : new.outbox ≡ old.outbox
  pub count : new.sent ≡ old.sent
  pub core : new.core ≡ old.core
  pub first_slot : new.first_slot ≡ old.first_slot
  pub refused : IsRefused how old new

-- what a port has taken once this order was sent too, of a supervisor in this state whose slots begin here
abbrev pub after_order : View → ℕ → Effect → Taken → Taken
after_order core first (effect.Start id n) t =
    record t { processes = t.processes ++ launched n (first + slot_of (state_of core).rows n) id (starts_again (state_of core).follows) true ∷ [] }
after_order core first (effect.Ask _ n) t = t
after_order core first (effect.Kill _ n) t = t
after_order core first (effect.Reply _) t = t
after_order core first effect.Ready t = record t { notes = t.notes ++ told (note.Up (own_number (state_of core).phase)) None ∷ [] }
after_order core first (effect.End e) t = record t { notes = t.notes ++ told (end_note (own_number (state_of core).phase) e) (Some e) ∷ [] }

-- what a port has taken once all of these orders were sent, in this order
abbrev pub after_orders : View → ℕ → List Effect → Taken → Taken
after_orders core first [] t = t
after_orders core first (x ∷ xs) t = after_orders core first xs (after_order core first x t)

-- the first orders left the outbox, one by one, and the port took exactly what they put and tell
pub record SentOrders (old new : OfficeView) (before after : Taken) : Type 0 where
  pub orders : List Effect
  pub outbox : old.outbox ≡ orders ++ new.outbox
  pub count : new.sent ≡ old.sent + length orders
  pub core : new.core ≡ old.core
  pub first_slot : new.first_slot ≡ old.first_slot
  pub took : after ≡ after_orders old.core old.first_slot orders before

abbrev pub was_sent : Flushed → Bool
was_sent flushed.Empty = false
was_sent flushed.Sent = true
was_sent flushed.Refused = false

abbrev pub Flushes : Flushed → OfficeView → OfficeView → Taken → Taken → ℕ → ℕ → Type 0
Flushes flushed.Empty old new before after refusals later = (old.outbox ≡ []) × (new ≡ old) × (after ≡ before) × (later ≡ refusals)
Flushes flushed.Sent old new before after refusals later = SentFirst old new before after × (later ≡ refusals)
Flushes flushed.Refused old new before after refusals later = SentNone old new × (after ≡ before) × (refusals < later)

-- orders left the outbox one by one, by what the port took before and after
abbrev pub FlushesTo : Flushed → OfficeView → OfficeView → List Launched → List ToldNote → ℕ → List Launched → List ToldNote → ℕ → Type 0
FlushesTo how old new processes notes refusals more_processes more_notes later =
    Flushes how old new (taken_by processes notes) (taken_by more_processes more_notes) refusals later
