-- Which child the first order starts.
use Rattle.std.specs.Prelude.{◌≡◌, ℕ, List, Option, None, Some, IsSome, refl}
use Rattle.std.proofs.Common.{◌∙◌, ap, sym, subst}
use Rattle.otp_bodies.specs.declared.port.Flushed.{Flushed}
use Rattle.otp_bodies.specs.declared.port.Flushed.TheVariants as flushed
use Rattle.otp_rules.specs.declared.event.Effect.{Effect}
use Rattle.otp_rules.specs.declared.event.Effect.TheVariants as effect
use Rattle.otp_reason.specs.declared.name.Name.{Name}
use Rattle.otp_reason.specs.declared.note.Note.TheVariants as note
use Rattle.otp_rules.specs.State.{own_number}
use Rattle.otp_core.specs.View.{state_of}
use Rattle.otp_bodies.specs.declared.office.orders.Sending.{Sending}
use Rattle.otp_bodies.specs.declared.office.orders.Sending.TheVariants as sending
use Rattle.otp_table.specs.declared.row.Row.{Row}
use Rattle.otp_bodies.specs.Orders.{slot_started, started_by, starting_slot, first_start}
use Rattle.otp_bodies.specs.Offices.{OfficeView}
use Rattle.otp_bodies.specs.Flushes.{Flushes, IsFirst, end_note, sending_of}
use Rattle.otp_bodies.specs.Ports.{Taken}

-- where the first order starts a process, a child is to be started
start_slot : (x : Effect) (own : ℕ) (name : Option Name) (n : ℕ) (rows : List Row) → sending_of own x ≡ Some (sending.Start name n) → IsSome (slot_started rows (started_by x))
start_slot (effect.Start id p) own name n rows is = refl
start_slot (effect.Ask id p) own name n rows is = let e : Some (sending.Ask p) ≡ Some (sending.Start name n) = is in cc
start_slot (effect.Kill id p) own name n rows is = let e : Some (sending.Kill p) ≡ Some (sending.Start name n) = is in cc
start_slot (effect.Reply c) own name n rows is = let e : ◌≡◌ {A = Option Sending} None (Some (sending.Start name n)) = is in cc
start_slot effect.Ready own name n rows is = let e : Some (sending.Tell (note.Up own)) ≡ Some (sending.Start name n) = is in cc
start_slot (effect.End x) own name n rows is = let e : Some (sending.Tell (end_note own x)) ≡ Some (sending.Start name n) = is in cc

pub starts_slot : (o : OfficeView) (how : Sending) (name : Option Name) (n : ℕ) (rows : List Row) → IsFirst o how → how ≡ sending.Start name n → IsSome (starting_slot o.outbox rows)
starts_slot o how name n rows f is =
    subst (λ (l : List Effect). IsSome (starting_slot l rows)) (sym f.outbox) (start_slot f.order (own_number (state_of o.core).phase) name n rows (f.sends ∙ ap (λ (h : Sending). Some h) is))

-- no order that is sent changes the core
pub flushes_core : (how : Flushed) (old new : OfficeView) (before after : Taken) (refusals later : ℕ) → Flushes how old new before after refusals later → new.core ≡ old.core
flushes_core flushed.Empty old new before after refusals later h = ap (λ (o : OfficeView). o.core) h.1
flushes_core flushed.Sent old new before after refusals later h = h.0.core
flushes_core flushed.Refused old new before after refusals later h = h.0.core

-- where none is to be sent no child is to be started
pub flushes_none : (how : Flushed) (old new : OfficeView) (before after : Taken) (refusals later : ℕ) (rows : List Row) → Flushes how old new before after refusals later → how ≡ flushed.Empty → starting_slot old.outbox rows ≡ None
flushes_none flushed.Empty old new before after refusals later rows h is = ap (λ (l : List Effect). starting_slot l rows) h.0
flushes_none flushed.Sent old new before after refusals later rows h is = let no : flushed.Sent ≡ flushed.Empty = is in cc
flushes_none flushed.Refused old new before after refusals later rows h is = let no : flushed.Refused ≡ flushed.Empty = is in cc

-- the process that is put where an order is sent so
abbrev pub put_by : Option Sending → Option ℕ
put_by None = None
put_by (Some (sending.Start _ n)) = Some n
put_by (Some (sending.Ask _)) = None
put_by (Some (sending.Kill _)) = None
put_by (Some (sending.Tell _)) = None

started_is : (own : ℕ) (order : Effect) → started_by order ≡ put_by (sending_of own order)
started_is own (effect.Start _ n) = refl
started_is own (effect.Ask _ n) = refl
started_is own (effect.Kill _ n) = refl
started_is own (effect.Reply _) = refl
started_is own effect.Ready = refl
started_is own (effect.End _) = refl

pub first_puts : (o : OfficeView) (how : Sending) → IsFirst o how → first_start o.outbox ≡ put_by (Some how)
first_puts o how f = ap first_start f.outbox ∙ started_is (own_number (state_of o.core).phase) f.order ∙ ap put_by f.sends
