-- What the kept events stand for.
use Rattle.std.specs.Prelude.{ℕ, Bool, true, false, not, ◌&&◌, ◌==◌, IsTrue, if◌then◌else◌, ◌+◌, ◌-◌, ◌<◌, ◌≤◌, List, [], ◌∷◌, ◌++◌, Option, Some, None, All, get_or, length, map, vec_len, vec_capacity}
use Rattle.otp_reason.specs.declared.note.Note.TheVariants as note
use Rattle.otp_reason.specs.declared.reason.Reason.{Reason}
use Rattle.otp_reason.specs.declared.reason.Reason.TheVariants as reason
use Rattle.otp_reason.specs.declared.text.Text.{Text}
use Rattle.std.specs.Str.{bytes_eq}
use Rattle.otp_reason.specs.Texts.{text_block, text_with}
use Rattle.otp_rules.specs.declared.call.Call.{Call}
use Rattle.otp_rules.specs.declared.call.Call.TheVariants as call
use Rattle.otp_rules.specs.declared.event.Event.{Event}
use Rattle.otp_rules.specs.declared.event.Item.TheVariants as item
use Rattle.otp_rules.specs.declared.event.Kind.{Kind}
use Rattle.otp_rules.specs.declared.event.Kind.TheVariants as kind
use Rattle.otp_machine.specs.declared.stores.history.History.TheInside.{Inside}
use Rattle.otp_machine.specs.declared.stores.history.ShortEvent.{ShortEvent}
use Rattle.otp_machine.specs.declared.stores.history.ShortKind.{ShortKind}
use Rattle.otp_machine.specs.declared.stores.history.Tag.{Tag}
use Rattle.otp_machine.specs.declared.stores.history.TheConstants.{MAX_PLACES}
use Rattle.otp_machine.specs.declared.stores.history.Tag.TheVariants as tag
use Rattle.otp_machine.specs.declared.stores.history.Why.{Why}
use Rattle.otp_machine.specs.declared.stores.history.Why.TheVariants as why
use Rattle.otp_machine.specs.Events.{Events}

-- the last of these blocks has these bytes
abbrev pub is_last_block : List ℕ → List (List ℕ) → Bool
is_last_block block blocks = not (length blocks == 0) && bytes_eq (get_or blocks (length blocks - 1) []) block

-- these blocks and then this one, unless it is the last of them (own)
unfoldable pub with_block : List ℕ → List (List ℕ) → List (List ℕ)
with_block block blocks = if is_last_block block blocks then blocks else blocks ++ block ∷ []

-- these blocks with those of terms
abbrev pub with_terms : List Text → List (List ℕ) → List (List ℕ)
with_terms [] blocks = blocks
with_terms (term ∷ terms) blocks = with_terms terms (with_block (text_block term) blocks)

-- the term that shows so many of the bytes at a place
abbrev pub term_at : List (List ℕ) → ℕ → ℕ → Text
term_at terms place shown = text_with (get_or terms place []) shown

abbrev pub call_at : List Call → ℕ → Call
call_at calls place = get_or calls place call.WhichChildren

-- whether a reason of this kind has a term
abbrev pub shows_term : Why → Bool
shows_term why.ShutdownWith = true
shows_term why.Error = true
shows_term _ = false

-- the reason of this kind, with this term if it has one
abbrev pub reason_as : Why → Text → Reason
reason_as why.Normal _ = reason.Normal
reason_as why.Shutdown _ = reason.Shutdown
reason_as why.ShutdownWith term = reason.ShutdownWith term
reason_as why.Kill _ = reason.Kill
reason_as why.Killed _ = reason.Killed
reason_as why.NoProc _ = reason.NoProc
reason_as why.Error term = reason.Error term

-- whether an event of this kind takes a call
abbrev pub takes_call : Tag → Bool
takes_call tag.Called = true
takes_call _ = false

-- what happened, with this reason or this call if it has one
abbrev pub kind_as : Tag → ℕ → Reason → Call → Kind
kind_as tag.Opened number _ _ = kind.Opened number
kind_as tag.Up number _ _ = kind.Took (item.Note (note.Up number))
kind_as tag.Ignored number _ _ = kind.Took (item.Note (note.Ignored number))
kind_as tag.Failed number why _ = kind.Took (item.Note (note.Failed number why))
kind_as tag.Exit number why _ = kind.Took (item.Note (note.Exit number why))
kind_as tag.Called number _ call = kind.Took (item.Call number call)
kind_as tag.Resumed _ _ _ = kind.Resumed
kind_as tag.Ticked _ _ _ = kind.Ticked
kind_as tag.Stopped _ _ _ = kind.Stopped

-- what happened, with its term and its call among these
abbrev pub kind_of : List (List ℕ) → List Call → ShortKind → Kind
kind_of terms calls k = kind_as k.tag k.subject (reason_as k.why (term_at terms k.place k.shown)) (call_at calls k.place)

-- what happened where there is neither a term nor a call
abbrev pub plain_kind : Tag → ℕ → Bool → ShortKind
plain_kind tag subject starts = record { subject = subject; place = 0; shown = 0; tag = tag; why = why.Normal; starts = starts }

-- the number for the child that the event starts
abbrev pub number_of : ShortEvent → Option ℕ
number_of e = if e.kind.starts then Some e.number else None

abbrev pub event_of : List (List ℕ) → List Call → ShortEvent → Event
event_of terms calls e = record { reading = e.reading; number = number_of e; kind = kind_of terms calls e.kind }

-- the term and the call are there
abbrev pub KindWithin : ℕ → ℕ → ShortKind → Type 0
KindWithin terms calls k = (IsTrue (shows_term k.why) → k.place < terms) × (IsTrue (takes_call k.tag) → k.place < calls)

abbrev pub events_of : Inside → Events
events_of h = record { past = h.past.events; events = map (event_of h.terms.items h.calls.items) h.events.items; room = h.room }

pub record IsHistory (h : Inside) : Type 0 where
  -- each event has its term and its call
  pub places : All (λ e. KindWithin (length h.terms.items) (length h.calls.items) e.kind) h.events.items
  -- the room is there
  pub events : vec_len h.events + h.room ≤ vec_capacity h.events
  pub terms : vec_len h.terms + h.room ≤ vec_capacity h.terms
  pub calls : vec_len h.calls + h.room ≤ vec_capacity h.calls
  -- each term and each call has a place
  pub few_terms : vec_len h.terms + h.room ≤ MAX_PLACES
  pub few_calls : vec_len h.calls + h.room ≤ MAX_PLACES
