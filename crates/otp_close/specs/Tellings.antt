-- What supervisors are told of the ends of others, and when that is so (Supervisor Behaviour, nested supervisors).
use Rattle.std.specs.Prelude.{◌≡◌, ◌⊎◌, ℕ, ◌<◌, ⊤, List, Option, Some, None, MatchOption, slice_get}
use Rattle.otp_core.specs.View.{stored_of, stored_state}
use Rattle.otp_reason.specs.declared.note.Note.{Note}
use Rattle.otp_reason.specs.declared.note.Note.TheVariants as note
use Rattle.otp_reason.specs.declared.reason.Reason.{Reason}
use Rattle.otp_reason.specs.declared.reason.Reason.TheVariants as why
use Rattle.otp_reason.specs.Names.{name_bytes}
use Rattle.otp_reason.specs.Texts.{text_bytes}
use Rattle.otp_rules.specs.declared.ending.Cause.{Cause}
use Rattle.otp_rules.specs.declared.ending.Cause.TheVariants as cause
use Rattle.otp_rules.specs.declared.ending.SupEnd.{SupEnd}
use Rattle.otp_rules.specs.declared.event.Event.{Event}
use Rattle.otp_rules.specs.declared.event.Item.TheVariants as item
use Rattle.otp_rules.specs.declared.event.Kind.{Kind}
use Rattle.otp_rules.specs.declared.event.Kind.TheVariants as kind
use Rattle.otp_rules.specs.declared.work.Phase.TheVariants.{Open}
use Rattle.otp_rules.specs.State.{State}
use Rattle.otp_run.specs.Lists.{AllAt}
use Rattle.otp_bodies.specs.declared.told.ToldEnd.{ToldEnd}
use Rattle.otp_close.specs.declared.report.evidence.Mismatch.{Mismatch}
use Rattle.otp_close.specs.declared.report.report.TableReport.{TableReport}

-- the number of the process whose end a note tells, and the reason: none where there was nothing to run
abbrev pub end_in : Note → Option (ℕ × Option Reason)
end_in (note.Up _) = None
end_in (note.Ignored p) = Some (p, None)
end_in (note.Failed p r) = Some (p, Some r)
end_in (note.Exit p r) = Some (p, Some r)

-- the number of the process whose end an event tells, and the reason
abbrev pub told_end : Kind → Option (ℕ × Option Reason)
told_end (kind.Took (item.Note n)) = end_in n
told_end (kind.Took (item.Call _ _)) = None
told_end (kind.Opened _) = None
told_end kind.Resumed = None
told_end kind.Ticked = None
told_end kind.Stopped = None

-- two reasons say the same: of two texts, that they show the same bytes
abbrev pub IsSameReason : Reason → Reason → Type 0
IsSameReason why.Normal why.Normal = ⊤
IsSameReason why.Shutdown why.Shutdown = ⊤
IsSameReason (why.ShutdownWith one) (why.ShutdownWith other) = text_bytes one ≡ text_bytes other
IsSameReason why.Kill why.Kill = ⊤
IsSameReason why.Killed why.Killed = ⊤
IsSameReason why.NoProc why.NoProc = ⊤
IsSameReason (why.Error one) (why.Error other) = text_bytes one ≡ text_bytes other
IsSameReason _ _ = ⊥

-- an end with this reason is the one that was told; no supervisor's end is told without a reason
abbrev pub IsEndTold : Reason → Option Reason → Type 0
IsEndTold ended None = ⊥
IsEndTold ended (Some told) = IsSameReason ended told

-- an opening was under another number, or ended with this reason
abbrev pub EndedSo : ℕ → Option Reason → ℕ × SupEnd → Type 0
EndedSo number reason x = x.0 ≡ number → IsEndTold x.1.reason reason

-- the supervisor doesn't run under this number, and each opening of it under the number ended with this reason
pub record Agrees (s : State) (number : ℕ) (reason : Option Reason) : Type 0 where
  pub not_open : ¬ (s.phase ≡ Open number)
  pub ended : AllAt (λ _ x. EndedSo number reason x) s.ends

-- the histories of all supervisors agree with the end of this process
abbrev pub AllAgree : List (TableReport) → ℕ → Option Reason → Type 0
AllAgree tables number reason = AllAt (λ _ (t : TableReport). Agrees (stored_state t.core) number reason) tables

-- an event tells no end, or one with which the histories of all supervisors agree
pub record IsSo (tables : List (TableReport)) (event : Event) : Type 0 where
  pub told : MatchOption (told_end event.kind) ⊤ (λ told. AllAgree tables told.0 told.1)

-- two causes are the same: of two ids, that they show the same bytes
abbrev pub IsSameCause : Cause → Cause → Type 0
IsSameCause (cause.Intensity flags stamps) (cause.Intensity others times) = (flags ≡ others) × (stamps ≡ times)
IsSameCause (cause.Significant p) (cause.Significant q) = p ≡ q
IsSameCause cause.Asked cause.Asked = ⊤
IsSameCause (cause.InitFailed one) (cause.InitFailed other) = name_bytes one ≡ name_bytes other
IsSameCause _ _ = ⊥

-- an element of the list has the fact
pub record IsThere {A : Type 0} (P : A → Type 0) (xs : List A) : Type 0 where
  pub place : ℕ
  pub there : MatchOption (slice_get xs place) ⊥ P

-- an opening under this number ended with this reason and this cause
pub record IsEndUnder (number : ℕ) (end : SupEnd) (x : ℕ × SupEnd) : Type 0 where
  pub own : x.0 ≡ number
  pub reason : IsSameReason x.1.reason end.reason
  pub cause : IsSameCause x.1.cause end.cause

-- the history gives this end of the opening under this number
abbrev pub Gives : ℕ → SupEnd → State → Type 0
Gives number end s = IsThere (IsEndUnder number end) s.ends

-- an end that was told is the one that the history of the supervisor with that number gives
abbrev pub IsGiven : List TableReport → ToldEnd → Type 0
IsGiven tables x = IsThere (λ (t : TableReport). Gives x.number x.end (stored_state t.core)) tables

-- the history knows of no opening under this number: the supervisor doesn't run under it, and no end is that of such an opening
pub record KnowsNone (number : ℕ) (s : State) : Type 0 where
  pub not_open : ¬ (s.phase ≡ Open number)
  pub no_end : AllAt (λ _ x. ¬ (x.0 ≡ number)) s.ends

-- a checkpoint cut off the opening under this number, and its end: events of one of the supervisors were cut off, and what is
-- stored of them knows of no such opening
pub record IsCutOff (tables : List TableReport) (number : ℕ) : Type 0 where
  pub cut : IsThere (λ (t : TableReport). 0 < t.core.cut) tables
  pub unknown : AllAt (λ _ (t : TableReport). KnowsNone number (stored_state t.core)) tables

-- an end that was told is the one that the history gives, as far as it is stored
abbrev pub IsBorneOut : List TableReport → ToldEnd → Type 0
IsBorneOut tables x = IsGiven tables x ⊎ IsCutOff tables x.number

-- each end that a supervisor was told is one with which the histories of all supervisors agree, as far as they are stored; and
-- where it came with what shows it, one of them gives the same, or a checkpoint cut it off
pub record IsToldSo (tables : List TableReport) (t : TableReport) : Type 0 where
  pub events : AllAt (λ _ e. IsSo tables e) (stored_of t.core)
  pub ends : AllAt (λ _ x. IsBorneOut tables x) t.ends_told.items

-- each supervisor's report is so
abbrev pub AreSo : List (TableReport) → Type 0
AreSo tables = AllAt (λ _ t. IsToldSo tables t) tables

-- the event tells an end with which a history doesn't agree
abbrev pub IsFalseEvent : List TableReport → TableReport → ℕ → Type 0
IsFalseEvent tables t place = MatchOption (slice_get (stored_of t.core) place) ⊥ (λ event. ¬ (IsSo tables event))

-- the event told an end that no history gives, and that no checkpoint cut off
abbrev pub IsFalseEnd : List TableReport → TableReport → ℕ → Type 0
IsFalseEnd tables t place = IsThere (λ (x : ToldEnd). (x.event ≡ place) × ¬ (IsBorneOut tables x)) t.ends_told.items

-- an event of this supervisor tells an end that isn't so
abbrev pub IsMismatchOf : List TableReport → TableReport → ℕ → Type 0
IsMismatchOf tables t place = IsFalseEvent tables t place ⊎ IsFalseEnd tables t place

-- an event of one of the supervisors does
abbrev pub IsMismatch : List (TableReport) → Mismatch → Type 0
IsMismatch tables m = MatchOption (slice_get tables m.table) ⊥ (λ t. IsMismatchOf tables t m.event)
