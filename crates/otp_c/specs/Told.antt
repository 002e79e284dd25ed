-- What is told to a tree, as the numbers and texts of a call say it, and what the call answers (own).
use Rattle.std.specs.Prelude.{◌≡◌, ℕ, ◌<◌, ◌≤◌, ◌⊎◌, ⊤, false, List, Result, Ok, Err, IsTrue}
use Rattle.otp_reason.specs.Texts.{is_lawful_text}
use Rattle.otp_reason.specs.declared.note.Note.{Note}
use Rattle.otp_reason.specs.declared.note.Note.TheVariants as note
use Rattle.otp_rules.specs.declared.call.Call.{Call}
use Rattle.otp_rules.specs.declared.call.Call.TheVariants as call
use Rattle.otp_rules.specs.declared.event.Item.TheVariants as item
use Rattle.otp_rules.specs.declared.event.Kind.TheVariants as event_kind
use Rattle.otp_spec.specs.declared.limits.TheConstants.{MAX_READING}
use Rattle.otp_driver.specs.declared.driven.fault.DriveFault.{DriveFault}
use Rattle.otp_driver.specs.declared.session.Session.{Session}
use Rattle.otp_driver.specs.Driven.{Called, at_reading, IsAsked, Occurs, RefusesCall, RefusesNote, is_nested, process_of}
use Rattle.otp_c.specs.declared.shapes.status.TheConstants.{OTP_BAD_KIND, OTP_BAD_NAME, OTP_BAD_READING, OTP_BAD_TEXT, OTP_OK}
use Rattle.otp_c.specs.declared.shapes.structs.CName.{CName}
use Rattle.otp_c.specs.declared.shapes.structs.CSpec.{CSpec}
use Rattle.otp_c.specs.declared.shapes.words.NoReason.{NoReason}
use Rattle.otp_c.specs.declared.shapes.words.NoReason.TheVariants as unsaid
use Rattle.otp_c.specs.Reasons.{HasText, ReasonSaid}
use Rattle.otp_c.specs.Shown.{IsOutside, SaysName, SpecSaid}
use Rattle.otp_c.specs.Statuses.{status_of}
use Rattle.otp_c.specs.Words.{note_kind_number}

-- the clock is read, if the reading is one
abbrev pub Ticks : ℕ → ℕ → Session → Session → Type 0
Ticks reading status old new =
    ((status ≡ OTP_OK) × (reading ≤ MAX_READING) × (new ≡ record old { driver = at_reading reading old.driver }))
    ⊎ ((status ≡ OTP_BAD_READING) × (MAX_READING < reading) × (new ≡ old))

abbrev pub HasReason : ℕ → Type 0
HasReason kind = (kind ≡ 3) ⊎ (kind ≡ 4)

abbrev pub SaysNote : ℕ → ℕ → List ℕ → Note → Type 0
SaysNote number why bytes (note.Up n) = n ≡ number
SaysNote number why bytes (note.Ignored n) = n ≡ number
SaysNote number why bytes (note.Failed n r) = (n ≡ number) × ReasonSaid why bytes (Ok r)
SaysNote number why bytes (note.Exit n r) = (n ≡ number) × ReasonSaid why bytes (Ok r)

-- the note that a call's numbers and text say, or why they say none
abbrev pub NoteSaid : ℕ → ℕ → ℕ → List ℕ → Result Note NoReason → Type 0
NoteSaid kind number why bytes (Ok n) = (kind ≡ note_kind_number n) × SaysNote number why bytes n
NoteSaid kind number why bytes (Err unsaid.Kind) = IsOutside 1 4 kind ⊎ (HasReason kind × IsOutside 1 7 why)
NoteSaid kind number why bytes (Err unsaid.Text) = HasReason kind × HasText why × ¬ (IsTrue (is_lawful_text bytes))

-- a note is taken by the supervisor at this place, as of this reading of the clock, or refused
abbrev pub TakesNote : ℕ → ℕ → Note → ℕ → Session → Session → Type 0
TakesNote reading place n status old new =
    ((status ≡ OTP_OK) × (reading ≤ MAX_READING) × (is_nested old.driver place (process_of n) ≡ false)
    × Occurs place (event_kind.Took (item.Note n)) (at_reading reading old.driver) new.driver × (new.answer ≡ old.answer))
    ⊎ ((why : DriveFault) × (status ≡ status_of why) × RefusesNote reading place n why old.driver × (new ≡ old))

abbrev pub AnswersNote : Result Note NoReason → ℕ → ℕ → ℕ → Session → Session → Type 0
AnswersNote (Ok n) reading place status old new = TakesNote reading place n status old new
AnswersNote (Err unsaid.Kind) reading place status old new = (status ≡ OTP_BAD_KIND) × (new ≡ old)
AnswersNote (Err unsaid.Text) reading place status old new = (status ≡ OTP_BAD_TEXT) × (new ≡ old)

abbrev pub Notes : ℕ → ℕ → ℕ → ℕ → ℕ → List ℕ → ℕ → Session → Session → Type 0
Notes reading place kind number why bytes status old new =
    (said : Result Note NoReason) × NoteSaid kind number why bytes said × AnswersNote said reading place status old new

-- the root is wanted to shut down from this reading of the clock on, if it is one
abbrev pub Stops : ℕ → ℕ → Session → Session → Type 0
Stops reading status old new =
    ((status ≡ OTP_OK) × (reading ≤ MAX_READING) × IsAsked (at_reading reading old.driver) new.driver × (new.answer ≡ old.answer))
    ⊎ ((status ≡ OTP_BAD_READING) × (MAX_READING < reading) × (new ≡ old))

abbrev pub call_kind_number : Call → ℕ
call_kind_number (call.StartChild _) = 0
call_kind_number call.StartDynamic = 1
call_kind_number (call.RestartChild _) = 2
call_kind_number (call.DeleteChild _) = 3
call_kind_number (call.TerminateChild _) = 4
call_kind_number (call.TerminateProcess _) = 5
call_kind_number call.WhichChildren = 6
call_kind_number call.CountChildren = 7
call_kind_number (call.GetChildspec _) = 8

-- what the id and the number say of a call; start_child/2 with a specification has an export of its own
abbrev pub SaysCall : CName → ℕ → Call → Type 0
SaysCall id number (call.StartChild _) = ⊥
SaysCall id number (call.RestartChild name) = SaysName id name
SaysCall id number (call.DeleteChild name) = SaysName id name
SaysCall id number (call.TerminateChild name) = SaysName id name
SaysCall id number (call.TerminateProcess n) = n ≡ number
SaysCall id number (call.GetChildspec name) = SaysName id name
SaysCall id number _ = ⊤

abbrev pub HasId : ℕ → Type 0
HasId kind = (kind ≡ 2) ⊎ ((kind ≡ 3) ⊎ ((kind ≡ 4) ⊎ (kind ≡ 8)))

-- the call that the numbers and the id say, or the status that says why they say none
abbrev pub CallSaid : ℕ → CName → ℕ → Result Call ℕ → Type 0
CallSaid kind id number (Ok c) = (kind ≡ call_kind_number c) × SaysCall id number c
CallSaid kind id number (Err status) =
    ((status ≡ OTP_BAD_NAME) × HasId kind × (32 < id.len)) ⊎ ((status ≡ OTP_BAD_KIND) × IsOutside 1 8 kind)

-- start_child/2 with the specification that a struct says
abbrev pub IsStartOf : CSpec → Call → Type 0
IsStartOf said (call.StartChild spec) = SpecSaid said (Ok spec)
IsStartOf said _ = ⊥

abbrev pub StartSaid : CSpec → Result Call ℕ → Type 0
StartSaid said (Ok c) = IsStartOf said c
StartSaid said (Err status) = SpecSaid said (Err status)

-- a call is taken by the supervisor at this place, as of this reading of the clock, under the next number, which is told; or it is
-- refused
abbrev pub TakesCall : ℕ → ℕ → Call → ℕ → ℕ → ℕ → Session → Session → Type 0
TakesCall reading place c status out out' old new =
    ((status ≡ OTP_OK) × (reading ≤ MAX_READING) × Called out' place c (at_reading reading old.driver) new.driver × (new.answer ≡ old.answer))
    ⊎ ((why : DriveFault) × (status ≡ status_of why) × RefusesCall reading place why old.driver × (out' ≡ out) × (new ≡ old))

abbrev pub AnswersCall : Result Call ℕ → ℕ → ℕ → ℕ → ℕ → ℕ → Session → Session → Type 0
AnswersCall (Ok c) reading place status out out' old new = TakesCall reading place c status out out' old new
AnswersCall (Err why) reading place status out out' old new = (status ≡ why) × (out' ≡ out) × (new ≡ old)

abbrev pub Calls : (Result Call ℕ → Type 0) → ℕ → ℕ → ℕ → ℕ → ℕ → Session → Session → Type 0
Calls Said reading place status out out' old new =
    (said : Result Call ℕ) × Said said × AnswersCall said reading place status out out' old new
