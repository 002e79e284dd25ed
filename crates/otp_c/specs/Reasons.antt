-- Which reason a number and a text say (own).
use Rattle.std.specs.Prelude.{◌≡◌, ℕ, ◌⊎◌, ⊤, List, Result, Ok, Err, IsTrue}
use Rattle.otp_reason.specs.Texts.{is_lawful_text, text_of}
use Rattle.otp_reason.specs.declared.reason.Reason.{Reason}
use Rattle.otp_reason.specs.declared.reason.Reason.TheVariants as reason
use Rattle.otp_reason.specs.declared.text.Text.{Text}
use Rattle.otp_c.specs.declared.shapes.words.NoReason.{NoReason}
use Rattle.otp_c.specs.declared.shapes.words.NoReason.TheVariants as unsaid
use Rattle.otp_c.specs.Shown.{IsOutside}
use Rattle.otp_c.specs.Words.{reason_number}

-- the text of a reason that has one: 1 to 64 bytes
abbrev pub SaysText : List ℕ → Text → Type 0
SaysText bytes text = IsTrue (is_lawful_text bytes) × (text ≡ text_of bytes)

abbrev pub SaysTextOf : List ℕ → Reason → Type 0
SaysTextOf bytes (reason.ShutdownWith text) = SaysText bytes text
SaysTextOf bytes (reason.Error text) = SaysText bytes text
SaysTextOf bytes _ = ⊤

abbrev pub HasText : ℕ → Type 0
HasText number = (number ≡ 3) ⊎ (number ≡ 7)

-- the reason that a number and a text say, or why they say none
abbrev pub ReasonSaid : ℕ → List ℕ → Result Reason NoReason → Type 0
ReasonSaid number bytes (Ok why) = (number ≡ reason_number why) × SaysTextOf bytes why
ReasonSaid number bytes (Err unsaid.Kind) = IsOutside 1 7 number
ReasonSaid number bytes (Err unsaid.Text) = HasText number × ¬ (IsTrue (is_lawful_text bytes))
