-- What is printed is read back (own).
use Rattle.std.specs.Prelude.{◌≡◌, ⊤, ℕ, Bool, true, List, Some}
use Rattle.otp_reason.specs.declared.reason.Reason.{Reason}
use Rattle.otp_reason.specs.declared.reason.Reason.TheVariants as reason
use Rattle.otp_reason.specs.declared.text.Text.{Text}
use Rattle.otp_reason.specs.Texts.{is_lawful_text, text_of}
use Rattle.otp_spec.specs.declared.child.ChildType.{ChildType}
use Rattle.otp_spec.specs.declared.child.Restart.{Restart}
use Rattle.otp_spec.specs.Words.{child_type_of, restart_of, restart_word, type_word}
use Rattle.otp_text.specs.Values.{bool_text, reason_text}
use Rattle.otp_text.specs.Words.{bool_in, reason_in}

-- each word of a value that has one
abbrev pub WordsAreReadBack : Type 0
WordsAreReadBack =
    ((restart : Restart) → restart_of (restart_word restart) ≡ Some restart)
    × ((kind : ChildType) → child_type_of (type_word kind) ≡ Some kind)
    × ((value : Bool) → bool_in (bool_text value) ≡ Some value)

-- this reason's text is read as this reason
abbrev pub IsReadBack : Reason → Type 0
IsReadBack why = reason_in (reason_text why) ≡ Some why

-- the text of a term that can be read
abbrev pub IsTerm : Text → Type 0
IsTerm text = (term : List ℕ) × (is_lawful_text term ≡ true) × (text ≡ text_of term)

-- nothing in a reason keeps it from being read: its term, where it has one, can be
abbrev pub IsReadable : Reason → Type 0
IsReadable (reason.ShutdownWith term) = IsTerm term
IsReadable (reason.Error term) = IsTerm term
IsReadable _ = ⊤

-- each reason: so one that is added, printed and not read has no proof
abbrev pub ReasonsAreReadBack : Type 0
ReasonsAreReadBack = (why : Reason) → IsReadable why → IsReadBack why
