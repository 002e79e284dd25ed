-- Reasons that are read as those that they are printed for.
use Rattle.std.proofs.Common.{◌≡◌, ◌∙◌, ℕ, true, List, ◌++◌, take, length, codes, refl, ap, subst, sym}
use Rattle.std.proofs.Math.Seq.{take-append_seam}
use Rattle.otp_reason.specs.declared.reason.Reason.TheVariants as reason
use Rattle.otp_reason.specs.declared.text.Text.{Text}
use Rattle.otp_reason.specs.declared.text.TheConstants.{TEXT_SIZE}
use Rattle.otp_reason.specs.Padded.{padded_to}
use Rattle.otp_reason.specs.Texts.{is_lawful_text, text_of}
use Rattle.otp_text.specs.ReadBack.{IsReadBack, ReasonsAreReadBack}
use Rattle.otp_text.specs.Values.{reason_text}
use Rattle.otp_text.specs.Words.{reason_in, when}

-- a text shows the bytes that it was made of
shown : (term : List ℕ) → take (length term) (padded_to TEXT_SIZE term) ≡ term
shown term = take-append_seam term _

error_back : (term : List ℕ) → is_lawful_text term ≡ true → IsReadBack (reason.Error (text_of term))
unfolding reason_in reason_text
error_back term lawful =
    ap (λ bytes. reason_in (codes "error:" ++ bytes)) (shown term)
    ∙ ap (λ test. when test (reason.Error (text_of term))) lawful

shutdown_back : (term : List ℕ) → is_lawful_text term ≡ true → IsReadBack (reason.ShutdownWith (text_of term))
unfolding reason_in reason_text
shutdown_back term lawful =
    ap (λ bytes. reason_in (codes "shutdown:" ++ bytes)) (shown term)
    ∙ ap (λ test. when test (reason.ShutdownWith (text_of term))) lawful

pub reasons_back : ReasonsAreReadBack
unfolding reason_in reason_text
reasons_back reason.Normal readable = refl
reasons_back reason.Shutdown readable = refl
reasons_back (reason.ShutdownWith text) readable =
    subst (λ (t : Text). IsReadBack (reason.ShutdownWith t)) (sym readable.2) (shutdown_back readable.0 readable.1)
reasons_back reason.Kill readable = refl
reasons_back reason.Killed readable = refl
reasons_back reason.NoProc readable = refl
reasons_back (reason.Error text) readable =
    subst (λ (t : Text). IsReadBack (reason.Error t)) (sym readable.2) (error_back readable.0 readable.1)
