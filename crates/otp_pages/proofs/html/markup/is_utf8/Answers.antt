use Rattle.std.specs.Prelude.{◌≡◌, ℕ, true, false, List}
use Rattle.std.specs.Str.{IsUtf8, is_utf8}
use Rattle.std.proofs.Common.{sym, refl}
use Rattle.std.proofs.lemmas.Str.{IsUtf8-from_is_utf8, is_utf8-from_IsUtf8}
use Rattle.otp_pages.proofs.html.markup.is_utf8.Goals as goal

not_utf8 : (text : List ℕ) → ¬ (IsUtf8 text) → is_utf8 text ≡ false
not_utf8 text isnt =
    (elim (is_utf8 text) as (λ b. (is_utf8 text ≡ b) → is_utf8 text ≡ false) [ true ↦ (λ e. absurd (isnt (IsUtf8-from_is_utf8 text e))) | false ↦ (λ e. e) ]) refl

pub returns-in-Ok : goal.returns-in-Ok
returns-in-Ok c = sym (is_utf8-from_IsUtf8 c.args.text.now c.in-Ok.ensures.cases.1)

pub returns-in-Err : goal.returns-in-Err
returns-in-Err c = sym (not_utf8 c.args.text.now c.in-Err.ensures.cases.0)
