-- No text that was escaped opens a tag or closes a value.
use Rattle.std.specs.Prelude.{◌≡◌, ℕ, ◌<◌, Bool, true, false, List, [], ◌∷◌, refl}
use Rattle.std.specs.List.{flat_map, list_all}
use Rattle.std.specs.Str.{is_utf8}
use Rattle.std.proofs.Common.{◌∙◌}
use Rattle.std.proofs.lemmas.Bool.{agree_below_at, and_from, and_parts, ltb-true}
use Rattle.std.proofs.lemmas.List.Folds.{list_all-append}
use Rattle.otp_pages.specs.Markup.{byte_text, escaped, is_byte, is_inert, code_text, digit_code, is_plain, opens, plain_text, reference}

-- what stands for each byte, all 256 of them tried
inert_utf8 : (byte : ℕ) → byte < 256 → list_all is_inert (byte_text true byte) ≡ true
unfolding byte_text code_text digit_code is_plain opens plain_text reference
inert_utf8 byte below = agree_below_at (λ b. list_all is_inert (byte_text true b)) (λ b. true) 256 byte refl below

inert_other : (byte : ℕ) → byte < 256 → list_all is_inert (byte_text false byte) ≡ true
unfolding byte_text code_text digit_code is_plain opens plain_text reference
inert_other byte below = agree_below_at (λ b. list_all is_inert (byte_text false b)) (λ b. true) 256 byte refl below

inert_byte : (utf8 : Bool) (byte : ℕ) → byte < 256 → list_all is_inert (byte_text utf8 byte) ≡ true
inert_byte true byte below = inert_utf8 byte below
inert_byte false byte below = inert_other byte below

inert_all : (utf8 : Bool) (text : List ℕ) → list_all is_byte text ≡ true → list_all is_inert (flat_map (byte_text utf8) text) ≡ true
inert_all utf8 [] are = refl
inert_all utf8 (byte ∷ text) are =
    let both = and_parts (is_byte byte) (list_all is_byte text) are in
    list_all-append is_inert (byte_text utf8 byte) (flat_map (byte_text utf8) text)
    ∙ and_from _ _ (inert_byte utf8 byte (ltb-true byte 256 both.0)) (inert_all utf8 text both.1)

pub inert_text : (text : List ℕ) → list_all is_byte text ≡ true → list_all is_inert (escaped text) ≡ true
unfolding escaped
inert_text text are = inert_all (is_utf8 text) text are
