-- How texts and numbers stand in a page of HTML (own).
use Rattle.std.specs.Prelude.{◌≡◌, ℕ, ◌+◌, ◌/◌, ◌%◌, ◌==◌, Bool, true, false, not, ◌&&◌, ◌||◌, List, [], ◌∷◌, ◌++◌, codes, decimal, nat_le, nat_lt, if◌then◌else◌}
use Rattle.std.specs.List.{flat_map, list_all}
use Rattle.std.specs.Str.{is_utf8}

-- the digit of base 16 of a number
unfoldable pub digit_code : ℕ → ℕ
digit_code number = if nat_lt number 10 then 48 + number else 87 + number

-- a byte by its code
unfoldable pub code_text : ℕ → List ℕ
code_text byte = codes "\\x" ++ digit_code (byte / 16) ∷ digit_code (byte % 16) ∷ []

-- a byte of a letter that can be printed: of ASCII, or of any other in a text that is UTF-8
unfoldable pub is_plain : Bool → ℕ → Bool
is_plain utf8 byte = if nat_lt byte 32 || (byte == 127) then false else nat_lt byte 128 || utf8

-- a byte that opens nothing: itself, or its code
unfoldable pub plain_text : Bool → ℕ → List ℕ
plain_text utf8 byte = if is_plain utf8 byte then byte ∷ [] else code_text byte

-- a byte that would open a tag or a reference, or close a value
unfoldable pub opens : ℕ → Bool
opens byte = (byte == 38) || (byte == 60) || (byte == 62) || (byte == 34) || (byte == 39)

-- what stands for it
unfoldable pub reference : ℕ → List ℕ
reference byte =
    if byte == 38 then codes "&amp;"
    else if byte == 60 then codes "&lt;"
    else if byte == 62 then codes "&gt;"
    else if byte == 34 then codes "&quot;"
    else codes "&#39;"

-- a byte as it stands in a page
unfoldable pub byte_text : Bool → ℕ → List ℕ
byte_text utf8 byte = if opens byte then reference byte else plain_text utf8 byte

-- a text that comes from outside
unfoldable pub escaped : List ℕ → List ℕ
escaped text = flat_map (byte_text (is_utf8 text)) text

-- a text from outside, between what opens and what closes it
unfoldable pub element : List ℕ → List ℕ → List ℕ → List ℕ
element opening text closing = opening ++ escaped text ++ closing

-- a number between them
unfoldable pub number_element : List ℕ → ℕ → List ℕ → List ℕ
number_element opening number closing = opening ++ decimal number ++ closing

-- a byte that opens no tag, and closes no value: neither `<` nor `>`, and no quote; and it can be printed
abbrev pub is_inert : ℕ → Bool
is_inert byte = not (byte == 60) && not (byte == 62) && not (byte == 34) && not (byte == 39) && nat_le 32 byte && not (byte == 127)

abbrev pub is_byte : ℕ → Bool
is_byte byte = nat_lt byte 256

-- the law: of no text that comes from outside another byte reaches a page
abbrev pub OpensNothing : Type 0
OpensNothing = (text : List ℕ) → list_all is_byte text ≡ true → list_all is_inert (escaped text) ≡ true
