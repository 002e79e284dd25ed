-- JSON as text (own).
use Rattle.std.specs.Prelude.{ℕ, ◌+◌, ◌-◌, ◌==◌, ◌||◌, List, [], ◌∷◌, ◌++◌, Option, Some, None, codes, decimal, nat_lt, if◌then◌else◌}
use Rattle.std.specs.List.{flat_map}

-- the digit of base 16 of a number
unfoldable pub digit_code : ℕ → ℕ
digit_code number = if nat_lt number 10 then 48 + number else 87 + number

-- a byte below 32
unfoldable pub code_text : ℕ → List ℕ
code_text byte = if nat_lt byte 16 then codes "\\u000" ++ digit_code byte ∷ [] else codes "\\u001" ++ digit_code (byte - 16) ∷ []

-- a byte as it stands in a text of JSON: a quote and a backslash stand behind a backslash, and what is below 32 as its code
unfoldable pub byte_text : ℕ → List ℕ
byte_text byte =
    if (byte == 34) || (byte == 92) then 92 ∷ byte ∷ []
    else if nat_lt byte 32 then code_text byte
    else byte ∷ []

-- a text, with its quotes
unfoldable pub json_text : List ℕ → List ℕ
json_text text = codes "\"" ++ flat_map byte_text text ++ codes "\""

-- a key, behind what stands before it
unfoldable pub key_text : List ℕ → List ℕ → List ℕ
key_text front key = front ++ codes "\"" ++ key ++ codes "\": "

-- a member of an object that is a text
unfoldable pub text_member : List ℕ → List ℕ → List ℕ → List ℕ
text_member front key text = key_text front key ++ json_text text

-- one that is a number
unfoldable pub number_member : List ℕ → List ℕ → ℕ → List ℕ
number_member front key number = key_text front key ++ decimal number

unfoldable pub optional_text : Option ℕ → List ℕ
optional_text None = codes "null"
optional_text (Some number) = decimal number

-- one that is a number, or null
unfoldable pub optional_member : List ℕ → List ℕ → Option ℕ → List ℕ
optional_member front key number = key_text front key ++ optional_text number
