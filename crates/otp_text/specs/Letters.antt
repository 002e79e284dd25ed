-- Letters outside of ASCII that look like one of a-z (own).
use Rattle.std.specs.Prelude.{ℕ, ◌+◌, ◌-◌, ◌*◌, ◌==◌, nat_le, List, [], ◌∷◌, Option, Some, None, codes, drop, position, if◌then◌else◌}
use Rattle.otp_text.specs.declared.fault.letter.Letter.{Letter}
use Rattle.otp_text.specs.declared.fault.letter.Letter.TheVariants as letter

-- the code point that two bytes are in UTF-8
unfoldable pub code_point : ℕ → ℕ → ℕ
code_point first second = (first - 192) * 64 + (second - 128)

-- the letter with this code point, of those that stand for others less often: U+0442, U+043A, U+0455, U+04BB, and Greek ones
-- from U+03B1 on
unfoldable pub other_letter : ℕ → Option Letter
other_letter code =
    if code == 1090 then Some letter.CyrillicT
    else if code == 1082 then Some letter.CyrillicK
    else if code == 1109 then Some letter.CyrillicS
    else if code == 1211 then Some letter.CyrillicH
    else if code == 945 then Some letter.GreekA
    else if code == 953 then Some letter.GreekI
    else if code == 957 then Some letter.GreekV
    else if code == 959 then Some letter.GreekO
    else if code == 961 then Some letter.GreekP
    else None

-- the letter with this code point: U+0430, U+0435, U+043E, U+0440, U+0441, U+0443, U+0445, U+0456, or one of the others
unfoldable pub letter_of : ℕ → Option Letter
letter_of code =
    if code == 1072 then Some letter.CyrillicA
    else if code == 1077 then Some letter.CyrillicE
    else if code == 1086 then Some letter.CyrillicO
    else if code == 1088 then Some letter.CyrillicP
    else if code == 1089 then Some letter.CyrillicC
    else if code == 1091 then Some letter.CyrillicY
    else if code == 1093 then Some letter.CyrillicX
    else if code == 1110 then Some letter.CyrillicI
    else other_letter code

-- the letter that these bytes begin with
unfoldable pub letter_at : List ℕ → Option Letter
letter_at [] = None
letter_at (first ∷ []) = None
letter_at (first ∷ second ∷ others) = letter_of (code_point first second)

-- the letter that stands at this place, if there is such a place
abbrev pub letter_behind : Option ℕ → List ℕ → Option Letter
letter_behind None word = None
letter_behind (Some place) word = letter_at (drop place word)

-- the first letter of a word that is outside of ASCII, where it looks like one of a-z
unfoldable pub letter_in : List ℕ → Option Letter
letter_in word = letter_behind (position (nat_le 128) word) word

-- what is said of a word that has this letter
unfoldable pub letter_text : Letter → List ℕ
letter_text letter.CyrillicA = codes "a word has the letter U+0430, which only looks like a"
letter_text letter.CyrillicE = codes "a word has the letter U+0435, which only looks like e"
letter_text letter.CyrillicO = codes "a word has the letter U+043E, which only looks like o"
letter_text letter.CyrillicP = codes "a word has the letter U+0440, which only looks like p"
letter_text letter.CyrillicC = codes "a word has the letter U+0441, which only looks like c"
letter_text letter.CyrillicY = codes "a word has the letter U+0443, which only looks like y"
letter_text letter.CyrillicX = codes "a word has the letter U+0445, which only looks like x"
letter_text letter.CyrillicI = codes "a word has the letter U+0456, which only looks like i"
letter_text letter.CyrillicS = codes "a word has the letter U+0455, which only looks like s"
letter_text letter.CyrillicT = codes "a word has the letter U+0442, which only looks like t"
letter_text letter.CyrillicK = codes "a word has the letter U+043A, which only looks like k"
letter_text letter.CyrillicH = codes "a word has the letter U+04BB, which only looks like h"
letter_text letter.GreekA = codes "a word has the letter U+03B1, which only looks like a"
letter_text letter.GreekI = codes "a word has the letter U+03B9, which only looks like i"
letter_text letter.GreekO = codes "a word has the letter U+03BF, which only looks like o"
letter_text letter.GreekP = codes "a word has the letter U+03C1, which only looks like p"
letter_text letter.GreekV = codes "a word has the letter U+03BD, which only looks like v"
