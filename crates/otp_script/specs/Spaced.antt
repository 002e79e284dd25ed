-- Words of a line: what stands between spaces and tabs (own).
use Prim.Native.Nat.{zero, suc}
use Rattle.std.specs.Prelude.{ℕ, ◌==◌, Bool, false, true, not, ◌&&◌, ◌||◌, List, [], ◌∷◌, Option, Some, None, drop, if◌then◌else◌, length, position, take}
use Rattle.otp_text.specs.Words.{begins_with, is_digit}

-- a byte that stands between words: a space, a tab, a CR
unfoldable pub is_space : ℕ → Bool
is_space byte = byte == 32 || byte == 9 || byte == 13

-- the word that a line begins with, up to this place, and what stands after it
unfoldable pub word_to : List ℕ → Option ℕ → Option (List ℕ × List ℕ)
word_to line None = Some (line, [])
word_to line (Some end) = if end == 0 then None else Some (take end line, drop end line)

-- the word that begins at this place, and what stands after it
unfoldable pub word_from : List ℕ → Option ℕ → Option (List ℕ × List ℕ)
word_from line None = None
word_from line (Some first) = word_to (drop first line) (position is_space (drop first line))

-- the first word of a line, and what stands after it
unfoldable pub word_in : List ℕ → Option (List ℕ × List ℕ)
word_in line = word_from line (position (λ byte. not (is_space byte)) line)

-- what stands behind this text at the beginning of a word
unfoldable pub behind : List ℕ → List ℕ → Option (List ℕ)
behind text word = if begins_with text word then Some (drop (length text) word) else None

abbrev pub begins_digit : List ℕ → Bool
begins_digit [] = false
begins_digit (byte ∷ rest) = is_digit byte

-- a `#` comes next with no digit behind it: `#3` is a process
unfoldable pub begins_comment : List ℕ → Bool
begins_comment [] = false
begins_comment (byte ∷ rest) = byte == 35 && not (begins_digit rest)

-- a line without its comment, which has a space before it
unfoldable pub without_comment : List ℕ → List ℕ
without_comment [] = []
without_comment (byte ∷ line) = byte ∷ (if is_space byte && begins_comment line then [] else without_comment line)

-- the place behind a byte that is one like the last, where that place is counted from behind the byte
abbrev pub place_behind : Bool → ℕ → ℕ
place_behind is_one (suc place) = suc (suc place)
place_behind true zero = 1
place_behind false zero = 0

-- the place behind the last such byte, 0 where there is none
unfoldable pub end_after_last : ℕ → List ℕ → ℕ
end_after_last byte [] = 0
end_after_last byte (first ∷ text) = place_behind (first == byte) (end_after_last byte text)

-- the path that a word begins with: ids with a `/` behind each
unfoldable pub path_in : List ℕ → List ℕ
path_in word = take (end_after_last 47 word) word

-- what stands behind the path
unfoldable pub name_behind : List ℕ → List ℕ
name_behind word = drop (end_after_last 47 word) word

-- the words of what stands behind this byte, each behind one space but for a word that has begun
unfoldable pub spaced_behind : ℕ → List ℕ → List ℕ
spaced_behind before [] = []
spaced_behind before (byte ∷ line) =
    if is_space byte then spaced_behind byte line
    else if is_space before then 32 ∷ byte ∷ spaced_behind byte line
    else byte ∷ spaced_behind byte line

-- the words of a line with one space between them
unfoldable pub spaced : List ℕ → List ℕ
spaced line = drop 1 (spaced_behind 32 line)
