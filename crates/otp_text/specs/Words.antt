-- Words of a line, and the values that they spell (own).
use Rattle.std.specs.Prelude.{ℕ, Bool, true, false, not, ◌&&◌, ◌||◌, ◌==◌, nat_le, List, [], ◌∷◌, Option, Some, None, length, take, drop, codes, slice_index, if◌then◌else◌}
use Rattle.std.specs.Option.{option_map}
use Rattle.std.specs.List.{list_all, slice_split}
use Rattle.std.specs.Str.{bytes_eq}
use Rattle.std.specs.Str.Parse.{digits_value}
use Rattle.otp_reason.specs.declared.name.Name.{Name}
use Rattle.otp_reason.specs.declared.reason.Reason.{Reason}
use Rattle.otp_reason.specs.declared.reason.Reason.TheVariants as reason
use Rattle.otp_reason.specs.Names.{name_of, is_lawful_name}
use Rattle.otp_reason.specs.Texts.{text_of, is_lawful_text}
use Rattle.otp_spec.specs.declared.child.Shutdown.{Shutdown}
use Rattle.otp_spec.specs.declared.child.Shutdown.TheVariants.{Milliseconds}
use Rattle.otp_spec.specs.declared.limits.TheConstants.{MAX_SHUTDOWN}
use Rattle.otp_spec.specs.Words.{shutdown_of}
use Rattle.otp_text.specs.declared.word.TheConstants.{MOST_DIGITS}
use Rattle.otp_text.specs.Values.{reason_text, bool_text}

-- the words of a line: what stands between its spaces, before the first and after the last
abbrev pub words_of : List ℕ → List (List ℕ)
words_of line = slice_split (λ byte. byte == 32) line

-- the words of what is left of a line, if there is something left
abbrev pub words_left : Option (List ℕ) → List (List ℕ)
words_left None = []
words_left (Some line) = words_of line

-- what follows on a value, if there is one
infixl 10 ◌>>=◌
abbrev pub ◌>>=◌ : {A B : Type 0} → Option A → (A → Option B) → Option B
None >>= f = None
(Some value) >>= f = f value

-- the first of the words, and the others
abbrev pub take_word : List (List ℕ) → Option (List ℕ × List (List ℕ))
take_word [] = None
take_word (word ∷ words) = Some (word, words)

-- no word is left
abbrev pub no_words : List (List ℕ) → Bool
no_words [] = true
no_words (_ ∷ _) = false

-- the value, if the condition holds
abbrev pub when : {A : Type 0} → Bool → A → Option A
when true value = Some value
when false value = None

-- the word, where it is the only one
unfoldable pub only_word : List (List ℕ) → Option (List ℕ)
only_word words = do
  first ← take_word words
  when (no_words first.1) first.0

-- a byte of `0-9`
abbrev pub is_digit : ℕ → Bool
is_digit byte = nat_le 48 byte && nat_le byte 57

-- a decimal number without leading zeros, of at most MOST_DIGITS
unfoldable pub is_decimal : List ℕ → Bool
is_decimal word =
    nat_le 1 (length word) && nat_le (length word) MOST_DIGITS && list_all is_digit word
    && (not (slice_index word 0 == 48) || length word == 1)

-- the number that the word spells, where it is at most the limit; limits are below 10 ^ MOST_DIGITS
unfoldable pub number_up_to : ℕ → List ℕ → Option ℕ
number_up_to limit word = when (is_decimal word && nat_le (digits_value 10 word) limit) (digits_value 10 word)

-- the word is this text
abbrev pub is_word : List ℕ → List ℕ → Bool
is_word text word = bytes_eq word text

-- the word begins with this text
abbrev pub begins_with : List ℕ → List ℕ → Bool
begins_with text word = bytes_eq (take (length text) word) text

-- a lawful name
unfoldable pub name_in : List ℕ → Option Name
name_in word = when (is_lawful_name word) (name_of word)

-- a reason: its printed text
unfoldable pub reason_in : List ℕ → Option Reason
reason_in word =
    if is_word (reason_text reason.Normal) word then Some reason.Normal
    else if is_word (reason_text reason.Shutdown) word then Some reason.Shutdown
    else if is_word (reason_text reason.Kill) word then Some reason.Kill
    else if is_word (reason_text reason.Killed) word then Some reason.Killed
    else if is_word (reason_text reason.NoProc) word then Some reason.NoProc
    else if begins_with (codes "shutdown:") word then when (is_lawful_text (drop 9 word)) (reason.ShutdownWith (text_of (drop 9 word)))
    else if begins_with (codes "error:") word then when (is_lawful_text (drop 6 word)) (reason.Error (text_of (drop 6 word)))
    else None

-- one word, a reason
unfoldable pub one_reason : List (List ℕ) → Option Reason
one_reason words = do
  word ← only_word words
  reason_in word

unfoldable pub bool_in : List ℕ → Option Bool
bool_in word =
    if is_word (bool_text true) word then Some true
    else if is_word (bool_text false) word then Some false
    else None

-- what a word says, or else what another reading of it says
abbrev pub or_else : {A : Type 0} → Option A → Option A → Option A
or_else (Some value) other = Some value
or_else None other = other

-- a word, or milliseconds below 2 ^ 32
unfoldable pub shutdown_in : List ℕ → Option Shutdown
shutdown_in word = or_else (shutdown_of word) (option_map Milliseconds (number_up_to MAX_SHUTDOWN word))
