-- Why a line has no form that is read: its first fault from the left (own).
use Rattle.std.specs.Prelude.{ℕ, nat_le, nat_lt, Bool, not, ◌&&◌, ◌||◌, ◌==◌, List, [], ◌∷◌, Option, Some, None, length, codes, if◌then◌else◌}
use Rattle.std.specs.List.{list_all, list_any}
use Rattle.otp_spec.specs.Words.{child_type_of, restart_of}
use Rattle.otp_text.specs.Letters.{letter_in, letter_text}
use Rattle.otp_text.specs.Lines.{number_in, terminate_in, verb_of}
use Rattle.otp_text.specs.Words.{begins_with, bool_in, is_digit, is_word, name_in, reason_in, shutdown_in, take_word, words_of}
use Rattle.otp_text.specs.declared.fault.letter.Letter.{Letter}
use Rattle.otp_text.specs.declared.fault.text.LineFault.{LineFault}
use Rattle.otp_text.specs.declared.fault.text.LineFault.TheVariants as fault
use Rattle.otp_text.specs.declared.line.TheConstants.{LONGEST_LINE}
use Rattle.otp_text.specs.declared.verb.Verb.{Verb}
use Rattle.otp_text.specs.declared.verb.Verb.TheVariants as verb

-- what follows on a word and the words after it, or what is missing where there is no word
abbrev pub at_word : LineFault → Option (List ℕ × List (List ℕ)) → (List ℕ → List (List ℕ) → LineFault) → LineFault
at_word missing None follows = missing
at_word missing (Some (word, words)) follows = follows word words

-- this fault where nothing was read, or else that of what follows
abbrev pub unless_read : {A : Type 0} → Option A → LineFault → LineFault → LineFault
unless_read None wrong follows = wrong
unless_read (Some value) wrong follows = follows

-- a word that has a byte outside of ASCII: the letter is named that looks like one of a-z
abbrev pub strange_fault : Option Letter → LineFault
strange_fault None = fault.StrangeLetter
strange_fault (Some letter) = fault.Alike letter

-- what is wrong with a word that isn't the wanted one: what its bytes show, or else that
unfoldable pub word_fault : LineFault → List ℕ → LineFault
word_fault wanted word =
    if list_any (nat_le 128) word then strange_fault (letter_in word)
    else if list_any (λ byte. byte == 13) word then fault.HasReturn
    else if nat_lt 0 (length word) && not (list_any (λ byte. byte == 9) word) then wanted
    else fault.OtherBlank

-- words behind the last that a line may have
unfoldable pub extra_fault : List (List ℕ) → LineFault
extra_fault words = at_word fault.TooManyWords (take_word words) (λ word others. word_fault fault.TooManyWords word)

-- a word that is no number: what it has, or what was wanted
unfoldable pub number_fault : LineFault → List ℕ → LineFault
number_fault wanted word =
    if begins_with (codes "#") word then fault.SignedNumber
    else if begins_with (codes "0") word then wanted
    else if nat_lt 0 (length word) && list_all is_digit word then fault.LargeNumber
    else wanted

-- words that aren't one number
unfoldable pub one_number_fault : LineFault → List (List ℕ) → LineFault
one_number_fault wanted words =
    at_word fault.MissingNumber (take_word words) (λ word others.
    unless_read (number_in word) (word_fault (number_fault wanted word) word) (extra_fault others))

-- a word that is no reason
unfoldable pub reason_fault : List ℕ → LineFault
reason_fault word =
    if begins_with (codes "error:") word then fault.BadTerm
    else if begins_with (codes "shutdown:") word then fault.BadTerm
    else fault.BadReason

-- words that aren't one reason
unfoldable pub one_reason_fault : List (List ℕ) → LineFault
one_reason_fault words =
    at_word fault.MissingReason (take_word words) (λ word others.
    unless_read (reason_in word) (word_fault (reason_fault word) word) (extra_fault others))

-- words that aren't a process number and a reason
unfoldable pub exit_fault : List (List ℕ) → LineFault
exit_fault words =
    at_word fault.MissingNumber (take_word words) (λ word others.
    unless_read (number_in word) (word_fault (number_fault fault.BadNumber word) word) (one_reason_fault others))

-- words that aren't one id
unfoldable pub one_name_fault : List (List ℕ) → LineFault
one_name_fault words =
    at_word fault.MissingName (take_word words) (λ word others.
    unless_read (name_in word) (word_fault fault.BadName word) (extra_fault others))

-- words that aren't one child to terminate
unfoldable pub terminate_fault : List (List ℕ) → LineFault
terminate_fault words =
    at_word fault.MissingName (take_word words) (λ word others.
    unless_read (terminate_in word) (word_fault fault.BadChild word) (extra_fault others))

-- words that don't end with a type
unfoldable pub type_fault : List (List ℕ) → LineFault
type_fault words =
    at_word fault.MissingKey (take_word words) (λ word others.
    unless_read (child_type_of word) (word_fault fault.BadType word) (extra_fault others))

-- words that aren't a shutdown and a type
unfoldable pub shutdown_fault : List (List ℕ) → LineFault
shutdown_fault words =
    at_word fault.MissingKey (take_word words) (λ word others.
    unless_read (shutdown_in word) (word_fault fault.BadShutdown word) (type_fault others))

-- words that aren't the keys from `significant` on
unfoldable pub significant_fault : List (List ℕ) → LineFault
significant_fault words =
    at_word fault.MissingKey (take_word words) (λ word others.
    unless_read (bool_in word) (word_fault fault.BadSignificant word) (shutdown_fault others))

-- words that aren't the keys from `restart` on
unfoldable pub restart_fault : List (List ℕ) → LineFault
restart_fault words =
    at_word fault.MissingKey (take_word words) (λ word others.
    unless_read (restart_of word) (word_fault fault.BadRestart word) (significant_fault others))

-- words that aren't a module and the keys behind it
unfoldable pub module_fault : List (List ℕ) → LineFault
module_fault words =
    at_word fault.MissingKey (take_word words) (λ word others.
    unless_read (name_in word) (word_fault fault.BadName word) (restart_fault others))

-- words that aren't a specification
unfoldable pub start_fault : List (List ℕ) → LineFault
start_fault words =
    at_word fault.MissingName (take_word words) (λ word others.
    unless_read (name_in word) (word_fault fault.BadName word) (module_fault others))

-- the words behind a verb
unfoldable pub rest_fault : Verb → List (List ℕ) → LineFault
rest_fault verb.At words = one_number_fault fault.BadReading words
rest_fault verb.Up words = one_number_fault fault.BadNumber words
rest_fault verb.Ignore words = one_number_fault fault.BadNumber words
rest_fault verb.Fail words = exit_fault words
rest_fault verb.Exit words = exit_fault words
rest_fault verb.Stop words = extra_fault words
rest_fault verb.Start words = start_fault words
rest_fault verb.Restart words = one_name_fault words
rest_fault verb.Delete words = one_name_fault words
rest_fault verb.Terminate words = terminate_fault words
rest_fault verb.Get words = one_name_fault words
rest_fault verb.Which words = extra_fault words
rest_fault verb.Count words = extra_fault words

-- a line begins with it that a script may have, and no line here
unfoldable pub is_of_script : List ℕ → Bool
is_of_script word =
    is_word (codes "crash") word || is_word (codes "hang") word || is_word (codes "slow") word
    || is_word (codes "expect") word || is_word (codes "every") word || is_word (codes "init") word

-- a first word that is no verb
unfoldable pub first_fault : List ℕ → LineFault
first_fault word =
    if begins_with (codes "#") word then fault.Comment
    else if is_of_script word then fault.OfScript
    else fault.UnknownVerb

-- what is wrong with a line that begins with this verb, or with this word that is none
abbrev pub verb_fault : Option Verb → List ℕ → List (List ℕ) → LineFault
verb_fault None word words = word_fault (first_fault word) word
verb_fault (Some found) word words = rest_fault found words

-- why a line has no form that is read
unfoldable pub line_fault : List ℕ → LineFault
line_fault line =
    if nat_lt LONGEST_LINE (length line) then fault.TooLong
    else at_word fault.UnknownVerb (take_word (words_of line)) (λ word others. verb_fault (verb_of word) word others)

-- what is wrong, and what would be read
unfoldable pub line_fault_text : LineFault → List ℕ
line_fault_text fault.TooLong = codes "more than 512 bytes"
line_fault_text (fault.Alike letter) = letter_text letter
line_fault_text fault.StrangeLetter = codes "a word has a letter outside of ASCII"
line_fault_text fault.HasReturn = codes "a CR stands in it: save with LF alone"
line_fault_text fault.OtherBlank = codes "one space stands between two words: no tab, none twice, none at an end"
line_fault_text fault.Comment = codes "event lines have no comments: leave it out"
line_fault_text fault.OfScript = codes "a word of scripts, which otp try FILE SCRIPT plays"
line_fault_text fault.UnknownVerb = codes "unknown word: write at, up, ignore, fail, exit, stop, start, restart, delete, terminate, get, which or count"
line_fault_text fault.MissingNumber = codes "a number is missing, as in at 1500 or up 1"
line_fault_text fault.BadReading = codes "not a time: write milliseconds in digits alone, as in at 1500"
line_fault_text fault.BadNumber = codes "not a process number: write digits alone, with no zero in front, as in up 1"
line_fault_text fault.SignedNumber = codes "write the number without #, as in up 1"
line_fault_text fault.LargeNumber = codes "too large a number: write at most 4611686018427387904"
line_fault_text fault.MissingReason = codes "a reason is missing: write one like normal, shutdown, kill or error:TEXT"
line_fault_text fault.BadReason = codes "not a reason: write normal, shutdown, shutdown:TEXT, kill, killed, noproc or error:TEXT"
line_fault_text fault.BadTerm = codes "behind error: and shutdown: stand 1 to 64 printable bytes, none of them a space"
line_fault_text fault.MissingName = codes "a child's id is missing: write 1 to 32 bytes of a-z A-Z 0-9 _ - ."
line_fault_text fault.BadName = codes "not a name: write 1 to 32 bytes of a-z A-Z 0-9 _ - ."
line_fault_text fault.BadChild = codes "not a child: write its id, or a process number like #3"
line_fault_text fault.MissingKey = codes "words are missing: write start ID START RESTART SIGNIFICANT SHUTDOWN TYPE"
line_fault_text fault.BadRestart = codes "not a restart type: write permanent, transient or temporary"
line_fault_text fault.BadSignificant = codes "significant is true or false"
line_fault_text fault.BadShutdown = codes "not a shutdown: write milliseconds, at most 4294967295, brutal_kill or infinity"
line_fault_text fault.BadType = codes "not a type: write worker or supervisor"
line_fault_text fault.TooManyWords = codes "more words than the line may have"
