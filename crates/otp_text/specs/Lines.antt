-- The lines that are read (own).
use Rattle.std.specs.Prelude.{ℕ, ◌≤◌, nat_lt, List, [], ◌∷◌, Option, Some, None, length, drop, codes, if◌then◌else◌}
use Rattle.std.specs.Option.{option_map}
use Rattle.otp_reason.specs.declared.name.Name.{Name}
use Rattle.otp_reason.specs.declared.note.Note.{Note}
use Rattle.otp_reason.specs.declared.note.Note.TheVariants as note
use Rattle.otp_reason.specs.declared.reason.Reason.{Reason}
use Rattle.otp_spec.specs.Words.{child_type_of, restart_of}
use Rattle.otp_spec.specs.declared.child.ChildSpec.{ChildSpec}
use Rattle.otp_spec.specs.declared.limits.TheConstants.{MAX_READING}
use Rattle.otp_spec.specs.declared.child.Modules.TheVariants as modules
use Rattle.otp_rules.specs.declared.call.Call.{Call}
use Rattle.otp_rules.specs.declared.call.Call.TheVariants as call
use Rattle.otp_text.specs.declared.line.TheConstants.{LONGEST_LINE}
use Rattle.otp_text.specs.declared.line.Line.{Line}
use Rattle.otp_text.specs.declared.line.Line.TheVariants as line
use Rattle.otp_text.specs.declared.verb.Verb.{Verb}
use Rattle.otp_text.specs.declared.verb.Verb.TheVariants as verb
use Rattle.otp_text.specs.Words.{◌>>=◌, words_of, take_word, only_word, no_words, when, is_word, begins_with, number_up_to, name_in, reason_in, bool_in, shutdown_in}

-- what a line is about, by its first word
unfoldable pub verb_of : List ℕ → Option Verb
verb_of word =
    if is_word (codes "at") word then Some verb.At
    else if is_word (codes "up") word then Some verb.Up
    else if is_word (codes "ignore") word then Some verb.Ignore
    else if is_word (codes "fail") word then Some verb.Fail
    else if is_word (codes "exit") word then Some verb.Exit
    else if is_word (codes "stop") word then Some verb.Stop
    else if is_word (codes "start") word then Some verb.Start
    else if is_word (codes "restart") word then Some verb.Restart
    else if is_word (codes "delete") word then Some verb.Delete
    else if is_word (codes "terminate") word then Some verb.Terminate
    else if is_word (codes "get") word then Some verb.Get
    else if is_word (codes "which") word then Some verb.Which
    else if is_word (codes "count") word then Some verb.Count
    else None

-- a clock's reading or a process number
unfoldable pub number_in : List ℕ → Option ℕ
number_in word = number_up_to MAX_READING word

-- one word, a number
unfoldable pub one_number : List (List ℕ) → Option ℕ
one_number words = do
  word ← only_word words
  number_in word

-- one word, a name
unfoldable pub one_name : List (List ℕ) → Option Name
one_name words = do
  word ← only_word words
  name_in word

-- a number, and the reason behind it, if there is one
unfoldable pub with_number : ℕ → Option Reason → Option (ℕ × Reason)
with_number number found = option_map (λ reason. (number, reason)) found

-- two words, a number and a reason
unfoldable pub number_and_reason : List (List ℕ) → Option (ℕ × Reason)
number_and_reason words = do
  first ← take_word words
  number ← number_in first.0
  second ← only_word first.1
  reason ← reason_in second
  Some (number, reason)

-- an id and a start function's module, and the words after them
unfoldable pub two_names : List (List ℕ) → Option ((Name × Name) × List (List ℕ))
two_names words = do
  first ← take_word words
  id ← name_in first.0
  second ← take_word first.1
  start ← name_in second.0
  Some ((id, start), second.1)

-- the four words of the other keys, in their order; the modules are the default
unfoldable pub spec_named : Name → Name → List (List ℕ) → Option ChildSpec
spec_named id start words = do
  first ← take_word words
  restart ← restart_of first.0
  second ← take_word first.1
  significant ← bool_in second.0
  third ← take_word second.1
  shutdown ← shutdown_in third.0
  fourth ← only_word third.1
  kind ← child_type_of fourth
  Some (record {
    id = id;
    start = start;
    restart = restart;
    significant = significant;
    shutdown = shutdown;
    kind = kind;
    modules = modules.One start;
  })

-- the six words of a specification
unfoldable pub spec_in : List (List ℕ) → Option ChildSpec
spec_in words = do
  names ← two_names words
  spec_named names.0.0 names.0.1 names.1

-- start_child: with a specification, or none under simple_one_for_one
unfoldable pub start_in : List (List ℕ) → Option Call
start_in words = if no_words words then Some call.StartDynamic else option_map call.StartChild (spec_in words)

-- who is terminated: a process number after `#`, or an id
unfoldable pub terminate_in : List ℕ → Option Call
terminate_in word =
    if begins_with (codes "#") word then option_map call.TerminateProcess (number_in (drop 1 word))
    else option_map call.TerminateChild (name_in word)

unfoldable pub one_terminate : List (List ℕ) → Option Call
one_terminate words = do
  word ← only_word words
  terminate_in word

-- the call of a verb and the words after it
unfoldable pub call_of : Verb → List (List ℕ) → Option Call
call_of verb.At words = None
call_of verb.Up words = None
call_of verb.Ignore words = None
call_of verb.Fail words = None
call_of verb.Exit words = None
call_of verb.Stop words = None
call_of verb.Start words = start_in words
call_of verb.Restart words = option_map call.RestartChild (one_name words)
call_of verb.Delete words = option_map call.DeleteChild (one_name words)
call_of verb.Terminate words = one_terminate words
call_of verb.Get words = option_map call.GetChildspec (one_name words)
call_of verb.Which words = when (no_words words) call.WhichChildren
call_of verb.Count words = when (no_words words) call.CountChildren

-- the note of a verb and the words after it: what a process tells
unfoldable pub note_with : Verb → List (List ℕ) → Option Note
note_with verb.At words = None
note_with verb.Up words = option_map note.Up (one_number words)
note_with verb.Ignore words = option_map note.Ignored (one_number words)
note_with verb.Fail words = option_map (λ both. note.Failed both.0 both.1) (number_and_reason words)
note_with verb.Exit words = option_map (λ both. note.Exit both.0 both.1) (number_and_reason words)
note_with verb.Stop words = None
note_with verb.Start words = None
note_with verb.Restart words = None
note_with verb.Delete words = None
note_with verb.Terminate words = None
note_with verb.Get words = None
note_with verb.Which words = None
note_with verb.Count words = None

-- the line of a verb and the words after it
unfoldable pub line_with : Verb → List (List ℕ) → Option Line
line_with verb.At words = option_map line.At (one_number words)
line_with verb.Up words = option_map (λ number. line.Note (note.Up number)) (one_number words)
line_with verb.Ignore words = option_map (λ number. line.Note (note.Ignored number)) (one_number words)
line_with verb.Fail words = option_map (λ both. line.Note (note.Failed both.0 both.1)) (number_and_reason words)
line_with verb.Exit words = option_map (λ both. line.Note (note.Exit both.0 both.1)) (number_and_reason words)
line_with verb.Stop words = when (no_words words) line.Stop
line_with verb.Start words = option_map line.Call (call_of verb.Start words)
line_with verb.Restart words = option_map line.Call (call_of verb.Restart words)
line_with verb.Delete words = option_map line.Call (call_of verb.Delete words)
line_with verb.Terminate words = option_map line.Call (call_of verb.Terminate words)
line_with verb.Get words = option_map line.Call (call_of verb.Get words)
line_with verb.Which words = option_map line.Call (call_of verb.Which words)
line_with verb.Count words = option_map line.Call (call_of verb.Count words)

unfoldable pub line_of_words : List (List ℕ) → Option Line
line_of_words words = do
  first ← take_word words
  verb ← verb_of first.0
  line_with verb first.1

-- what a line says that has no verb: nothing, where it is empty
unfoldable pub line_without_verb : List ℕ → Option Line
line_without_verb [] = Some line.Empty
line_without_verb (_ ∷ _) = None

-- the line that these bytes are, without their end of line
unfoldable pub line_of : List ℕ → Option Line
line_of [] = Some line.Empty
line_of (byte ∷ bytes) = if nat_lt LONGEST_LINE (length (byte ∷ bytes)) then None else line_of_words (words_of (byte ∷ bytes))

-- a clock's reading is in its limits
abbrev pub IsTimely : Line → Type 0
IsTimely line.Empty = Unit {0}
IsTimely (line.At reading) = reading ≤ MAX_READING
IsTimely (line.Note _) = Unit {0}
IsTimely line.Stop = Unit {0}
IsTimely (line.Call _) = Unit {0}

-- what a process tells, where that is what the line says
abbrev pub note_of : Option Line → Option Note
note_of None = None
note_of (Some line.Empty) = None
note_of (Some (line.At _)) = None
note_of (Some (line.Note told)) = Some told
note_of (Some line.Stop) = None
note_of (Some (line.Call _)) = None
