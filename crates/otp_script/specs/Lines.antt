-- What a line of a script says (own).
use Rattle.std.specs.Prelude.{ℕ, Bool, false, true, not, ◌&&◌, ◌||◌, List, [], ◌∷◌, Option, Some, None, Result, Ok, Err, codes, if◌then◌else◌, is_some, length, nat_lt, unwrap_or}
use Rattle.std.specs.Option.{option_map}
use Rattle.std.specs.Str.{bytes_eq}
use Rattle.otp_reason.specs.Texts.{text_of}
use Rattle.otp_reason.specs.declared.name.Name.{Name}
use Rattle.otp_reason.specs.declared.reason.Reason.{Reason}
use Rattle.otp_reason.specs.declared.reason.Reason.TheVariants as reason
use Rattle.otp_reason.specs.declared.text.TheConstants.{TEXT_SIZE}
use Rattle.otp_spec.specs.declared.limits.TheConstants.{MAX_READING}
use Rattle.otp_text.specs.Lines.{line_of}
use Rattle.otp_text.specs.Words.{begins_with, name_in, number_up_to, or_else, reason_in}
use Rattle.otp_text.specs.declared.line.Line.{Line}
use Rattle.otp_text.specs.declared.line.Line.TheVariants as line
use Rattle.otp_text.specs.declared.line.TheConstants.{LONGEST_LINE}
use Rattle.otp_script.specs.Read.{◌>>=◌, or_fault}
use Rattle.otp_script.specs.Said.{call_said}
use Rattle.otp_script.specs.Spaced.{behind, name_behind, path_in, spaced, without_comment, word_in}
use Rattle.otp_script.specs.Times.{next_time, time_in}
use Rattle.otp_script.specs.declared.fault.ScriptFault.{ScriptFault}
use Rattle.otp_script.specs.declared.fault.ScriptFault.TheVariants as fault
use Rattle.otp_script.specs.declared.read.TheConstants.{MOST_REPEATS}
use Rattle.otp_script.specs.declared.step.Action.{Action}
use Rattle.otp_script.specs.declared.step.Action.TheVariants as action
use Rattle.otp_script.specs.declared.step.Child.{Child}
use Rattle.otp_script.specs.declared.step.Child.TheVariants as child
use Rattle.otp_script.specs.declared.step.Expected.{Expected}
use Rattle.otp_script.specs.declared.step.Expected.TheVariants as expected
use Rattle.otp_script.specs.declared.step.NextStart.TheVariants as start
use Rattle.otp_script.specs.declared.step.When.{When}
use Rattle.otp_script.specs.declared.step.When.TheVariants as when

-- when a line happens and how often, and what is left of it
pub record Timed : Type 0 where
  pub when : When
  pub times : ℕ
  pub rest : List ℕ

unfoldable pub timed : When → ℕ → List ℕ → Timed
timed time often left = record { when = time; times = often; rest = left }

-- what is said to the supervisor with this path
pub record Spoken : Type 0 where
  pub path : List ℕ
  pub action : Action

unfoldable pub spoken : List ℕ → Action → Spoken
spoken ids deed = record { path = ids; action = deed }

-- a child of the supervisor with this path, and what is left of the line
pub record Meant : Type 0 where
  pub path : List ℕ
  pub child : Child
  pub rest : List ℕ

unfoldable pub meant : List ℕ → Child → List ℕ → Meant
meant ids named left = record { path = ids; child = named; rest = left }

-- an id, with the path before it, and what is left of the line
pub record Named : Type 0 where
  pub path : List ℕ
  pub id : Name
  pub rest : List ℕ

unfoldable pub named : List ℕ → Name → List ℕ → Named
named ids name left = record { path = ids; id = name; rest = left }

-- a line: what happens at which supervisor, when and how often
pub record Saying : Type 0 where
  pub when : When
  pub times : ℕ
  pub path : List ℕ
  pub action : Action

abbrev pub saying : When → ℕ → List ℕ → Action → Saying
saying time often ids deed = record { when = time; times = often; path = ids; action = deed }

-- the next word and what is left after it, or this is why there is none
abbrev pub word_or : ScriptFault → List ℕ → Result (List ℕ × List ℕ) ScriptFault
word_or why line = or_fault why (word_in line)

-- the value, where no word is left
unfoldable pub at_end : {A : Type 0} → List ℕ → A → Result A ScriptFault
at_end line value = if is_some (word_in line) then Err fault.TooManyWords else Ok value

-- `N times`: 1 to 10,000
unfoldable pub times_of : Option ℕ → List ℕ → List ℕ → Result (ℕ × List ℕ) ScriptFault
times_of None word rest = Err fault.BadTimes
times_of (Some number) word rest = if nat_lt 0 number && bytes_eq word (codes "times") then Ok (number, rest) else Err fault.BadTimes

unfoldable pub times_in : List ℕ → Result (ℕ × List ℕ) ScriptFault
times_in text =
    word_or fault.BadTimes text >>= λ first.
    word_or fault.BadTimes first.1 >>= λ second.
    times_of (number_up_to MOST_REPEATS first.0) second.0 second.1

-- `every TIME N times`: so often, each time so long after the time before
unfoldable pub every_in : List ℕ → Result Timed ScriptFault
every_in text = next_time text >>= λ time. times_in time.1 >>= λ often. Ok (timed (when.After time.0) often.0 often.1)

-- `at TIME`
unfoldable pub at_in : List ℕ → Result Timed ScriptFault
at_in text = next_time text >>= λ time. Ok (timed (when.At time.0) 1 time.1)

-- `+TIME`, or a word that is no time: the whole line happens now
unfoldable pub after_in : Option (List ℕ) → List ℕ → List ℕ → Result Timed ScriptFault
after_in None rest text = Ok (timed when.Now 1 text)
after_in (Some number) rest text = time_in number rest >>= λ time. Ok (timed (when.After time.0) 1 time.1)

unfoldable pub when_by : List ℕ → List ℕ → List ℕ → Result Timed ScriptFault
when_by word rest text =
    if bytes_eq word (codes "at") then at_in rest
    else if bytes_eq word (codes "every") then every_in rest
    else after_in (behind (codes "+") word) rest text

unfoldable pub when_found : Option (List ℕ × List ℕ) → List ℕ → Result Timed ScriptFault
when_found None text = Ok (timed when.Now 1 text)
when_found (Some found) text = when_by found.0 found.1 text

-- when a line happens and how often
unfoldable pub when_in : List ℕ → Result Timed ScriptFault
when_in text = when_found (word_in text) text

-- a child by what stands behind a `#`, if that stands before it, and otherwise by its id
unfoldable pub child_by : Option (List ℕ) → List ℕ → Option Child
child_by (Some digits) name = option_map child.Numbered (number_up_to MAX_READING digits)
child_by None name = option_map child.Named (name_in name)

unfoldable pub child_of : List ℕ → Option Child
child_of name = child_by (behind (codes "#") name) name

-- the child that is the next word
unfoldable pub child_in : List ℕ → Result Meant ScriptFault
child_in text =
    word_or fault.MissingChild text >>= λ found.
    or_fault fault.BadChild (child_of (name_behind found.0)) >>= λ one.
    Ok (meant (path_in found.0) one found.1)

-- the id that is the next word
unfoldable pub id_in : List ℕ → Result Named ScriptFault
id_in text =
    word_or fault.MissingName text >>= λ found.
    or_fault fault.BadName (name_in (name_behind found.0)) >>= λ id.
    Ok (named (path_in found.0) id found.1)

-- what stands behind `shutdown:` or `error:`
unfoldable pub text_of_reason : List ℕ → Option (List ℕ)
text_of_reason word = or_else (behind (codes "shutdown:") word) (behind (codes "error:") word)

unfoldable pub fault_of_text : Option (List ℕ) → ScriptFault
fault_of_text None = fault.BadReason
fault_of_text (Some text) = if nat_lt TEXT_SIZE (length text) then fault.LongReason else fault.BadReason

-- why a word is no reason
unfoldable pub fault_of_reason : List ℕ → ScriptFault
fault_of_reason word = fault_of_text (text_of_reason word)

unfoldable pub reason_found : Option (List ℕ × List ℕ) → Result (Option Reason) ScriptFault
reason_found None = Ok None
reason_found (Some found) = or_fault (fault_of_reason found.0) (reason_in found.0) >>= λ why. at_end found.1 (Some why)

-- a reason that may be left out, as the last word
unfoldable pub last_reason : List ℕ → Result (Option Reason) ScriptFault
last_reason text = reason_found (word_in text)

-- an error with this text
unfoldable pub error_of : List ℕ → Reason
error_of text = reason.Error (text_of text)

-- `crash CHILD [REASON]`
unfoldable pub crash_in : List ℕ → Result Spoken ScriptFault
crash_in text =
    child_in text >>= λ one.
    last_reason one.rest >>= λ why.
    Ok (spoken one.path (action.Exit one.child (unwrap_or why (error_of (codes "crash")))))

unfoldable pub exit_by : Meant → Option Reason → Result Spoken ScriptFault
exit_by one None = Err fault.MissingReason
exit_by one (Some why) = Ok (spoken one.path (action.Exit one.child why))

-- `exit CHILD REASON`
unfoldable pub exit_in : List ℕ → Result Spoken ScriptFault
exit_in text = child_in text >>= λ one. last_reason one.rest >>= λ why. exit_by one why

-- `fail ID [REASON]`
unfoldable pub fail_in : List ℕ → Result Spoken ScriptFault
fail_in text =
    id_in text >>= λ one.
    last_reason one.rest >>= λ why.
    Ok (spoken one.path (action.Start one.id (start.Fail (unwrap_or why (error_of (codes "fail"))))))

-- `ignore ID`
unfoldable pub ignore_in : List ℕ → Result Spoken ScriptFault
ignore_in text = id_in text >>= λ one. at_end one.rest (spoken one.path (action.Start one.id start.Ignore))

-- `init ID TIME`
unfoldable pub init_in : List ℕ → Result Spoken ScriptFault
init_in text =
    id_in text >>= λ one.
    next_time one.rest >>= λ time.
    at_end time.1 (spoken one.path (action.Init one.id time.0))

-- `hang CHILD`
unfoldable pub hang_in : List ℕ → Result Spoken ScriptFault
hang_in text = child_in text >>= λ one. at_end one.rest (spoken one.path (action.Hang one.child))

-- `slow CHILD TIME`
unfoldable pub slow_in : List ℕ → Result Spoken ScriptFault
slow_in text =
    child_in text >>= λ one.
    next_time one.rest >>= λ time.
    at_end time.1 (spoken one.path (action.Slow one.child time.0))

-- that a supervisor has not ended, or has
unfoldable pub standing_of_all : Bool → Expected
standing_of_all true = expected.Alive
standing_of_all false = expected.Over

-- that a child has a process, or none
unfoldable pub standing_of : Bool → Child → Expected
standing_of true one = expected.Up one
standing_of false one = expected.Ended one

-- behind `expect up` and `expect end` a child, or nothing, where the supervisor itself is meant
unfoldable pub standing_in : Bool → List ℕ → Result Spoken ScriptFault
standing_in is_up text =
    if is_some (word_in text) then (child_in text >>= λ one. at_end one.rest (spoken one.path (action.Expect (standing_of is_up one.child))))
    else Ok (spoken [] (action.Expect (standing_of_all is_up)))

-- `expect restarts ID N`
unfoldable pub restarts_in : List ℕ → Result Spoken ScriptFault
restarts_in text =
    id_in text >>= λ one.
    word_or fault.BadExpected one.rest >>= λ found.
    or_fault fault.BadExpected (number_up_to MAX_READING found.0) >>= λ count.
    at_end found.1 (spoken one.path (action.Expect (expected.Restarts one.id count)))

unfoldable pub expected_by : List ℕ → List ℕ → Result Spoken ScriptFault
expected_by word rest =
    if bytes_eq word (codes "up") then standing_in true rest
    else if bytes_eq word (codes "end") then standing_in false rest
    else if bytes_eq word (codes "restarts") then restarts_in rest
    else Err fault.BadExpected

unfoldable pub expect_in : List ℕ → Result Spoken ScriptFault
expect_in text = word_or fault.BadExpected text >>= λ found. expected_by found.0 found.1

unfoldable pub call_named : List ℕ → Result Named ScriptFault → Result Spoken ScriptFault
call_named word (Err why) = Err fault.BadCall
call_named word (Ok one) = at_end one.rest (spoken one.path (action.Call (call_said word one.id)))

-- a call that names a child with a path
unfoldable pub call_in : List ℕ → List ℕ → Result Spoken ScriptFault
call_in word rest = call_named word (id_in rest)

-- the word of a call
unfoldable pub is_call : List ℕ → Bool
is_call word =
    bytes_eq word (codes "start") || bytes_eq word (codes "restart") || bytes_eq word (codes "delete") || bytes_eq word (codes "terminate")
    || bytes_eq word (codes "get") || bytes_eq word (codes "which") || bytes_eq word (codes "count")

unfoldable pub plain_fault_by : List ℕ → ScriptFault
plain_fault_by word =
    if bytes_eq word (codes "stop") then fault.StopAlone
    else if is_call word then fault.BadCall
    else fault.UnknownWord

unfoldable pub plain_fault : Option (List ℕ × List ℕ) → ScriptFault
plain_fault None = fault.UnknownWord
plain_fault (Some found) = plain_fault_by found.0

unfoldable pub plain_of : Option Line → List ℕ → Result Spoken ScriptFault
plain_of (Some line.Stop) text = Ok (spoken [] action.Stop)
plain_of (Some (line.Call c)) text = Ok (spoken [] (action.Call c))
plain_of (Some _) text = Err fault.UnknownWord
plain_of None text = Err (plain_fault (word_in text))

-- what has the form of a line of `sim`, but for the spaces between its words: `stop`, and the calls
unfoldable pub plain_in : List ℕ → Result Spoken ScriptFault
plain_in text = plain_of (line_of (spaced text)) text

-- the word of a call of one child
unfoldable pub is_call_of_child : List ℕ → Bool
is_call_of_child word =
    bytes_eq word (codes "restart") || bytes_eq word (codes "delete") || bytes_eq word (codes "terminate") || bytes_eq word (codes "get")

unfoldable pub has_path : Option (List ℕ × List ℕ) → Bool
has_path None = false
has_path (Some found) = nat_lt 0 (length (path_in found.0))

-- a call, with a path before its child's id or with none
unfoldable pub called_by : List ℕ → List ℕ → List ℕ → Result Spoken ScriptFault
called_by word rest text = if is_call_of_child word && has_path (word_in rest) then call_in word rest else plain_in text

-- what a word says with those behind it
unfoldable pub action_by : List ℕ → List ℕ → List ℕ → Result Spoken ScriptFault
action_by word rest text =
    if bytes_eq word (codes "crash") then crash_in rest
    else if bytes_eq word (codes "exit") then exit_in rest
    else if bytes_eq word (codes "fail") then fail_in rest
    else if bytes_eq word (codes "ignore") then ignore_in rest
    else if bytes_eq word (codes "init") then init_in rest
    else if bytes_eq word (codes "hang") then hang_in rest
    else if bytes_eq word (codes "slow") then slow_in rest
    else if bytes_eq word (codes "expect") then expect_in rest
    else called_by word rest text

unfoldable pub action_found : Option (List ℕ × List ℕ) → List ℕ → Result Spoken ScriptFault
action_found None text = Ok (spoken [] action.Nothing)
action_found (Some found) text = if begins_with (codes "#") found.0 then Ok (spoken [] action.Nothing) else action_by found.0 found.1 text

-- what happens by the words that are left; behind a `#` nothing is read
unfoldable pub action_in : List ℕ → Result Spoken ScriptFault
action_in text = action_found (word_in text) text

-- what is said, once it stands behind the path of a supervisor; a second path is refused
unfoldable pub under : List ℕ → Spoken → Result Spoken ScriptFault
under ids said = if nat_lt 0 (length said.path) then Err fault.BadChild else Ok (spoken ids said.action)

-- a word is a path and nothing more
unfoldable pub is_path : List ℕ → Bool
is_path word = not (begins_with (codes "#") word) && nat_lt 0 (length (path_in word)) && not (nat_lt 0 (length (name_behind word)))

unfoldable pub said_found : Option (List ℕ × List ℕ) → List ℕ → Result Spoken ScriptFault
said_found None text = Ok (spoken [] action.Nothing)
said_found (Some found) text = if is_path found.0 then (action_in found.1 >>= λ said. under (path_in found.0) said) else action_in text

-- what happens by the words that are left, of which the first may be the path of the supervisor to which it is said
unfoldable pub said_in : List ℕ → Result Spoken ScriptFault
said_in text = said_found (word_in text) text

-- a line without its LF, or the first fault from the left
unfoldable pub saying_in : List ℕ → Result Saying ScriptFault
saying_in text =
    if nat_lt LONGEST_LINE (length text) then Err fault.TooLong
    else (when_in (without_comment text) >>= λ at. said_in at.rest >>= λ said. Ok (saying at.when at.times said.path said.action))
