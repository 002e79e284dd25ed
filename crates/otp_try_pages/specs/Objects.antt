-- A run of a script, as an object of JSON (own).
use Rattle.std.specs.Prelude.{◌≡◌, ℕ, ◌==◌, Bool, true, false, ◌&&◌, not, List, [], ◌∷◌, ◌++◌, Option, Some, None, codes, if◌then◌else◌}
use Rattle.otp_try.specs.declared.account.account.Account.{Account}
use Rattle.otp_try.specs.declared.account.account.Played.{Played}
use Rattle.otp_json.specs.Values.{key_text, number_member, optional_member, text_member}
use Rattle.otp_costs.specs.Falls.{supervisor_path}
use Rattle.otp_rules.specs.State.{is_over}
use Rattle.otp_spec.specs.declared.flags.SupFlags.{SupFlags}
use Rattle.otp_text.specs.Seconds.{seconds_text}
use Rattle.otp_trial.specs.Played.{Seated, state_in}
use Rattle.otp_trial.specs.Taken.{taken_text}
use Rattle.otp_trial.specs.declared.story.strain.Strain.{Strain}
use Rattle.otp_trial.specs.declared.trial.ActionEnd.{ActionEnd}
use Rattle.otp_trial.specs.declared.trial.ActionEnd.TheVariants as taken
use Rattle.otp_try_pages.specs.Orders.{first_word, is_child_verb, is_down, number_in, order_in, own_part, path_part, rest_of}
use Rattle.otp_try.specs.Fate.{awaits_text, fate_of}
use Rattle.otp_try.specs.declared.remarks.fate.Fate.{Fate}
use Rattle.otp_try.specs.declared.remarks.fate.Fate.TheVariants as fate
use Rattle.otp_script.specs.Faults.{fault_text}
use Rattle.otp_try.specs.declared.play.TryEnd.{TryEnd}
use Rattle.otp_try.specs.declared.play.TryEnd.TheVariants as end

-- when an order was given, in seconds, and its word
unfoldable pub order_head : List ℕ → List ℕ → List ℕ
order_head line verb = key_text (codes "{") (codes "seconds") ++ first_word line ++ text_member (codes ", ") (codes "order") verb

-- an order for the process of a child: of which, and its number
unfoldable pub child_object : List ℕ → List ℕ → List ℕ → List ℕ
child_object line verb rest =
    order_head line verb ++ text_member (codes ", ") (codes "child") (first_word rest)
    ++ optional_member (codes ", ") (codes "process") (number_in (rest_of rest)) ++ codes "}"

-- another of the supervisor with this path, and what is told behind the word
unfoldable pub own_object : List ℕ → List ℕ → List ℕ → List ℕ → List ℕ
own_object line verb path rest =
    order_head line verb ++ text_member (codes ", ") (codes "supervisor") (supervisor_path path)
    ++ text_member (codes ", ") (codes "text") rest ++ codes "}"

-- an order, of which this line was told
unfoldable pub order_object : List ℕ → List ℕ
order_object line =
    if is_child_verb (first_word (own_part (order_in line)))
    then child_object line (first_word (own_part (order_in line))) (rest_of (own_part (order_in line)))
    else own_object line (first_word (own_part (order_in line))) (path_part (order_in line)) (rest_of (own_part (order_in line)))

-- since when a child is up again, and how long it was down, in seconds
unfoldable pub down_object : List ℕ → List ℕ → List ℕ
down_object line order =
    key_text (codes "{") (codes "seconds") ++ first_word line ++ text_member (codes ", ") (codes "child") (first_word order)
    ++ key_text (codes ", ") (codes "down") ++ first_word (rest_of (rest_of (rest_of order))) ++ codes "}"

-- the line tells how long a child was down, where that is asked, or else an order
unfoldable pub is_among : Bool → List ℕ → Bool
is_among true line = is_down (order_in line)
is_among false line = not (is_down (order_in line))

unfoldable pub object_of : Bool → List ℕ → List ℕ
object_of true line = down_object line (order_in line)
object_of false line = order_object line

-- a comma, but before the first
unfoldable pub comma_if : Bool → List ℕ
comma_if true = []
comma_if false = codes ", "

unfoldable pub next_object : Bool → Bool → List ℕ → List ℕ
next_object asks_down is_first line = if is_among asks_down line then comma_if is_first ++ object_of asks_down line else []

-- the objects of those, among these lines, that tell how long a child was down; or of the others, which tell orders. The first line has
-- begun so
abbrev pub objects_from : Bool → Bool → List ℕ → List ℕ → List ℕ
objects_from asks_down is_first line [] = []
objects_from asks_down is_first line (byte ∷ bytes) =
    if byte == 10 then next_object asks_down is_first line ++ objects_from asks_down (is_first && not (is_among asks_down line)) [] bytes
    else objects_from asks_down is_first (line ++ byte ∷ []) bytes

unfoldable pub objects_array : Bool → List ℕ → List ℕ
objects_array asks_down told = codes "[" ++ objects_from asks_down true [] told ++ codes "]"

-- what became of a line, in words
unfoldable pub result_text : ActionEnd → List ℕ
result_text taken.Done = codes "done"
result_text taken = taken_text taken

-- a line that was played: its number and text, what became of it, the orders that followed, and which children were up again
unfoldable pub line_object : Played → List ℕ
line_object one =
    number_member (codes "{") (codes "line") one.number ++ text_member (codes ", ") (codes "text") one.line.items
    ++ text_member (codes ", ") (codes "result") (result_text one.outcome.taken)
    ++ key_text (codes ", ") (codes "orders") ++ objects_array false one.told.items
    ++ key_text (codes ", ") (codes "down") ++ objects_array true one.told.items ++ codes "}"

abbrev pub lines_text : Bool → List Played → List ℕ
lines_text is_first [] = []
lines_text is_first (one ∷ lines) = comma_if is_first ++ line_object one ++ lines_text false lines

unfoldable pub bool_member : List ℕ → Bool → List ℕ
bool_member key value = key_text (codes ", ") key ++ (if value then codes "true" else codes "false")

-- a time in seconds, or null
unfoldable pub seconds_member : List ℕ → Option ℕ → List ℕ
seconds_member key None = key_text (codes ", ") key ++ codes "null"
seconds_member key (Some time) = key_text (codes ", ") key ++ seconds_text time

-- when a supervisor last gave up, if it did
unfoldable pub time_after_if : Strain → Option ℕ
time_after_if strain = if strain.times == 0 then None else Some strain.last

-- how often it gave up, when last, and when first it may have by a clock of whole seconds, where this one lets it run
unfoldable pub fate_members : Strain → List ℕ
fate_members strain =
    number_member (codes ", ") (codes "gave_up") strain.times ++ seconds_member (codes "last") (time_after_if strain)
    ++ seconds_member (codes "otp_gives_up") strain.apart

-- how many restarts lay in its period at once, and how many there may be
unfoldable pub limit_members : SupFlags → Strain → List ℕ
limit_members flags strain =
    number_member (codes ", ") (codes "most") strain.most ++ number_member (codes ", ") (codes "intensity") flags.intensity
    ++ number_member (codes ", ") (codes "period") flags.period

-- a text, or null where it is empty
unfoldable pub text_if : List ℕ → List ℕ → List ℕ
text_if key [] = key_text (codes ", ") key ++ codes "null"
text_if key (byte ∷ text) = text_member (codes ", ") key (byte ∷ text)

-- what came of a supervisor, in a word
unfoldable pub fate_word : Fate → List ℕ
fate_word fate.GaveUp = codes "gave up"
fate_word fate.Ended = codes "ended"
fate_word fate.Survived = codes "survived"
fate_word fate.Lasted = codes "never gave up"
fate_word (fate.Asked time) = codes "asked to stop"
fate_word (fate.GivesUp time) = codes "has given up"
fate_word fate.Undecided = codes "not decided"

-- the same, if something was played
abbrev pub fate_if : Bool → Fate → List ℕ
fate_if true fate = fate_word fate
fate_if false fate = []

-- since when it is on its way to its end, if it is
unfoldable pub fate_since : Fate → Option ℕ
fate_since (fate.Asked time) = Some time
fate_since (fate.GivesUp time) = Some time
fate_since fate = None

-- what came of it, since when it is on its way to its end, and what it awaits
unfoldable pub verdict_members : Bool → Fate → List ℕ → List ℕ
verdict_members is_played fate awaits =
    text_if (codes "fate") (fate_if is_played fate) ++ seconds_member (codes "since") (fate_since fate) ++ text_if (codes "awaits") awaits

-- what a supervisor awaits, if it has a process
abbrev pub awaits_of : Bool → Seated → List ℕ
awaits_of true seat = awaits_text seat.path (state_in seat).rows
awaits_of false seat = []

-- how a supervisor stands in the end, which has a process or not, and how it came through the run
unfoldable pub supervisor_object : Bool → Bool → Seated → Bool → List ℕ
supervisor_object is_played is_root seat is_running =
    text_member (codes "{") (codes "path") (supervisor_path seat.path)
    ++ bool_member (codes "runs") (is_running && not (is_over (state_in seat).phase))
    ++ verdict_members is_played (fate_of is_root is_running seat) (awaits_of is_running seat)
    ++ fate_members seat.strain ++ limit_members seat.base.flags seat.strain ++ codes "}"

unfoldable pub supervisors_text : Bool → Bool → List ℕ → List Seated → List Bool → List ℕ
supervisors_text is_played is_root front [] running = []
supervisors_text is_played is_root front (seat ∷ seats) [] = []
supervisors_text is_played is_root front (seat ∷ seats) (is_running ∷ running) =
    front ++ supervisor_object is_played is_root seat is_running ++ supervisors_text is_played false (codes ", ") seats running

-- something was played in a run that ended so
unfoldable pub is_played : TryEnd → Bool
is_played end.NothingPlayed = false
is_played _ = true

-- how the run ended, and for which line
unfoldable pub end_word : TryEnd → List ℕ
end_word end.Done = codes "done"
end_word (end.ExpectationFailed _) = codes "unmet"
end_word (end.LineRefused _ _) = codes "refused"
end_word (end.LineMissed _ _ _) = codes "missed"
end_word (end.LeftOut _ _ _) = codes "missed"
end_word end.NothingPlayed = codes "nothing"
end_word end.HistoryFull = codes "stopped"
end_word end.InputFailed = codes "stopped"
end_word end.OutputFailed = codes "stopped"
end_word end.OutOfMemory = codes "stopped"

unfoldable pub end_line : TryEnd → Option ℕ
end_line end.Done = None
end_line (end.ExpectationFailed line) = Some line
end_line (end.LineRefused line _) = Some line
end_line (end.LineMissed line _ _) = Some line
end_line (end.LeftOut line _ _) = Some line
end_line end.NothingPlayed = None
end_line end.HistoryFull = None
end_line end.InputFailed = None
end_line end.OutputFailed = None
end_line end.OutOfMemory = None

-- why it did, in words; nothing where it isn't for a line
unfoldable pub end_why : TryEnd → List ℕ
end_why end.Done = []
end_why (end.ExpectationFailed _) = taken_text taken.Unmet
end_why (end.LineRefused _ why) = fault_text why
end_why (end.LineMissed _ why _) = taken_text why
end_why (end.LeftOut _ why _) = taken_text why
end_why end.NothingPlayed = codes "no line says what happens"
end_why end.HistoryFull = []
end_why end.InputFailed = []
end_why end.OutputFailed = []
end_why end.OutOfMemory = []

unfoldable pub end_members : TryEnd → List ℕ
end_members end =
    text_member (codes "], ") (codes "end") (end_word end) ++ optional_member (codes ", ") (codes "at") (end_line end)
    ++ text_if (codes "why") (end_why end) ++ codes "}\n"

-- the opening, the lines, how the supervisors stand, of which these have a process, and the end
unfoldable pub run_members : Account → List Seated → List Bool → List ℕ
run_members account seats running =
    key_text (codes ", ") (codes "opening") ++ objects_array false account.opening.told.items
    ++ key_text (codes ", ") (codes "lines") ++ codes "[" ++ lines_text true account.lines.items
    ++ key_text (codes "], ") (codes "supervisors") ++ codes "[" ++ supervisors_text (is_played account.end) true [] seats running
    ++ end_members account.end

-- a run is told so behind the front of its object; the root has a process
abbrev pub TellsBehind : List ℕ → Account → List ℕ → Type 0
TellsBehind front account text = (others : List Bool) × (text ≡ front ++ run_members account account.trial.seats (true ∷ others))

-- the whole: the file, and the run
unfoldable pub file_front : List ℕ → List ℕ
file_front name = text_member (codes "{") (codes "file") name

abbrev pub TellsRun : List ℕ → Account → List ℕ → Type 0
TellsRun name account text = TellsBehind (file_front name) account text
