-- What is told of a run: each order as a line, at the time at which it was given, with the path of its supervisor (own).
use Rattle.std.specs.Prelude.{ℕ, ◌==◌, ◌-◌, get_or, length, nat_le, nat_lt, take, Bool, true, false, not, ◌||◌, List, [], ◌∷◌, ◌++◌, Option, Some, None, codes, decimal, if◌then◌else◌}
use Rattle.std.specs.List.{flat_map}
use Rattle.otp_reason.specs.declared.name.Name.{Name}
use Rattle.otp_reason.specs.Names.{name_bytes}
use Rattle.otp_rules.specs.declared.call.Answered.{Answered}
use Rattle.otp_rules.specs.declared.ending.Cause.{Cause}
use Rattle.otp_rules.specs.declared.ending.Cause.TheVariants as cause
use Rattle.otp_rules.specs.declared.ending.SupEnd.{SupEnd}
use Rattle.otp_rules.specs.declared.event.Effect.{Effect}
use Rattle.otp_rules.specs.declared.event.Effect.TheVariants as effect
use Rattle.otp_rules.specs.declared.event.Event.{Event}
use Rattle.otp_rules.specs.Run.{reply_of}
use Rattle.otp_rules.specs.State.{State}
use Rattle.otp_rules.specs.Step.{step}
use Rattle.otp_spec.specs.declared.flags.SupFlags.{SupFlags}
use Rattle.otp_text.specs.Effects.{effect_line}
use Rattle.otp_text.specs.Values.{child_name_text, process_text, reason_text}
use Rattle.otp_trial.specs.declared.story.time.TheConstants.{MOST_TIMES}
use Rattle.otp_trial.specs.Aways.{back_by, presence_of}
use Rattle.otp_trial.specs.Starts.{start_of}
use Rattle.otp_trial.specs.declared.story.away.Away.{Away}
use Rattle.otp_trial.specs.declared.story.starts.Started.{Started}
use Rattle.otp_text.specs.Seconds.{seconds_text}

-- a time in milliseconds, written in seconds
unfoldable pub time_text : ℕ → List ℕ
time_text time = seconds_text time ++ codes " s"

-- a time after a comma
unfoldable pub next_time_text : ℕ → List ℕ
next_time_text time = codes ", " ++ time_text time

-- times with commas between
unfoldable pub times_text : List ℕ → List ℕ
times_text [] = []
times_text (time ∷ times) = time_text time ++ flat_map next_time_text times

-- of many times the first three and the last are written
unfoldable pub cut_times_text : List ℕ → List ℕ
cut_times_text times = times_text (take 3 times) ++ codes ", .." ++ next_time_text (get_or times (length times - 1) 0)

-- times with commas between, where they are many the first and the last of them
unfoldable pub few_times_text : List ℕ → List ℕ
few_times_text times = if nat_le (length times) MOST_TIMES then times_text times else cut_times_text times

-- a number after a word
unfoldable pub number_after : List ℕ → ℕ → List ℕ
number_after before number = before ++ decimal number

-- the word behind a number of restarts
unfoldable pub restarts_word : ℕ → List ℕ
restarts_word n = if n == 1 then codes " restart" else codes " restarts"

-- the intensity and the period in seconds
unfoldable pub limit_text : SupFlags → List ℕ
limit_text flags =
    number_after (codes "more than ") flags.intensity ++ restarts_word flags.intensity ++ number_after (codes " within ") flags.period

-- more restarts than the intensity within the period, and when they were
unfoldable pub restarts_text : SupFlags → List ℕ → List ℕ
restarts_text flags stamps = limit_text flags ++ codes " s: at " ++ few_times_text stamps

-- a child with its path; one without an id by the number of its process
unfoldable pub id_text : List ℕ → Option Name → ℕ → List ℕ
id_text path None process = process_text process
id_text path (Some id) process = path ++ name_bytes id

-- the child for which a process was started
unfoldable pub started_text : List ℕ → Option Started → ℕ → List ℕ
started_text path None process = process_text process
started_text path (Some started) process = id_text path started.id process

-- the child for which a process was started, between two words
unfoldable pub started_between : List ℕ → List ℕ → Option Started → ℕ → List ℕ → List ℕ
started_between before path started process after = before ++ started_text path started process ++ after

-- which significant child of the supervisor with this path ended, by the starts before
unfoldable pub significant_text : List ℕ → List Started → ℕ → List ℕ
significant_text path starts process =
    started_between (codes "significant child ") path (start_of starts process) process (codes " ended")

-- why a supervisor ends (Supervisor Behaviour, Maximum Restart Intensity and Automatic Shutdown)
unfoldable pub cause_text : List ℕ → List Started → Cause → List ℕ
cause_text path starts (cause.Intensity flags stamps) = restarts_text flags stamps
cause_text path starts (cause.Significant process) = significant_text path starts process
cause_text path starts cause.Asked = codes "asked to stop"
cause_text path starts (cause.InitFailed id) = codes "child " ++ name_bytes id ++ codes " did not start"

-- what an order asks of a child: behind the word stands the path of its supervisor, which is empty for the root's
unfoldable pub child_order : List ℕ → List ℕ → Option Name → ℕ → List ℕ
child_order word path name number = word ++ path ++ child_name_text name ++ codes " " ++ process_text number ++ codes "\n"

-- what stands in front of an order that names no child: the path of its supervisor, if that is not the root
unfoldable pub heading : List ℕ → List ℕ
heading [] = []
heading (byte ∷ bytes) = (byte ∷ bytes) ++ codes " "

-- a supervisor ends: for which reason, and why
unfoldable pub end_text : List ℕ → List Started → SupEnd → List ℕ
end_text path starts end = codes "end " ++ reason_text end.reason ++ codes ": " ++ cause_text path starts end.cause ++ codes "\n"

-- an order of the supervisor with this path, as it is told: the root's are the lines that `sim` prints, and of an end
-- also why
unfoldable pub order_text : List ℕ → List Started → Effect → List Answered → List ℕ
order_text path starts (effect.Start id number) replies = child_order (codes "start ") path id number
order_text path starts (effect.Ask id number) replies = child_order (codes "ask ") path id number
order_text path starts (effect.Kill id number) replies = child_order (codes "kill ") path id number
order_text path starts (effect.Reply call) replies = heading path ++ effect_line (effect.Reply call) (reply_of call replies)
order_text path starts effect.Ready replies = heading path ++ codes "ready\n"
order_text path starts (effect.End end) replies = heading path ++ end_text path starts end

-- the line of an order that was given at this time
unfoldable pub told_line : ℕ → List ℕ → List Started → List Answered → Effect → List ℕ
told_line time path starts replies order = time_text time ++ codes "  " ++ order_text path starts order replies

-- a supervisor ends since it was asked to
unfoldable pub is_asked : Cause → Bool
is_asked (cause.Intensity _ _) = false
is_asked (cause.Significant _) = false
is_asked cause.Asked = true
is_asked (cause.InitFailed _) = false

-- the end of a supervisor is told by itself: that of the root always, and that of another unless its parent asked for it
unfoldable pub is_news : List ℕ → Cause → Bool
is_news [] why = true
is_news (byte ∷ bytes) why = not (is_asked why)

-- whether an order is told: of a supervisor that is told all are, and of another its end alone, if it is told by itself
unfoldable pub is_told : Bool → List ℕ → Effect → Bool
is_told tells path (effect.Start _ _) = tells
is_told tells path (effect.Ask _ _) = tells
is_told tells path (effect.Kill _ _) = tells
is_told tells path (effect.Reply _) = tells
is_told tells path effect.Ready = tells
is_told tells path (effect.End end) = tells || is_news path end.cause

-- the line of an order that was given at this time, if it is told
unfoldable pub line_if : Bool → ℕ → List ℕ → List Started → List Answered → Effect → List ℕ
line_if tells time path starts replies order = if is_told tells path order then told_line time path starts replies order else []

-- the lines of those orders that are told, which were given at this time
unfoldable pub told_lines : Bool → ℕ → List ℕ → List Started → List Answered → List Effect → List ℕ
told_lines tells time path starts replies orders = flat_map (line_if tells time path starts replies) orders

-- how long it was away, of the supervisor with this path
unfoldable pub down_line : ℕ → List ℕ → Away → List ℕ
down_line now path away =
    time_text now ++ codes "  " ++ path ++ name_bytes away.id ++ codes " was down " ++ time_text (now - away.since) ++ codes "\n"

-- how long it was away, if it was for any time
unfoldable pub down_text : ℕ → List ℕ → Option Away → List ℕ
down_text now path None = []
down_text now path (Some away) = if nat_lt away.since now then down_line now path away else []

-- how long it was away, if it was and that is told
unfoldable pub down_told : Bool → ℕ → List ℕ → Option Away → List ℕ
down_told true now path away = down_text now path away
down_told false now path away = []

-- how long the child was down that is up by an event, and the lines of those of the event's orders that are told: at its reading of the
-- clock, with the answers as they are then, by the starts before it, and where these children were away
unfoldable pub event_text : Bool → List ℕ → List Started → List Away → State → Event → List ℕ
event_text tells path starts aways s e =
    down_told tells e.reading path (back_by (presence_of s.rows e.kind) aways)
    ++ told_lines tells e.reading path starts (step s e).state.replies (step s e).orders
