-- The longest stop of a tree as it is told (own).
use Rattle.std.specs.Prelude.{◌≡◌, ℕ, ◌-◌, Bool, true, false, List, [], ◌∷◌, ◌++◌, Option, Some, None, codes, decimal, nat_le, if◌then◌else◌}
use Rattle.otp_file.specs.Trees.{Tree}
use Rattle.otp_spec.specs.declared.child.Shutdown.{Shutdown}
use Rattle.otp_spec.specs.declared.child.Shutdown.TheVariants.{BrutalKill, Milliseconds, Infinity}
use Rattle.otp_text.specs.Seconds.{seconds_text}
use Rattle.otp_shutdown.specs.Columns.{at_left, at_right, clip}
use Rattle.otp_shutdown.specs.Stops.{AreStops, count_endless, first_endless, later, sum_from}
use Rattle.otp_shutdown.specs.declared.stop.Stop.{Stop}

-- a time in seconds, or a word where there is none
unfoldable pub time_text : List ℕ → Option ℕ → List ℕ
time_text word None = word
time_text word (Some time) = seconds_text time ++ codes " s"

-- how a child is stopped, as its specification says
unfoldable pub shutdown_text : Shutdown → List ℕ
shutdown_text BrutalKill = codes "brutal_kill"
shutdown_text (Milliseconds count) = decimal count ++ codes " ms"
shutdown_text Infinity = codes "infinity"

-- the child, or all dynamic ones
unfoldable pub name_text : Bool → List ℕ → List ℕ
name_text false name = clip 35 name
name_text true name = clip 22 name ++ codes ", all at once"

-- until when the stop may take that begins at this time at the latest
unfoldable pub until_text : Option ℕ → Shutdown → List ℕ
until_text from Infinity = codes "no limit"
until_text from shutdown = time_text (codes "-") (later from shutdown)

-- the line of a stop that begins at this time at the latest
unfoldable pub line_text : Option ℕ → Stop → List ℕ
line_text from stop =
    at_right 14 (time_text (codes "-") from) ++ at_right 14 (until_text from stop.shutdown)
    ++ codes "  " ++ at_left 13 (shutdown_text stop.shutdown) ++ codes "  " ++ name_text stop.is_shared stop.name ++ codes "\n"

abbrev pub lines_text : Option ℕ → List Stop → List ℕ
lines_text from [] = []
lines_text from (stop ∷ stops) = line_text from stop ++ lines_text (later from stop.shutdown) stops

-- how many more there are than one
unfoldable pub more_text : ℕ → List ℕ
more_text count = if nat_le count 1 then [] else codes " and " ++ decimal (count - 1) ++ codes " more"

-- how long it takes in all
unfoldable pub total_text : ℕ → List ℕ
total_text total = codes "the longest stop takes " ++ seconds_text total ++ codes " s\n"

-- a child has no limit, and so many have none
unfoldable pub no_limit_text : List ℕ → ℕ → List ℕ
no_limit_text name count = codes "  no limit  " ++ clip 50 name ++ more_text count ++ codes "\n"

-- how long the others take
unfoldable pub others_text : ℕ → List ℕ
others_text total = codes "  others    " ++ seconds_text total ++ codes " s\n"

unfoldable pub for_ever_text : List ℕ
for_ever_text = codes "the longest stop may take for ever\n"

unfoldable pub endless_text : List ℕ → ℕ → ℕ → List ℕ
endless_text name count total = for_ever_text ++ no_limit_text name count ++ others_text total

unfoldable pub head_text : Option Stop → ℕ → ℕ → List ℕ
head_text None count total = total_text total
head_text (Some stop) count total = endless_text stop.name count total

unfoldable pub titles : List ℕ
titles = codes "          from         until  shutdown       child, in the order of the stops\n"

abbrev pub is_none : List Stop → Bool
is_none [] = true
is_none (stop ∷ stops) = false

-- a line for each stop, if there is one
unfoldable pub table_if : Bool → List Stop → List ℕ
table_if true stops = []
table_if false stops = titles ++ lines_text (Some 0) stops

abbrev pub table_text : List Stop → List ℕ
table_text stops = table_if (is_none stops) stops

-- the whole
unfoldable pub all_text : List Stop → List ℕ
all_text stops = head_text (first_endless stops) (count_endless stops) (sum_from 0 stops) ++ table_text stops

-- the longest stop of a tree was told
abbrev pub TellsStops : Tree → List ℕ → List ℕ → Type 0
TellsStops tree before after = (stops : List Stop) × (AreStops tree stops × (after ≡ before ++ all_text stops))
