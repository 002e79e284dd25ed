-- A run of a script, as a page (own).
use Rattle.std.specs.Prelude.{◌≡◌, Bool, true, ℕ, ◌-◌, ◌^◌, ◌==◌, List, [], ◌∷◌, ◌++◌, codes, decimal, if◌then◌else◌}
use Rattle.std.specs.List.{flat_map}
use Rattle.otp_try.specs.declared.account.account.Account.{Account}
use Rattle.otp_try.specs.declared.account.account.Played.{Played}
use Rattle.otp_pages.specs.Frame.{foot_text, head_text}
use Rattle.otp_pages.specs.Markup.{element}
use Rattle.otp_costs.specs.Falls.{supervisor_path}
use Rattle.otp_pages.specs.Trees.{limit_words}
use Rattle.otp_spec.specs.Words.{strategy_word}
use Rattle.otp_spec.specs.declared.flags.SupFlags.{SupFlags}
use Rattle.otp_text.specs.Seconds.{seconds_text}
use Rattle.otp_trial.specs.Played.{Seated}
use Rattle.otp_trial.specs.Taken.{taken_text}
use Rattle.otp_trial.specs.declared.story.strain.Strain.{Strain}
use Rattle.otp_trial.specs.declared.trial.ActionEnd.{ActionEnd}
use Rattle.otp_trial.specs.declared.trial.ActionEnd.TheVariants as taken
use Rattle.otp_try.specs.Verdict.{whole_verdict}
use Rattle.otp_try_pages.specs.Cells.{cells_html, greatest}
use Rattle.otp_try_pages.specs.Names.{all_told, names_from}
use Rattle.otp_try_pages.specs.Objects.{is_played}
use Rattle.otp_try_pages.specs.Orders.{is_down, is_end, order_in}
use Rattle.otp_try_pages.specs.Tracks.{picture_html}
use Rattle.otp_try_pages.specs.Windows.{windows_html}

-- how a supervisor restarts its children, with which the title of its column ends
unfoldable pub title_words : SupFlags → List ℕ
title_words flags = strategy_word flags.strategy ++ codes ", " ++ limit_words flags ++ codes "</small></th>\n"

-- the title of a supervisor's column: its path, and how it restarts its children
unfoldable pub title_cell : Seated → List ℕ
title_cell seat =
    element (codes "<th scope=\"col\"><code>") (supervisor_path seat.path) (codes "</code><small>") ++ title_words seat.base.flags

unfoldable pub titles_opening : List ℕ
titles_opening = codes "<table>\n<thead><tr><th scope=\"col\">seconds</th><th scope=\"col\">line of the script</th>\n"

unfoldable pub titles_html : List Seated → List ℕ
titles_html seats = titles_opening ++ flat_map title_cell seats ++ codes "</tr></thead>\n<tbody>\n"

-- how a supervisor came through the run
unfoldable pub give_ups_html : Strain → List ℕ
give_ups_html strain = if strain.times == 0 then [] else codes "<span class=\"end\">gave up: " ++ decimal strain.times ++ codes "</span>"

unfoldable pub most_html : ℕ → Strain → List ℕ
most_html intensity strain = codes "<td>at most " ++ decimal strain.most ++ codes "/" ++ decimal intensity

unfoldable pub sum_cell : Seated → List ℕ
sum_cell seat = most_html seat.base.flags.intensity seat.strain ++ codes " restarts" ++ give_ups_html seat.strain ++ codes "</td>\n"

unfoldable pub sums_opening : List ℕ
sums_opening = codes "</tbody>\n<tfoot><tr><th scope=\"row\" colspan=\"2\">in the whole run</th>\n"

unfoldable pub sums_row : List Seated → List ℕ
sums_row seats = sums_opening ++ flat_map sum_cell seats ++ codes "</tr></tfoot>\n</table>\n</details>\n"

-- a line that tells how long a child was down, or the end of a supervisor
unfoldable pub end_if : List ℕ → List ℕ
end_if line =
    if is_down (order_in line) then element (codes "<small>") line (codes "</small>")
    else if is_end line then element (codes "<span class=\"end\">") line (codes "</span>")
    else []

-- those among lines, the first of which has begun so
abbrev pub ends_from : List ℕ → List ℕ → List ℕ
ends_from line [] = []
ends_from line (byte ∷ bytes) = if byte == 10 then end_if line ++ ends_from [] bytes else ends_from (line ++ byte ∷ []) bytes

-- why a line did nothing, or that it isn't as it expects; nothing of one that was taken
unfoldable pub failed_html : ActionEnd → List ℕ
failed_html taken.Done = []
failed_html why = element (codes "<span class=\"end\">") (taken_text why) (codes "</span>")

-- the number of a line, or that it is the opening
unfoldable pub number_text : ℕ → List ℕ
number_text number = if number == 0 then codes "<td class=\"line\">the opening" else codes "<td class=\"line\">" ++ decimal number ++ codes ": "

-- when it was played
unfoldable pub time_cell : ℕ → List ℕ
time_cell time = codes "<tr><th scope=\"row\" class=\"n\">" ++ seconds_text time ++ codes "</th>\n"

-- its number and text, and what came of it
unfoldable pub line_cell : Played → List ℕ
line_cell one =
    number_text one.number ++ element (codes "<code>") one.line.items (codes "</code>") ++ failed_html one.outcome.taken
    ++ ends_from [] one.told.items ++ codes "</td>\n"

-- the row of a line, before which this was the greatest number of a process
unfoldable pub row_html : ℕ → List Seated → Played → List ℕ
row_html last seats one = time_cell one.moment.time ++ line_cell one ++ cells_html last seats one.moment.standings ++ codes "</tr>\n"

abbrev pub rows_html : ℕ → List Seated → List Played → List ℕ
rows_html last seats [] = []
rows_html last seats (one ∷ lines) = row_html last seats one ++ rows_html (greatest one.moment) seats lines

unfoldable pub timeline_legend : List ℕ
timeline_legend = codes "<details><summary>Line by line</summary>\n<p class=\"legend\">A row for each line of the script, and of each supervisor the children that it changed or that don't run; all others run on. <b class=\"new\">*</b> <span class=\"up\">#N</span>: it was started since the row before, and runs as process N. <span class=\"way\">It is on its way</span>, <span class=\"down\">it has no process</span>. N/M restarts: N of M lie in the period.</p>\n"

-- a line of a verdict
unfoldable pub verdict_line : List ℕ → List ℕ
verdict_line line = element (codes "<p class=\"verdict\">") line (codes "</p>\n")

-- the lines of a verdict, the first of which has begun so
abbrev pub verdict_from : List ℕ → List ℕ → List ℕ
verdict_from line [] = []
verdict_from line (byte ∷ bytes) =
    if byte == 10 then verdict_line line ++ verdict_from [] bytes else verdict_from (line ++ byte ∷ []) bytes

-- when the last of these lines was played
abbrev pub last_time : ℕ → List Played → ℕ
last_time time [] = time
last_time time (one ∷ lines) = last_time one.moment.time lines

-- when each child had a process, and how full the periods of supervisors were, with time to scale
unfoldable pub told_pictures : List Seated → Account → List ℕ → List ℕ
told_pictures seats account told =
    picture_html (last_time account.opening.moment.time account.lines.items) seats account.lines.items (names_from [] [] told) told
    ++ windows_html (last_time account.opening.moment.time account.lines.items) seats account.lines.items told

unfoldable pub pictures : List Seated → Account → List ℕ
pictures seats account = told_pictures seats account (all_told account)

-- line by line: the opening, each line, and how the supervisors came through
unfoldable pub lines_html : List Seated → Account → List ℕ
lines_html seats account =
    timeline_legend ++ titles_html seats ++ row_html 0 seats account.opening
    ++ rows_html (greatest account.opening.moment) seats account.lines.items
    ++ sums_row seats

-- the page of a run of these supervisors with this verdict, whose tree file has this name. At the opening all that run are new.
unfoldable pub timeline_page : List ℕ → List Seated → Account → List ℕ → List ℕ
timeline_page name seats account verdict =
    head_text (codes "A run of") name ++ verdict_from [] verdict ++ pictures seats account ++ lines_html seats account ++ foot_text

-- a page tells a run so; the root has a process
abbrev pub TellsPage : List ℕ → Account → List ℕ → Type 0
TellsPage name account page =
    (others : List Bool)
    × (page ≡ timeline_page name account.trial.seats account (whole_verdict (is_played account.end) account.trial.clock account.trial.seats (true ∷ others)))
