-- How full the periods of supervisors were in a run, as a picture with time to scale (own).
use Rattle.std.specs.Prelude.{ℕ, ◌+◌, ◌-◌, ◌*◌, ◌/◌, ◌^◌, ◌==◌, Bool, true, false, not, ◌&&◌, ◌||◌, List, [], ◌∷◌, ◌++◌, Option, Some, None, codes, decimal, max, min, nat_lt, slice_get, if◌then◌else◌}
use Rattle.std.specs.List.{list_any}
use Rattle.std.specs.Str.{bytes_eq}
use Rattle.otp_try.specs.declared.account.account.Played.{Played}
use Rattle.otp_pages.specs.Markup.{element, number_element}
use Rattle.otp_costs.specs.Falls.{supervisor_path}
use Rattle.otp_spec.specs.declared.flags.SupFlags.{SupFlags}
use Rattle.otp_trial.specs.declared.story.strain.Strain.{Strain}
use Rattle.otp_text.specs.Seconds.{seconds_text}
use Rattle.otp_text.specs.declared.timeline.moment.Standing.{Standing}
use Rattle.otp_trial.specs.Played.{Seated}
use Rattle.otp_try_pages.specs.Names.{verb_in}
use Rattle.otp_try_pages.specs.Orders.{first_word, order_in, own_part, path_part, rest_of}
use Rattle.otp_try_pages.specs.Scale.{next_count, percent, slot_of}
use Rattle.otp_try_pages.specs.Tracks.{axis_html, grid_html, time_in}

-- how many restarts lay in the period of a supervisor; one that doesn't run has none
unfoldable pub used_of : Standing → ℕ
used_of standing = if standing.is_over then 0 else standing.restarts

unfoldable pub used_in : Option Standing → ℕ
used_in None = 0
used_in (Some standing) = used_of standing

-- the share of the intensity that they are, in hundredths
unfoldable pub share_of : ℕ → ℕ → ℕ
share_of used intensity = min (min used intensity * 100) (2 ^ 64 - 1) / max intensity 1

-- restarts leave the period when it is over, at the latest
unfoldable pub until_of : SupFlags → ℕ → ℕ → ℕ
until_of flags from next = min next (min (from + min (flags.period * 1000) (2 ^ 64 - 1)) (2 ^ 64 - 1))

-- a full period is marked: the next restart in it is one too many
unfoldable pub step_class : ℕ → ℕ → List ℕ
step_class used intensity = if nat_lt used intensity then codes "<rect class=\"used\" x=\"" else codes "<rect class=\"full\" x=\""

unfoldable pub step_place : ℕ → ℕ → List ℕ
step_place from width = percent from ++ codes "%\" width=\"" ++ percent width

unfoldable pub step_height : ℕ → List ℕ
step_height share = number_element (codes "%\" y=\"") (100 - share) [] ++ number_element (codes "%\" height=\"") share (codes "%\"><title>")

unfoldable pub step_words : ℕ → ℕ → ℕ → List ℕ
step_words used intensity time = decimal used ++ codes "/" ++ decimal intensity ++ codes " at " ++ seconds_text time ++ codes " s</title></rect>\n"

-- a step: so many restarts from this time on, at this place and of this width
unfoldable pub step_html : SupFlags → ℕ → ℕ → ℕ → ℕ → List ℕ
step_html flags used time from width =
    step_class used flags.intensity ++ step_place from width ++ step_height (share_of used flags.intensity)
    ++ step_words used flags.intensity time

-- a step to the next line; without restarts, or shorter than a thousandth of the run, it isn't drawn
unfoldable pub step_to : ℕ → SupFlags → ℕ → ℕ → ℕ → List ℕ
step_to last flags used time next =
    if nat_lt 0 used && nat_lt (slot_of last time) (slot_of last (until_of flags time next)) then
    step_html flags used time (slot_of last time) (slot_of last (until_of flags time next) - slot_of last time)
    else []

-- the step of the last line, at the end of the run
unfoldable pub step_last : ℕ → SupFlags → ℕ → ℕ → List ℕ
step_last last flags used time = if nat_lt 0 used then step_html flags used time (slot_of last time) 4 else []

-- the steps of the supervisor at this place, of whose period so many restarts were used at this time
abbrev pub steps_from : ℕ → SupFlags → ℕ → ℕ → ℕ → List Played → List ℕ
steps_from last flags place used time [] = step_last last flags used time
steps_from last flags place used time (one ∷ lines) =
    step_to last flags used time one.moment.time
    ++ steps_from last flags place (used_in (slice_get one.moment.standings place)) one.moment.time lines

-- a line that tells that the supervisor of this path gave up: `end shutdown: more than 1 restart within 10 s: at 1.000 s, 2.000 s`
unfoldable pub is_fall : List ℕ → List ℕ → Bool
is_fall path line =
    bytes_eq (verb_in line) (codes "end") && bytes_eq (path_part (order_in line)) path
    && bytes_eq (first_word (rest_of (rest_of (own_part (order_in line))))) (codes "more")

unfoldable pub fall_html : ℕ → List ℕ → List ℕ
fall_html slot line =
    codes "<rect class=\"fall\" x=\"" ++ percent slot ++ element (codes "%\" width=\"3\" height=\"100%\"><title>") line (codes "</title></rect>\n")

-- the place behind the last at which it gave up
unfoldable pub fallen_then : ℕ → List ℕ → ℕ → List ℕ → ℕ
fallen_then last path fallen line = if is_fall path line then next_count (slot_of last (time_in line)) else fallen

-- of those at one place the first is marked
unfoldable pub fall_if : ℕ → List ℕ → ℕ → List ℕ → List ℕ
fall_if last path fallen line =
    if is_fall path line && not (next_count (slot_of last (time_in line)) == fallen) then fall_html (slot_of last (time_in line)) line else []

abbrev pub falls_from : ℕ → List ℕ → ℕ → List ℕ → List ℕ → List ℕ
falls_from last path fallen line [] = []
falls_from last path fallen line (byte ∷ bytes) =
    if byte == 10 then fall_if last path fallen line ++ falls_from last path (fallen_then last path fallen line) [] bytes
    else falls_from last path fallen (line ++ byte ∷ []) bytes

-- whose picture it is, and how it came through
unfoldable pub gave_up_words : ℕ → List ℕ
gave_up_words times = if times == 0 then [] else codes ", gave up: " ++ decimal times

unfoldable pub within_words : SupFlags → Strain → List ℕ
within_words flags strain =
    number_element (codes "at most ") strain.most (codes "/") ++ number_element [] flags.intensity (codes " restarts within ")
    ++ number_element [] flags.period (codes " s")

unfoldable pub window_title : List ℕ → SupFlags → Strain → List ℕ
window_title path flags strain =
    element (codes "<p><code>") (supervisor_path path) (codes "</code> <small>") ++ within_words flags strain ++ gave_up_words strain.times
    ++ codes "</small></p>\n"

unfoldable pub window_opening : List ℕ → List ℕ
window_opening path =
    element (codes "<svg class=\"window\" role=\"img\" aria-label=\"restarts in the period of ") (supervisor_path path) (codes "\">\n")

unfoldable pub window_html : ℕ → Seated → ℕ → List Played → List ℕ → List ℕ
window_html last seat place lines told =
    window_title seat.path seat.base.flags seat.strain ++ window_opening seat.path ++ grid_html
    ++ steps_from last seat.base.flags place 0 0 lines ++ falls_from last seat.path 0 [] told ++ codes "</svg>\n"

-- a supervisor that restarted none has none
unfoldable pub window_if : ℕ → Seated → ℕ → List Played → List ℕ → List ℕ
window_if last seat place lines told = if seat.strain.most == 0 then [] else window_html last seat place lines told

abbrev pub windows_from : ℕ → ℕ → List Seated → List Played → List ℕ → List ℕ
windows_from last place [] lines told = []
windows_from last place (seat ∷ seats) lines told =
    window_if last seat place lines told ++ windows_from last (next_count place) seats lines told

unfoldable pub windows_legend : List ℕ
windows_legend = codes "<p class=\"legend\">How full each supervisor's period was: a step from each line of the script to the next, at most as long as the period, as high as the share of its intensity that was used. <b class=\"full\">|</b> Full: the next restart is one too many. <b class=\"crash\">|</b> It gave up.</p>\n"

-- those of supervisors that restarted some, if there are some
unfoldable pub has_restarted : Seated → Bool
has_restarted seat = not (seat.strain.most == 0)

unfoldable pub windows_html : ℕ → List Seated → List Played → List ℕ → List ℕ
windows_html last seats lines told =
    if list_any has_restarted seats then windows_legend ++ axis_html last ++ windows_from last 0 seats lines told else []
