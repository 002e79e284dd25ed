-- What the failure of some children costs, as a row of a page (own).
use Rattle.std.specs.Prelude.{ℕ, ◌==◌, min, List, [], ◌++◌, codes, decimal, length, nat_le, if◌then◌else◌}
use Rattle.otp_costs.specs.Groups.{below}
use Rattle.otp_costs.specs.Table.{root_text}
use Rattle.otp_costs.specs.Words.{burst_text, gone_text, interval_text}
use Rattle.otp_costs.specs.declared.rows.Row.{Row}
use Rattle.otp_pages.specs.Markup.{element}
use Rattle.otp_costs.specs.Falls.{supervisor_path}
use Rattle.otp_costs.specs.declared.limits.fate.Fate.{Fate}
use Rattle.otp_costs.specs.declared.limits.fate.Fate.TheVariants as fate
use Rattle.otp_reason.specs.declared.name.Name.{Name}
use Rattle.otp_pages.specs.Names.{names_html, path_html, paths_html}
use Rattle.otp_pages.specs.declared.fates.TheConstants.{FULL}

-- the bar of a child that is gone after so many crashes: one that never ran has none
unfoldable pub full_unless : ℕ → ℕ
full_unless count = if count == 0 then 0 else FULL

-- how long the bar of a burst is
unfoldable pub bar_of : Fate → ℕ
bar_of fate.Survived = FULL
bar_of (fate.Ended count) = min count FULL
bar_of (fate.Gone count) = full_unless count

-- the beginning of a bar, in front of what it says in words
unfoldable pub bar_opening : List ℕ
bar_opening = codes "<svg class=\"bar\" viewBox=\"0 0 20 2\" preserveAspectRatio=\"none\" role=\"img\" aria-label=\"crashes survived: "

-- its ground, in front of its length
unfoldable pub bar_ground : List ℕ
bar_ground = codes "\"><rect class=\"all\" width=\"20\" height=\"2\"></rect><rect width=\""

-- how many crashes at once are survived
unfoldable pub bar_html : Fate → List ℕ
bar_html burst = bar_opening ++ burst_text burst ++ bar_ground ++ decimal (bar_of burst) ++ codes "\" height=\"2\"></rect></svg>"

-- how many crashes at once are survived
unfoldable pub burst_cell : Fate → List ℕ
burst_cell burst = codes "<td class=\"n\">" ++ bar_html burst ++ burst_text burst ++ codes "</td>\n"

-- how far apart crashes must be
unfoldable pub interval_cell : Row → List ℕ
interval_cell row = codes "<td class=\"n\">" ++ interval_text row.own.burst row.own.steady ++ codes "</td>\n"

-- the same, and by the clock of OTP
unfoldable pub clock_cell : Row → List ℕ
clock_cell row = interval_cell row ++ codes "<td class=\"n\">" ++ interval_text row.own.burst row.own.seconds ++ codes "</td>\n"

-- who gives up after a burst
unfoldable pub gives_up_html : List ℕ → Fate → List ℕ
gives_up_html path fate.Survived = codes "<small>nobody</small>"
gives_up_html path (fate.Ended _) = path_html (supervisor_path path)
gives_up_html path (fate.Gone count) = gone_text count (codes "<small>isn't up</small>") (codes "<small>nobody</small>")

unfoldable pub giver_cell : Row → List ℕ
giver_cell row = codes "<td>" ++ gives_up_html row.path row.own.burst ++ codes "</td>\n"

-- how many crashes at once the root survives, and through whom it goes down
unfoldable pub root_cell : Row → List ℕ
root_cell row = codes "<td>" ++ root_text row.root ++ paths_html row.ends ++ codes "</td></tr>\n"

-- for which children a row stands, if for more than one
unfoldable pub alike_html : Row → List ℕ
alike_html row =
    if nat_le (length row.names) 1 then []
    else codes "<small>" ++ decimal (length row.names) ++ codes " alike: " ++ names_html row.path row.names ++ codes "</small>"

unfoldable pub child_cell : Row → List ℕ
child_cell row = element (codes "<tr><th scope=\"row\"><code>") (below row.path row.own.id) (codes "</code>") ++ alike_html row ++ codes "</th>\n"

-- how many processes some children are with those below, where there are some below
unfoldable pub count_html : ℕ → ℕ → List ℕ
count_html children processes =
    if nat_le processes children then [] else codes "<small>" ++ decimal processes ++ codes " with those below</small>"

-- these children
unfoldable pub affected_cell : List ℕ → List Name → ℕ → List ℕ
affected_cell path names processes = codes "<td>" ++ names_html path names ++ count_html (length names) processes ++ codes "</td>\n"

-- what a crash stops and starts again
unfoldable pub affected_cells : Row → List ℕ
affected_cells row = affected_cell row.path row.own.stops row.stopped ++ affected_cell row.path row.own.starts row.started

unfoldable pub row_html : Row → List ℕ
row_html row = child_cell row ++ burst_cell row.own.burst ++ clock_cell row ++ affected_cells row ++ giver_cell row ++ root_cell row
