-- A tree as a map, in which each child says what a crash of it takes down (own).
use Rattle.std.specs.Prelude.{ℕ, ◌+◌, ◌&&◌, ◌||◌, Bool, List, [], ◌∷◌, ◌++◌, Option, Some, None, codes, length, nat_le, nat_lt, position, slice_get, if◌then◌else◌}
use Rattle.std.specs.List.{list_any}
use Rattle.std.specs.Ordering.{on}
use Rattle.std.specs.Str.{bytes_eq}
use Rattle.otp_costs.specs.Table.{root_text}
use Rattle.otp_costs.specs.Words.{burst_text}
use Rattle.otp_costs.specs.declared.rows.Row.{Row}
use Rattle.otp_pages.specs.Markup.{element}
use Rattle.otp_costs.specs.declared.limits.fate.Fate.{Fate}
use Rattle.otp_file.specs.Nested.{Written, sub_at}
use Rattle.otp_reason.specs.Names.{name_bytes}
use Rattle.otp_reason.specs.declared.name.Name.{Name}
use Rattle.otp_spec.specs.Words.{restart_word, strategy_word}
use Rattle.otp_spec.specs.declared.child.ChildSpec.{ChildSpec}
use Rattle.otp_spec.specs.declared.child.Restart.{Restart}
use Rattle.otp_spec.specs.declared.flags.SupFlags.{SupFlags}
use Rattle.otp_pages.specs.Costs.{bar_html, count_html, gives_up_html}
use Rattle.otp_pages.specs.Names.{name_html, names_html, paths_html}
use Rattle.otp_pages.specs.Trees.{sub_html}

-- the row of a child whose name stands behind this path, and what stands at a place
abbrev pub is_name : Name → Name → Bool
is_name name other = on name_bytes bytes_eq other name

abbrev pub has_child : List ℕ → Name → Row → Bool
has_child path id row = bytes_eq row.path path && list_any (is_name id) row.names

abbrev pub at_place : {A : Type 0} → List A → Option ℕ → Option A
at_place xs None = None
at_place xs (Some place) = slice_get xs place

abbrev pub row_of : List ℕ → Name → List Row → Option Row
row_of path id rows = at_place rows (position (has_child path id) rows)

-- a child's name, and how many crashes at once are survived: what is clicked
unfoldable pub title_html : Name → List ℕ
title_html id = element (codes "<details name=\"crash\"><summary><code>") (name_bytes id) (codes "</code>")

unfoldable pub summary_html : Name → Fate → List ℕ
summary_html id burst = title_html id ++ bar_html burst ++ codes "</summary>\n"

-- some children, behind a word that says what becomes of them, and how many processes they are
unfoldable pub told_html : List ℕ → List ℕ → List Name → ℕ → List ℕ
told_html front path names processes = front ++ names_html path names ++ count_html (length names) processes ++ codes "</p>\n"

-- that a crash of a child stops all its siblings, so many and as many processes
unfoldable pub all_siblings_html : List Name → ℕ → List ℕ
all_siblings_html stops processes = codes "<p>A crash stops <small>all its siblings</small>" ++ count_html (length stops) processes ++ codes "</p>\n"

-- of children that are alike a crash of each stops all its siblings, if that of the first stops some (a crash stops others under
-- one_for_all alone, where some are alike)
unfoldable pub siblings_html : List Name → ℕ → List ℕ
siblings_html [] processes = codes "<p>A crash stops <small>nothing</small></p>\n"
siblings_html (first ∷ others) processes = all_siblings_html (first ∷ others) processes

unfoldable pub stops_html : Row → List ℕ
stops_html row =
    if nat_le (length row.names) 1 then told_html (codes "<p>A crash stops ") row.path row.own.stops row.stopped
    else siblings_html row.own.stops row.stopped

unfoldable pub again_html : List ℕ → Name → List ℕ
again_html path id = codes "<p>It starts again " ++ name_html path id ++ codes "</p>\n"

-- of children that are alike, whose crashes stop no other, each starts itself again, if the first does
unfoldable pub itself_html : List ℕ → Name → List Name → List ℕ
itself_html path id [] = codes "<p>It starts again <small>nothing</small></p>\n"
itself_html path id (first ∷ others) = again_html path id

unfoldable pub starts_html : Name → Row → List ℕ
starts_html id row =
    if nat_le (length row.names) 1 || nat_lt 0 (length row.own.stops) then told_html (codes "<p>It starts again ") row.path row.own.starts row.started
    else itself_html row.path id row.own.starts

-- how many crashes at once are survived, and who gives up after them
unfoldable pub bears_html : Row → List ℕ
bears_html row = codes "<p>Survived at once: " ++ burst_text row.own.burst ++ codes "; then gives up " ++ gives_up_html row.path row.own.burst ++ codes "</p>\n"

unfoldable pub root_html : Row → List ℕ
root_html row = codes "<p>The root survives " ++ root_text row.root ++ paths_html row.ends ++ codes "</p>\n"

-- what a crash of a child with this row takes down
unfoldable pub crash_html : Name → Row → List ℕ
crash_html id row =
    summary_html id row.own.burst ++ stops_html row ++ starts_html id row ++ bears_html row ++ root_html row ++ codes "</details>\n"

-- the same, if its row is asked for
unfoldable pub known_html : Name → Option Row → List ℕ
known_html id None = element (codes "<code>") (name_bytes id) (codes "</code>\n")
known_html id (Some row) = crash_html id row

-- a child that is restarted, or isn't
unfoldable pub item_opening : Restart → List ℕ
item_opening restart = codes "<li class=\"is_" ++ restart_word restart ++ codes "\">"

unfoldable pub map_child : List Row → List ℕ → ChildSpec → Option (List ℕ) → List ℕ
map_child rows path spec sub =
    item_opening spec.restart ++ known_html spec.id (row_of path spec.id rows) ++ sub_html sub ++ codes "</li>\n"

-- these children, of which the first stands at this place
abbrev pub map_children : List Row → List ℕ → List ℕ → List (List ℕ) → ℕ → List ChildSpec → List ℕ
map_children rows path nested each place [] = []
map_children rows path nested each place (spec ∷ specs) =
    map_child rows path spec (sub_at place nested each) ++ map_children rows path nested each (place + 1) specs

-- a supervisor: its strategy says which of its children a crash takes down
unfoldable pub list_opening : SupFlags → List ℕ
list_opening flags = codes "<ul class=\"" ++ strategy_word flags.strategy ++ codes "\">\n"

unfoldable pub map_html : List Row → Written
map_html rows path flags specs nested each = list_opening flags ++ map_children rows path nested each 0 specs ++ codes "</ul>\n"
