-- Limits of a tree as text: a line for each row, and then what a crash of each stops, starts again and ends (own).
use Rattle.std.specs.Prelude.{ℕ, ◌+◌, ◌-◌, Bool, true, false, List, [], ◌∷◌, ◌++◌, length, codes, decimal, drop, replicate, take, nat_le, nat_lt, min, ◌==◌, ◌&&◌, if◌then◌else◌}
use Rattle.std.specs.List.{flat_map}
use Rattle.otp_reason.specs.declared.name.Name.{Name}
use Rattle.otp_costs.specs.Falls.{supervisor_path}
use Rattle.otp_costs.specs.declared.limits.fall.TheConstants.{MOST_FALLS}
use Rattle.otp_costs.specs.declared.limits.fate.Fate.{Fate}
use Rattle.otp_costs.specs.declared.limits.fate.Fate.TheVariants as fate
use Rattle.otp_costs.specs.Groups.{below}
use Rattle.otp_costs.specs.Words.{at_left, at_right, burst_text, clock_text, gone_text, interval_text}
use Rattle.otp_costs.specs.declared.rows.Row.{Row}
use Rattle.otp_costs.specs.declared.table.TheConstants.{WIDTH, INDENT, NAMES, WHO, SHOWN}

-- a text, or of one that is longer than so many bytes, its last ones behind dots
unfoldable pub clip : ℕ → List ℕ → List ℕ
clip width text = if nat_le (length text) width then text else codes "..." ++ drop (length text - (width - 3)) text

-- how many children a row stands for, where it is more than one
unfoldable pub alike_text : ℕ → List ℕ
alike_text count = if nat_le count 1 then [] else codes " (" ++ decimal count ++ codes " alike)"

-- the first child of a row
abbrev pub title_of : Row → List ℕ
title_of row = below row.path row.own.id ++ alike_text (length row.names)

-- a name in its column, or in a line of its own where it doesn't fit
unfoldable pub title_text : ℕ → List ℕ → List ℕ
title_text width name =
    if nat_lt (length name) width then at_left width name
    else clip WIDTH name ++ codes "\n" ++ replicate width 32

-- how many crashes at once the root survives
unfoldable pub root_text : Fate → List ℕ
root_text fate.Survived = decimal MOST_FALLS ++ codes "+"
root_text (fate.Ended count) = decimal count
root_text (fate.Gone count) = gone_text count (codes "-") (codes "any")

-- how many crashes at once the root survives, in its column, which a tree with one supervisor alone has not
unfoldable pub root_column : Bool → Fate → List ℕ
root_column true root = []
root_column false root = at_right 8 (root_text root)

unfoldable pub names_width : Bool → ℕ
names_width true = NAMES + 8
names_width false = NAMES

-- a supervisor by its path, where that fits
unfoldable pub word_of : List ℕ → List ℕ
word_of path = if nat_le (length path) WHO then path else codes "supervisor"

-- who gives up after a burst
unfoldable pub giver_text : List ℕ → Fate → List ℕ
giver_text path fate.Survived = codes "nobody"
giver_text path (fate.Ended _) = word_of (supervisor_path path)
giver_text path (fate.Gone count) = gone_text count (codes "isn't up") (codes "nobody")

-- the line of a row
unfoldable pub row_text : Bool → Row → List ℕ
row_text alone row =
    title_text (names_width alone) (title_of row)
    ++ at_right 7 (burst_text row.own.burst)
    ++ at_right 14 (interval_text row.own.burst row.own.steady)
    ++ at_right 7 (decimal row.stopped)
    ++ at_right 8 (decimal row.started)
    ++ root_column alone row.root
    ++ codes "  "
    ++ giver_text row.path row.own.burst
    ++ codes "\n"

-- the column after a text of a list, and the text with what stands before it: a space, or a new line where it doesn't fit
-- any more
unfoldable pub entry_end : ℕ → List ℕ → ℕ
entry_end column text =
    if nat_le (column + 1 + length text) WIDTH then column + 1 + length text
    else min (INDENT + length text) WIDTH

unfoldable pub entry_text : ℕ → List ℕ → List ℕ
entry_text column text =
    if nat_le (column + 1 + length text) WIDTH then codes " " ++ text
    else codes "\n         " ++ clip (WIDTH - INDENT) text

-- children of a supervisor with this path, from a column on, and the column after them
abbrev pub children_text : ℕ → List ℕ → List Name → List ℕ
children_text column path [] = []
children_text column path (name ∷ names) =
    entry_text column (below path name) ++ children_text (entry_end column (below path name)) path names

abbrev pub children_end : ℕ → List ℕ → List Name → ℕ
children_end column path [] = column
children_end column path (name ∷ names) = children_end (entry_end column (below path name)) path names

-- supervisors, from a column on
abbrev pub supervisors_text : ℕ → List (List ℕ) → List ℕ
supervisors_text column [] = []
supervisors_text column (path ∷ paths) = entry_text column path ++ supervisors_text (entry_end column path) paths

-- the first of these children, and how many more there are
unfoldable pub first_text : ℕ → List ℕ → List Name → List ℕ
first_text column path names =
    children_text column path (take SHOWN names)
    ++ entry_text (children_end column path (take SHOWN names)) (codes "and " ++ decimal (length names - SHOWN) ++ codes " more")

-- these children, or the first of them where there are more than so many
unfoldable pub some_text : ℕ → ℕ → List ℕ → List Name → List ℕ
some_text most column path names =
    if nat_le (length names) most then children_text column path names else first_text column path names

-- after a word children, or that there are none
unfoldable pub list_text : ℕ → List ℕ → List ℕ → List Name → List ℕ
list_text most before path [] = before ++ codes " nothing\n"
list_text most before path (name ∷ names) = before ++ some_text most (length before) path (name ∷ names) ++ codes "\n"

-- the children that a row stands for, if it is more than one
unfoldable pub names_text : ℕ → List ℕ → List Name → List ℕ
names_text most path names = if nat_le (length names) 1 then [] else list_text most (codes "  alike ") path names

-- the supervisors that have given up; a tree with one supervisor alone has no such line
unfoldable pub ends_text : Bool → List (List ℕ) → List ℕ
ends_text true paths = []
ends_text false [] = codes "  ends   nobody\n"
ends_text false (path ∷ paths) = codes "  ends  " ++ supervisors_text 8 (path ∷ paths) ++ codes "\n"

-- what a crash of a child stops and starts again, and whom its crashes end
unfoldable pub crash_text : Row → List ℕ
crash_text row = codes "a crash of " ++ clip 69 (below row.path row.own.id) ++ codes "\n"

unfoldable pub named_text : ℕ → Row → List ℕ
named_text most row =
    list_text most (codes "  stops ") row.path row.own.stops ++ list_text most (codes "  starts") row.path row.own.starts

-- how many processes stand below these children, if there are some
unfoldable pub below_text : ℕ → ℕ → List ℕ
below_text stops starts =
    if (stops == 0) && (starts == 0) then []
    else codes "  below  " ++ decimal stops ++ codes " stop, " ++ decimal starts ++ codes " start\n"

unfoldable pub affected_text : ℕ → Row → List ℕ
affected_text most row =
    named_text most row ++ below_text (row.stopped - length row.own.stops) (row.started - length row.own.starts)

unfoldable pub rest_text : Bool → ℕ → Row → List ℕ
rest_text alone most row =
    ends_text alone row.ends ++ clock_text row.own.steady row.own.seconds ++ names_text most row.path row.names

unfoldable pub damage_text : Bool → ℕ → Row → List ℕ
damage_text alone most row = crash_text row ++ affected_text most row ++ rest_text alone most row

-- the titles of the columns
unfoldable pub titles : Bool → List ℕ
titles true = codes "child                             burst      interval  stops  starts  gives up\n"
titles false = codes "child                     burst      interval  stops  starts    root  gives up\n"

-- the whole
unfoldable pub table_text : Bool → ℕ → List Row → List ℕ
table_text alone most rows = titles alone ++ flat_map (row_text alone) rows ++ flat_map (damage_text alone most) rows
