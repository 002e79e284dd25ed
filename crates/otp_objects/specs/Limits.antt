-- What the failure of each child costs, as an object of JSON (own).
use Rattle.std.specs.Prelude.{◌≡◌, ℕ, ◌==◌, Bool, true, false, List, [], ◌∷◌, ◌++◌, codes, decimal, if◌then◌else◌}
use Rattle.std.specs.List.{flat_map}
use Rattle.otp_file.specs.Trees.{Tree}
use Rattle.otp_costs.specs.Rows.{AreRows}
use Rattle.otp_costs.specs.Told.{is_all}
use Rattle.otp_costs.specs.declared.alike.Grain.{Grain}
use Rattle.otp_costs.specs.declared.pick.Pick.{Pick}
use Rattle.otp_costs.specs.declared.rows.Row.{Row}
use Rattle.otp_json.specs.Values.{key_text, text_member}
use Rattle.otp_costs.specs.declared.limits.fate.Fate.{Fate}
use Rattle.otp_costs.specs.declared.limits.fate.Fate.TheVariants as fate
use Rattle.otp_costs.specs.declared.limits.steady.Steady.{Steady}
use Rattle.otp_costs.specs.declared.limits.steady.Steady.TheVariants as steady
use Rattle.otp_objects.specs.Names.{names_text, paths_text}

-- null for a child that never ran, and another text for one that runs no more
unfoldable pub gone_value : ℕ → List ℕ → List ℕ
gone_value count later = if count == 0 then codes "null" else later

-- how many crashes at once are survived; a word where it is any number
unfoldable pub fate_text : Fate → List ℕ → List ℕ
fate_text fate.Survived all = all
fate_text (fate.Ended count) all = decimal count
fate_text (fate.Gone count) all = gone_value count (codes "\"any\"")

-- how far apart crashes must be, in milliseconds; a word where any interval is survived, or none
unfoldable pub steady_value : Steady → List ℕ
steady_value steady.Always = codes "\"any\""
steady_value (steady.Apart gap) = decimal gap
steady_value steady.Never = codes "\"none\""

-- how far apart crashes of a child must be that fares so: null of one that never ran
unfoldable pub steady_text : Fate → Steady → List ℕ
steady_text fate.Survived steady = steady_value steady
steady_text (fate.Ended _) steady = steady_value steady
steady_text (fate.Gone count) steady = gone_value count (steady_value steady)

-- for which children a row stands, and how many crashes at once are survived
unfoldable pub head_text : Row → List ℕ
head_text row =
    key_text (codes "{") (codes "children") ++ names_text row.path row.names
    ++ key_text (codes ", ") (codes "burst") ++ fate_text row.own.burst (codes "\"any\"")

-- how far apart crashes must be, by milliseconds
unfoldable pub interval_text : Row → List ℕ
interval_text row = key_text (codes ", ") (codes "interval") ++ steady_text row.own.burst row.own.steady

-- how far apart crashes must be, by whole seconds
unfoldable pub otp_text : Row → List ℕ
otp_text row = key_text (codes ", ") (codes "otp_needs") ++ steady_text row.own.burst row.own.seconds

-- how far apart crashes must be, by each clock
unfoldable pub clocks_text : Row → List ℕ
clocks_text row = interval_text row ++ otp_text row

-- what a crash stops and starts again
unfoldable pub named_text : Row → List ℕ
named_text row =
    key_text (codes ", ") (codes "stops") ++ names_text row.path row.own.stops
    ++ key_text (codes ", ") (codes "starts") ++ names_text row.path row.own.starts

-- what a crash stops and starts again, and how many processes these are, with those below
unfoldable pub affected_text : Row → List ℕ
affected_text row =
    named_text row
    ++ key_text (codes ", ") (codes "stopped") ++ decimal row.stopped
    ++ key_text (codes ", ") (codes "started") ++ decimal row.started

-- how the root fares, and who has given up then
unfoldable pub fall_text : Row → List ℕ
fall_text row =
    key_text (codes ", ") (codes "root") ++ fate_text row.root (codes "\"10000+\"")
    ++ key_text (codes ", ") (codes "ends") ++ paths_text row.ends

-- the object of a row
unfoldable pub row_text : Row → List ℕ
row_text row = head_text row ++ clocks_text row ++ affected_text row ++ fall_text row ++ codes "}"

-- the object of a row behind another
unfoldable pub next_row : Row → List ℕ
next_row row = codes ", " ++ row_text row

unfoldable pub rows_text : List Row → List ℕ
rows_text [] = codes "[]"
rows_text (row ∷ rows) = codes "[" ++ row_text row ++ flat_map next_row rows ++ codes "]"

-- the whole: the file, and its rows, the worst first
unfoldable pub limits_text : List ℕ → List Row → List ℕ
limits_text name rows =
    text_member (codes "{") (codes "file") name ++ key_text (codes ", ") (codes "rows") ++ rows_text rows ++ codes "}\n"

abbrev pub is_none : List Row → Bool
is_none [] = true
is_none (row ∷ rows) = false

-- the rows of those children that are asked for were told; or a child or a supervisor is asked for, and there is none
unfoldable pub TellsRows : Bool → List ℕ → Pick → List Row → List ℕ → List ℕ → Type 0
TellsRows true name pick rows before after = after ≡ before ++ limits_text name rows
TellsRows false name pick rows before after = (is_all pick ≡ false) × ((rows ≡ []) × (after ≡ before))

abbrev pub TellsObject : Bool → List ℕ → Grain → Pick → Tree → List ℕ → List ℕ → Type 0
TellsObject found name grain pick tree before after = (rows : List Row) × (AreRows grain pick tree rows × TellsRows found name pick rows before after)
