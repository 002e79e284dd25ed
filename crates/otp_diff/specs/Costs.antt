-- What differs in what failures cost (own).
use Rattle.std.specs.Prelude.{ℕ, Bool, true, false, List, [], ◌∷◌, ◌++◌, Option, Some, None, codes, decimal, length}
use Rattle.std.specs.List.{filter_map, flat_map, list_any}
use Rattle.std.specs.Ordering.{on}
use Rattle.std.specs.Str.{bytes_eq}
use Rattle.otp_costs.specs.Groups.{below}
use Rattle.otp_costs.specs.Table.{alike_text, root_text}
use Rattle.otp_costs.specs.Words.{burst_text, interval_text}
use Rattle.otp_costs.specs.declared.rows.Row.{Row}
use Rattle.otp_json.specs.Values.{number_member, text_member}
use Rattle.otp_costs.specs.declared.limits.fate.Fate.{Fate}
use Rattle.otp_reason.specs.Names.{name_bytes}
use Rattle.otp_reason.specs.declared.name.Name.{Name}
use Rattle.otp_diff.specs.Changes.{change_text, number_change_text}
use Rattle.otp_diff.specs.declared.change.Form.{Form}
use Rattle.otp_diff.specs.declared.change.Form.TheVariants as form

-- the numbers of two rows
unfoldable pub survived_text : Form → List ℕ → Row → Row → List ℕ
survived_text form title a b =
    change_text form title (codes "burst") (burst_text a.own.burst) (burst_text b.own.burst)
    ++ change_text form title (codes "interval") (interval_text a.own.burst a.own.steady) (interval_text b.own.burst b.own.steady)

unfoldable pub counted_text : Form → List ℕ → Row → Row → List ℕ
counted_text form title a b =
    change_text form title (codes "interval for OTP") (interval_text a.own.burst a.own.seconds) (interval_text b.own.burst b.own.seconds)

unfoldable pub affected_text : Form → List ℕ → Row → Row → List ℕ
affected_text form title a b =
    number_change_text form title (codes "stops") (decimal a.stopped) (decimal b.stopped)
    ++ number_change_text form title (codes "starts") (decimal a.started) (decimal b.started)

unfoldable pub ended_text : Form → List ℕ → Fate → Fate → List ℕ
ended_text form title a b = change_text form title (codes "root") (root_text a) (root_text b)

unfoldable pub numbers_text : Form → List ℕ → Row → Row → List ℕ
numbers_text form title a b = survived_text form title a b ++ counted_text form title a b ++ affected_text form title a b ++ ended_text form title a.root b.root

abbrev pub is_name : Name → Name → Bool
is_name name other = on name_bytes bytes_eq other name

-- the children that have both rows
abbrev pub name_if : Bool → Name → Option Name
name_if false name = None
name_if true name = Some name

abbrev pub common : List Name → List Name → List Name
common news olds = filter_map (λ name. name_if (list_any (is_name name) news) name) olds

-- the first of them, and how many they are
unfoldable pub crash_title : Form → List ℕ → Name → ℕ → List ℕ
crash_title form.Text path name count = codes "a crash of " ++ below path name ++ alike_text count
crash_title form.Object path name count =
    text_member (codes "{") (codes "child") (below path name) ++ number_member (codes ", ") (codes "alike") count

unfoldable pub named_text : Form → List Name → Row → Row → List ℕ
named_text form [] a b = []
named_text form (name ∷ names) a b = numbers_text form (crash_title form a.path name (length (name ∷ names))) a b

-- two rows of supervisors with one path
unfoldable pub rows_if : Bool → Form → Row → Row → List ℕ
rows_if false form a b = []
rows_if true form a b = named_text form (common b.names a.names) a b

abbrev pub rows_text : Form → Row → Row → List ℕ
rows_text form a b = rows_if (bytes_eq a.path b.path) form a b

abbrev pub row_text : Form → List Row → Row → List ℕ
row_text form news a = flat_map (rows_text form a) news

-- all that differs, the worst of the first tree first
abbrev pub costs_text : Form → List Row → List Row → List ℕ
costs_text form olds news = flat_map (row_text form news) olds
