-- What differs in the flags and the children of two trees (own).
use Rattle.std.specs.Prelude.{ℕ, Bool, true, false, List, [], ◌∷◌, ◌++◌, Option, Some, None, codes, decimal, drop, is_some, length, position, slice_get, if◌then◌else◌}
use Rattle.std.specs.List.{flat_map}
use Rattle.std.specs.Ordering.{on}
use Rattle.std.specs.Str.{bytes_eq}
use Rattle.otp_costs.specs.Groups.{below}
use Rattle.otp_json.specs.Values.{json_text, key_text, text_member}
use Rattle.otp_costs.specs.Falls.{supervisor_path}
use Rattle.otp_reason.specs.Names.{name_bytes}
use Rattle.otp_reason.specs.declared.name.Name.{Name}
use Rattle.otp_spec.specs.Words.{auto_shutdown_word, restart_word, strategy_word, type_word}
use Rattle.otp_spec.specs.declared.child.ChildSpec.{ChildSpec}
use Rattle.otp_spec.specs.declared.child.Modules.{Modules}
use Rattle.otp_spec.specs.declared.child.Modules.TheVariants as modules
use Rattle.otp_spec.specs.declared.child.Shutdown.{Shutdown}
use Rattle.otp_spec.specs.declared.child.Shutdown.TheVariants as shutdown
use Rattle.otp_spec.specs.declared.flags.SupFlags.{SupFlags}
use Rattle.otp_trial.specs.Played.{Seated}
use Rattle.otp_diff.specs.declared.change.Form.{Form}
use Rattle.otp_diff.specs.declared.change.Form.TheVariants as form
use Rattle.otp_diff.specs.declared.change.Values.{Values}
use Rattle.otp_diff.specs.declared.change.Values.TheVariants as values

-- what differs, and its values, as a line
unfoldable pub title_text : List ℕ → List ℕ → List ℕ
title_text title key = title ++ codes ": " ++ key

unfoldable pub values_text : List ℕ → List ℕ → List ℕ
values_text one other = codes " " ++ one ++ codes " -> " ++ other ++ codes "\n"

-- what differs, as an object that stands behind another and was begun by what it is of; the values are JSON
unfoldable pub key_member : List ℕ → List ℕ → List ℕ
key_member title key = codes ", " ++ title ++ text_member (codes ", ") (codes "key") key

unfoldable pub values_members : List ℕ → List ℕ → List ℕ
values_members one other = key_text (codes ", ") (codes "from") ++ one ++ key_text (codes ", ") (codes "to") ++ other ++ codes "}"

-- a value as JSON: a text, or a number of which these are the digits
unfoldable pub value_text : Values → List ℕ → List ℕ
value_text values.Texts text = json_text text
value_text values.Numbers digits = digits

-- values that differ
unfoldable pub difference_told : Form → Values → List ℕ → List ℕ → List ℕ → List ℕ → List ℕ
difference_told form.Text values title key one other = title_text title key ++ values_text one other
difference_told form.Object values title key one other = key_member title key ++ values_members (value_text values one) (value_text values other)

unfoldable pub difference : Form → Values → List ℕ → List ℕ → List ℕ → List ℕ → List ℕ
difference form values title key one other = if bytes_eq one other then [] else difference_told form values title key one other

abbrev pub change_text : Form → List ℕ → List ℕ → List ℕ → List ℕ → List ℕ
change_text form title key one other = difference form values.Texts title key one other

abbrev pub number_change_text : Form → List ℕ → List ℕ → List ℕ → List ℕ → List ℕ
number_change_text form title key one other = difference form values.Numbers title key one other

-- what changes are of: a child, or a supervisor
unfoldable pub child_title : Form → List ℕ → Name → List ℕ
child_title form.Text path id = below path id
child_title form.Object path id = text_member (codes "{") (codes "child") (below path id)

unfoldable pub supervisor_title : Form → List ℕ → List ℕ
supervisor_title form.Text path = supervisor_path path
supervisor_title form.Object path = text_member (codes "{") (codes "supervisor") (supervisor_path path)

-- a number of seconds
unfoldable pub seconds_text : Form → ℕ → List ℕ
seconds_text form.Text count = decimal count ++ codes " s"
seconds_text form.Object count = decimal count

-- the flags of a supervisor with this name
unfoldable pub strategy_text : Form → List ℕ → SupFlags → SupFlags → List ℕ
strategy_text form title a b =
    change_text form title (codes "strategy") (strategy_word a.strategy) (strategy_word b.strategy)
    ++ number_change_text form title (codes "intensity") (decimal a.intensity) (decimal b.intensity)

unfoldable pub period_text : Form → List ℕ → SupFlags → SupFlags → List ℕ
period_text form title a b =
    number_change_text form title (codes "period") (seconds_text form a.period) (seconds_text form b.period)
    ++ change_text form title (codes "auto_shutdown") (auto_shutdown_word a.auto_shutdown) (auto_shutdown_word b.auto_shutdown)

unfoldable pub flags_text : Form → List ℕ → SupFlags → SupFlags → List ℕ
flags_text form title a b = strategy_text form title a b ++ period_text form title a b

unfoldable pub shutdown_text : Shutdown → List ℕ
shutdown_text shutdown.BrutalKill = codes "brutal_kill"
shutdown_text (shutdown.Milliseconds count) = decimal count ++ codes " ms"
shutdown_text shutdown.Infinity = codes "infinity"

abbrev pub truth_text : Bool → List ℕ
truth_text true = codes "true"
truth_text false = codes "false"

-- a list of names
abbrev pub and_text : Name → List ℕ
and_text name = codes ", " ++ name_bytes name

unfoldable pub modules_text : Modules → List ℕ
modules_text modules.Dynamic = codes "dynamic"
modules_text modules.None = codes "[]"
modules_text (modules.One a) = codes "[" ++ name_bytes a ++ codes "]"
modules_text (modules.Two a b) = codes "[" ++ name_bytes a ++ and_text b ++ codes "]"
modules_text (modules.Three a b c) = codes "[" ++ name_bytes a ++ and_text b ++ and_text c ++ codes "]"
modules_text (modules.Four a b c d) = codes "[" ++ name_bytes a ++ and_text b ++ and_text c ++ and_text d ++ codes "]"

-- the keys of a child with this name
unfoldable pub start_text : Form → List ℕ → ChildSpec → ChildSpec → List ℕ
start_text form title a b =
    change_text form title (codes "start") (name_bytes a.start) (name_bytes b.start)
    ++ change_text form title (codes "restart") (restart_word a.restart) (restart_word b.restart)

unfoldable pub significant_text : Form → List ℕ → ChildSpec → ChildSpec → List ℕ
significant_text form title a b = change_text form title (codes "significant") (truth_text a.significant) (truth_text b.significant)

unfoldable pub stop_text : Form → List ℕ → ChildSpec → ChildSpec → List ℕ
stop_text form title a b = change_text form title (codes "shutdown") (shutdown_text a.shutdown) (shutdown_text b.shutdown)

unfoldable pub kind_text : Form → List ℕ → ChildSpec → ChildSpec → List ℕ
kind_text form title a b =
    change_text form title (codes "type") (type_word a.kind) (type_word b.kind)
    ++ change_text form title (codes "modules") (modules_text a.modules) (modules_text b.modules)

unfoldable pub spec_text : Form → List ℕ → ChildSpec → ChildSpec → List ℕ
spec_text form title a b = start_text form title a b ++ significant_text form title a b ++ stop_text form title a b ++ kind_text form title a b

abbrev pub has_id : Name → ChildSpec → Bool
has_id id spec = on name_bytes bytes_eq spec.id id

-- whether there is a child with this id
unfoldable pub is_there : Name → List ChildSpec → Bool
is_there id specs = is_some (position (has_id id) specs)

-- a child or a supervisor that is in one tree alone
unfoldable pub mark_text : Bool → List ℕ
mark_text false = codes "- "
mark_text true = codes "+ "

unfoldable pub side_word : Bool → List ℕ
side_word false = codes "file"
side_word true = codes "other"

unfoldable pub lone_text : Form → Bool → List ℕ → List ℕ
lone_text form.Text is_other title = mark_text is_other ++ title ++ codes "\n"
lone_text form.Object is_other title = codes ", " ++ title ++ text_member (codes ", ") (codes "only_in") (side_word is_other) ++ codes "}"

-- what stands at a place
abbrev pub at_place : {A : Type 0} → List A → Option ℕ → Option A
at_place xs None = None
at_place xs (Some place) = slice_get xs place

-- a child of a supervisor with this path, and the one with its id in the other tree, if there is one
unfoldable pub pair_text : Form → List ℕ → ChildSpec → Option ChildSpec → List ℕ
pair_text form path spec None = lone_text form false (child_title form path spec.id)
pair_text form path spec (Some other) = spec_text form (child_title form path spec.id) spec other

abbrev pub child_text : Form → List ℕ → List ChildSpec → ChildSpec → List ℕ
child_text form path others spec = pair_text form path spec (at_place others (position (has_id spec.id) others))

-- a child that the other tree has alone
unfoldable pub new_if : Bool → Form → List ℕ → ChildSpec → List ℕ
new_if true form path spec = []
new_if false form path spec = lone_text form true (child_title form path spec.id)

abbrev pub new_text : Form → List ℕ → List ChildSpec → ChildSpec → List ℕ
new_text form path olds spec = new_if (is_there spec.id olds) form path spec

-- the children that the other tree has too, in start order
unfoldable pub entry_if : Bool → Name → List ℕ
entry_if false id = []
entry_if true id = codes " " ++ name_bytes id

abbrev pub entry_text : List ChildSpec → ChildSpec → List ℕ
entry_text others spec = entry_if (is_there spec.id others) spec.id

abbrev pub order_text : List ChildSpec → List ChildSpec → List ℕ
order_text others specs = flat_map (entry_text others) specs

-- their order, where it differs
unfoldable pub was_text : List ℕ → List ℕ
was_text title = title ++ codes ": start order"

unfoldable pub is_text : List ℕ → List ℕ
is_text other = codes " ->" ++ other ++ codes "\n"

unfoldable pub order_line : List ℕ → List ℕ → List ℕ → List ℕ
order_line title one other = was_text title ++ one ++ is_text other

-- a space stands before each id, the first too
unfoldable pub order_object : List ℕ → List ℕ → List ℕ → List ℕ
order_object title one other =
    key_member title (codes "start order") ++ values_members (value_text values.Texts (drop 1 one)) (value_text values.Texts (drop 1 other))

unfoldable pub order_told : Form → List ℕ → List ℕ → List ℕ → List ℕ
order_told form.Text title one other = order_line title one other
order_told form.Object title one other = order_object title one other

unfoldable pub order_change_text : Form → List ℕ → List ℕ → List ℕ → List ℕ
order_change_text form title one other = if bytes_eq one other then [] else order_told form title one other

-- two supervisors with one path: flags, children, children that are new, and the start order
unfoldable pub supervisor_text : Form → List ℕ → Seated → Seated → List ℕ
supervisor_text form path a b =
    flags_text form (supervisor_title form path) a.base.flags b.base.flags
    ++ flat_map (child_text form path b.base.specs) a.base.specs
    ++ flat_map (new_text form path a.base.specs) b.base.specs
    ++ order_change_text form (supervisor_title form path) (order_text b.base.specs a.base.specs) (order_text a.base.specs b.base.specs)

abbrev pub has_path : List ℕ → Seated → Bool
has_path path seat = bytes_eq seat.path path

-- a supervisor that is in one tree alone: its path has a `/` behind it in a line
unfoldable pub lone_title : Form → List ℕ → List ℕ
lone_title form.Text path = path
lone_title form.Object path = supervisor_title form.Object path

-- a supervisor, and the one with its path in the other tree, if there is one
unfoldable pub seat_pair_text : Form → Seated → Option Seated → List ℕ
seat_pair_text form seat None = lone_text form false (lone_title form seat.path)
seat_pair_text form seat (Some other) = supervisor_text form seat.path seat other

abbrev pub seat_text : Form → List Seated → Seated → List ℕ
seat_text form others seat = seat_pair_text form seat (at_place others (position (has_path seat.path) others))

unfoldable pub new_seat_if : Bool → Form → Seated → List ℕ
new_seat_if true form seat = []
new_seat_if false form seat = lone_text form true (lone_title form seat.path)

abbrev pub new_seat_text : Form → List Seated → Seated → List ℕ
new_seat_text form olds seat = new_seat_if (is_some (position (has_path seat.path) olds)) form seat

-- all that differs: of a supervisor that is in one tree alone, the children aren't named
unfoldable pub changes_text : Form → List Seated → List Seated → List ℕ
changes_text form olds news = flat_map (seat_text form news) olds ++ flat_map (new_seat_text form olds) news
