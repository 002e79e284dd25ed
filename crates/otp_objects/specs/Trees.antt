-- A tree as an object of JSON: the table that its file says, with the keys that the file leaves out (own).
use Rattle.std.specs.Prelude.{◌≡◌, ℕ, ◌+◌, ◌==◌, List, [], ◌∷◌, ◌++◌, Option, Some, None, codes, if◌then◌else◌}
use Rattle.otp_file.specs.Trees.{Tree}
use Rattle.otp_file.specs.declared.limits.TheConstants.{MAX_DEPTH}
use Rattle.otp_json.specs.Values.{json_text, key_text, number_member, text_member}
use Rattle.otp_file.specs.Nested.{IsPiece, Written, sub_at}
use Rattle.otp_reason.specs.Names.{name_bytes}
use Rattle.otp_reason.specs.declared.name.Name.{Name}
use Rattle.otp_spec.specs.Words.{auto_shutdown_word, restart_word, strategy_word, type_word}
use Rattle.otp_spec.specs.declared.child.ChildSpec.{ChildSpec}
use Rattle.otp_spec.specs.declared.child.Modules.{Modules}
use Rattle.otp_spec.specs.declared.child.Modules.TheVariants as modules
use Rattle.otp_spec.specs.declared.flags.SupFlags.{SupFlags}
use Rattle.otp_objects.specs.Values.{bool_member, shutdown_member, word_member}

unfoldable pub name_value : Name → List ℕ
name_value name = json_text (name_bytes name)

-- a value behind another
unfoldable pub next_value : Name → List ℕ
next_value name = codes ", " ++ name_value name

-- the modules of a child
unfoldable pub modules_value : Modules → List ℕ
modules_value modules.Dynamic = codes "\"dynamic\""
modules_value modules.None = codes "[]"
modules_value (modules.One a) = codes "[" ++ name_value a ++ codes "]"
modules_value (modules.Two a b) = codes "[" ++ name_value a ++ next_value b ++ codes "]"
modules_value (modules.Three a b c) = codes "[" ++ name_value a ++ next_value b ++ next_value c ++ codes "]"
modules_value (modules.Four a b c d) = codes "[" ++ name_value a ++ next_value b ++ next_value c ++ next_value d ++ codes "]"

unfoldable pub modules_member : Modules → List ℕ
modules_member modules = key_text (codes ", ") (codes "modules") ++ modules_value modules

-- a child's id, and the module of its start
unfoldable pub name_members : ChildSpec → List ℕ
name_members spec = text_member (codes "{") (codes "id") (name_bytes spec.id) ++ text_member (codes ", ") (codes "start") (name_bytes spec.start)

-- after which ends it is restarted, how it is stopped, and what it is
unfoldable pub kind_members : ChildSpec → List ℕ
kind_members spec =
    word_member (codes "restart") (restart_word spec.restart) ++ bool_member (codes "significant") spec.significant
    ++ shutdown_member spec.shutdown ++ word_member (codes "type") (type_word spec.kind)

-- all of it but its tree
unfoldable pub child_head : ChildSpec → List ℕ
child_head spec = name_members spec ++ kind_members spec ++ modules_member spec.modules

-- the tree of a child of which this is the object, or null where it has none
unfoldable pub sub_value : Option (List ℕ) → List ℕ
sub_value None = codes "null"
sub_value (Some piece) = piece

unfoldable pub sub_member : Option (List ℕ) → List ℕ
sub_member sub = key_text (codes ", ") (codes "tree") ++ sub_value sub

unfoldable pub child_text : ChildSpec → Option (List ℕ) → List ℕ
child_text spec sub = child_head spec ++ sub_member sub ++ codes "}"

-- what stands before the child at this place
unfoldable pub comma_at : ℕ → List ℕ
comma_at place = if place == 0 then [] else codes ", "

-- these children, of which the first stands at this place
abbrev pub children_text : List ℕ → List (List ℕ) → ℕ → List ChildSpec → List ℕ
children_text nested each place [] = []
children_text nested each place (spec ∷ specs) =
    comma_at place ++ child_text spec (sub_at place nested each) ++ children_text nested each (place + 1) specs

-- how a supervisor restarts its children, and when it ends by itself
unfoldable pub flags_members : SupFlags → List ℕ
flags_members flags =
    text_member (codes "{") (codes "strategy") (strategy_word flags.strategy)
    ++ number_member (codes ", ") (codes "intensity") flags.intensity
    ++ number_member (codes ", ") (codes "period") flags.period
    ++ word_member (codes "auto_shutdown") (auto_shutdown_word flags.auto_shutdown)

-- a supervisor with these children, of which those at these places have trees with these objects
unfoldable pub table_text : SupFlags → List ChildSpec → List ℕ → List (List ℕ) → List ℕ
table_text flags specs nested each =
    flags_members flags ++ key_text (codes ", ") (codes "child") ++ codes "[" ++ children_text nested each 0 specs ++ codes "]}"

-- the object of a supervisor, wherever it stands
abbrev pub object_at : Written
object_at path flags specs nested each = table_text flags specs nested each

-- the whole: the file, and its tree, of which this is the object
unfoldable pub tree_object : List ℕ → List ℕ → List ℕ
tree_object name piece = text_member (codes "{") (codes "file") name ++ key_text (codes ", ") (codes "tree") ++ piece ++ codes "}\n"

-- a tree is told as an object
abbrev pub TellsTree : List ℕ → Tree → List ℕ → List ℕ → Type 0
TellsTree name tree before after =
    (piece : List ℕ) × (IsPiece object_at MAX_DEPTH [] tree piece × (after ≡ before ++ tree_object name piece))
