-- What differs in two trees (own).
use Rattle.std.specs.Prelude.{◌≡◌, ℕ, Bool, true, false, ◌&&◌, List, [], ◌∷◌, ◌++◌, codes, drop}
use Rattle.otp_file.specs.Trees.{Tree}
use Rattle.otp_costs.specs.Rows.{AreRows}
use Rattle.otp_costs.specs.declared.alike.Grain.TheVariants.{Alike}
use Rattle.otp_costs.specs.declared.pick.Pick.TheVariants.{All}
use Rattle.otp_costs.specs.declared.rows.Row.{Row}
use Rattle.otp_json.specs.Values.{key_text, text_member}
use Rattle.otp_trial.specs.Played.{IsPlanted, Seated}
use Rattle.otp_diff.specs.Changes.{changes_text, truth_text}
use Rattle.otp_diff.specs.Costs.{costs_text}
use Rattle.otp_diff.specs.declared.change.Form.{Form}
use Rattle.otp_diff.specs.declared.change.Form.TheVariants as form

-- a text, or of one in which nothing stands, another
unfoldable pub or_else : List ℕ → List ℕ → List ℕ
or_else other [] = other
or_else other (byte ∷ bytes) = byte ∷ bytes

unfoldable pub children_or_none : List ℕ → List ℕ
children_or_none text = or_else (codes "flags and children are the same\n") text

unfoldable pub costs_or_none : List ℕ → List ℕ
costs_or_none text = or_else (codes "each failure costs the same\n") text

-- objects of which a comma and a space stand before each, as an array
unfoldable pub array_text : List ℕ → List ℕ → List ℕ
array_text key objects = key_text (codes ", ") key ++ codes "[" ++ drop 2 objects ++ codes "]"

unfoldable pub is_empty : List ℕ → Bool
is_empty [] = true
is_empty (byte ∷ bytes) = false

-- which files were compared, and whether nothing differs
unfoldable pub files_members : List ℕ → List ℕ → Bool → List ℕ
files_members name other is_same =
    text_member (codes "{") (codes "file") name ++ text_member (codes ", ") (codes "other") other
    ++ key_text (codes ", ") (codes "same") ++ truth_text is_same

unfoldable pub object_of : List ℕ → List ℕ → List ℕ → List ℕ → List ℕ
object_of name other changes costs =
    files_members name other (is_empty changes && is_empty costs)
    ++ array_text (codes "changes") changes ++ array_text (codes "costs") costs ++ codes "}\n"

-- the whole, of which this is said of flags and children, and this of costs
unfoldable pub whole_text : Form → List ℕ → List ℕ → List ℕ → List ℕ → List ℕ
whole_text form.Text name other changes costs = children_or_none changes ++ costs_or_none costs
whole_text form.Object name other changes costs = object_of name other changes costs

unfoldable pub told_text : Form → List ℕ → List ℕ → List Seated → List Seated → List Row → List Row → List ℕ
told_text form name other seats others rows other_rows =
    whole_text form name other (changes_text form seats others) (costs_text form rows other_rows)

-- what differs in flags and children, and then in what each failure costs
pub record Differs (form : Form) (name other : List ℕ) (old new : Tree) (before after : List ℕ) : Type 0 where
  pub seats : List Seated
  pub others : List Seated
  pub planted : IsPlanted true old seats
  pub planted_too : IsPlanted true new others
  pub rows : List Row
  pub other_rows : List Row
  pub are : AreRows Alike All old rows
  pub are_too : AreRows Alike All new other_rows
  pub told : after ≡ before ++ told_text form name other seats others rows other_rows
