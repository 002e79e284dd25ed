-- The limits of a tree as they are told (own).
use Rattle.std.specs.Prelude.{◌≡◌, ℕ, Bool, true, false, List, [], ◌∷◌, ◌++◌}
use Rattle.otp_file.specs.Trees.{Tree}
use Rattle.otp_costs.specs.Rows.{AreRows}
use Rattle.otp_costs.specs.Table.{table_text}
use Rattle.otp_costs.specs.declared.alike.Grain.{Grain}
use Rattle.otp_costs.specs.declared.pick.Pick.{Pick}
use Rattle.otp_costs.specs.declared.pick.Pick.TheVariants as pick
use Rattle.otp_costs.specs.declared.pick.TheConstants.{ALL, FEW}
use Rattle.otp_costs.specs.declared.rows.Row.{Row}

-- so many children of a list are shown at the most, and of more the first
unfoldable pub most_of : Pick → ℕ
most_of pick.All = FEW
most_of (pick.Child _) = ALL
most_of (pick.Table _) = FEW

unfoldable pub is_all : Pick → Bool
is_all pick.All = true
is_all (pick.Child _) = false
is_all (pick.Table _) = false

-- the tree has one supervisor alone
abbrev pub is_alone : List ℕ → Bool
is_alone [] = true
is_alone (place ∷ places) = false

abbrev pub is_none : List Row → Bool
is_none [] = true
is_none (row ∷ rows) = false

-- the rows of those children that are asked for were told; or a child or a supervisor is asked for, and there is none
unfoldable pub TellsRows : Bool → Pick → Tree → List Row → List ℕ → List ℕ → Type 0
TellsRows true pick tree rows before after = after ≡ before ++ table_text (is_alone tree.nested) (most_of pick) rows
TellsRows false pick tree rows before after = (is_all pick ≡ false) × ((rows ≡ []) × (after ≡ before))

abbrev pub Tells : Bool → Grain → Pick → Tree → List ℕ → List ℕ → Type 0
Tells found grain pick tree before after = (rows : List Row) × (AreRows grain pick tree rows × TellsRows found pick tree rows before after)
