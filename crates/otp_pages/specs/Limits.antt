-- What the failure of each child costs, as a page (own).
use Rattle.std.specs.Prelude.{◌≡◌, ℕ, Bool, true, false, List, [], ◌∷◌, ◌++◌, codes}
use Rattle.std.specs.List.{flat_map}
use Rattle.otp_file.specs.Trees.{Tree}
use Rattle.otp_file.specs.declared.limits.TheConstants.{MAX_DEPTH}
use Rattle.otp_costs.specs.Rows.{AreRows}
use Rattle.otp_costs.specs.Told.{is_all}
use Rattle.otp_costs.specs.declared.alike.Grain.{Grain}
use Rattle.otp_costs.specs.declared.pick.Pick.{Pick}
use Rattle.otp_costs.specs.declared.rows.Row.{Row}
use Rattle.otp_pages.specs.Frame.{foot_text, head_text}
use Rattle.otp_file.specs.Nested.{IsPiece}
use Rattle.otp_pages.specs.Costs.{row_html}
use Rattle.otp_pages.specs.Maps.{map_html}

unfoldable pub map_legend : List ℕ
map_legend = codes "<p class=\"legend\">Choose a child: what a crash of it takes down is told, and marked. A full bar is 20 crashes at once or more.</p>\n<div class=\"map\">\n"

unfoldable pub limits_legend : List ℕ
limits_legend = codes "</div>\n<p class=\"legend\">The worst child stands first. Burst: so many crashes are survived with no time between, and the next ends its supervisor. Interval: crashes so far apart are survived for ever; by OTP, whose clock has whole seconds.</p>\n"

unfoldable pub limits_titles : List ℕ
limits_titles = codes "<table>\n<thead><tr><th scope=\"col\">child</th><th scope=\"col\" class=\"n\">burst</th><th scope=\"col\" class=\"n\">interval</th><th scope=\"col\" class=\"n\">by OTP</th><th scope=\"col\">stops</th><th scope=\"col\">starts</th><th scope=\"col\">gives up</th><th scope=\"col\">root survives</th></tr></thead>\n<tbody>\n"

-- the map of the tree
unfoldable pub map_part : List ℕ → List ℕ
map_part map = map_legend ++ map ++ limits_legend

-- the table of the rows
unfoldable pub table_part : List Row → List ℕ
table_part rows = limits_titles ++ flat_map row_html rows ++ codes "</tbody>\n</table>\n"

-- the page of these rows, whose file has this name
unfoldable pub limits_page : List ℕ → List ℕ → List Row → List ℕ
limits_page name map rows = head_text (codes "What each crash costs in") name ++ map_part map ++ table_part rows ++ foot_text

abbrev pub is_none : List Row → Bool
is_none [] = true
is_none (row ∷ rows) = false

-- a page of rows of a tree, on which each child of its map says what its row does
abbrev pub IsLimitsPage : List ℕ → Tree → List Row → List ℕ → Type 0
IsLimitsPage name tree rows page = (map : List ℕ) × (IsPiece (map_html rows) MAX_DEPTH [] tree map × (page ≡ limits_page name map rows))

-- the rows of those children that are asked for were told; or a child or a supervisor is asked for, and there is none
unfoldable pub TellsRows : Bool → List ℕ → Pick → Tree → List Row → List ℕ → List ℕ → Type 0
TellsRows true name pick tree rows before after = (page : List ℕ) × (IsLimitsPage name tree rows page × (after ≡ before ++ page))
TellsRows false name pick tree rows before after = (is_all pick ≡ false) × ((rows ≡ []) × (after ≡ before))

abbrev pub TellsLimits : Bool → List ℕ → Grain → Pick → Tree → List ℕ → List ℕ → Type 0
TellsLimits found name grain pick tree before after =
    (rows : List Row) × (AreRows grain pick tree rows × TellsRows found name pick tree rows before after)
