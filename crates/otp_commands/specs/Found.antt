-- What is found in a file whose tree is lawful (own).
use Rattle.std.specs.Prelude.{◌≡◌, ℕ, List, [], ◌∷◌, map, Ok}
use Rattle.otp_check.specs.Texts.{Remarked}
use Rattle.otp_file.specs.Files.{Says}
use Rattle.otp_file.specs.Trees.{Tree}
use Rattle.otp_commands.specs.Lint.{remarks_in}
use Rattle.otp_commands.specs.Texts.{remark_text}
use Rattle.otp_commands.specs.declared.lint.found.LintFinding.{LintFinding}

abbrev pub text_of : LintFinding → List ℕ
text_of finding = finding.text.items

-- its line, where that is known, and its words
abbrev pub remarked : LintFinding → Remarked
remarked finding = record { line = finding.line; text = finding.text.items }

-- these are the texts of all remarks on the tree that the file says, in their order
abbrev pub Finds : List LintFinding → List ℕ → Type 0
Finds findings file = (tree : Tree) × (Says file (Ok tree) × (map text_of findings ≡ map remark_text (remarks_in tree)))

-- there is nothing to remark on the tree that the file says
abbrev pub IsPlain : List ℕ → Type 0
IsPlain file = (tree : Tree) × (Says file (Ok tree) × (remarks_in tree ≡ []))

-- there is something to remark on it
abbrev pub HasRemarks : List ℕ → Type 0
HasRemarks file = (tree : Tree) × (Says file (Ok tree) × ¬ (remarks_in tree ≡ []))

-- nothing is found exactly where there is nothing to remark
abbrev pub FindsAny : List LintFinding → List ℕ → Type 0
FindsAny [] file = IsPlain file
FindsAny (first ∷ others) file = HasRemarks file
