-- What is found where texts are those of all remarks.
use Rattle.std.proofs.Common.{◌≡◌, ◌∙◌, ℕ, List, [], ◌∷◌, Ok, map, refl, rules, sym}
use Rattle.otp_file.specs.Files.{Says}
use Rattle.otp_file.specs.Trees.{Tree}
use Rattle.otp_commands.specs.Found.{FindsAny, text_of}
use Rattle.otp_commands.specs.Lint.{remarks_in}
use Rattle.otp_commands.specs.Texts.{remark_text}
use Rattle.otp_commands.specs.declared.lint.found.LintFinding.{LintFinding}
use Rattle.otp_commands.specs.declared.lint.remark.Remark.{Remark}

any_of : (file : List ℕ) (tree : Tree) (found : List LintFinding) (remarks : List Remark) → Says file (Ok tree) → remarks ≡ remarks_in tree
    → map text_of found ≡ map remark_text remarks → FindsAny found file
any_of file tree [] [] says are same = (tree, (says, sym are))
any_of file tree [] (remark ∷ remarks) says are same = absurd (search (rules, same))
any_of file tree (first ∷ others) [] says are same = absurd (search (rules, same))
any_of file tree (first ∷ others) (remark ∷ remarks) says are same = (tree, (says, λ none. absurd (let no : remark ∷ remarks ≡ [] = are ∙ none in search (rules, no))))

-- something is found exactly where there is a remark
pub any_found : (file : List ℕ) (tree : Tree) (found : List LintFinding) → Says file (Ok tree)
    → map text_of found ≡ map remark_text (remarks_in tree) → FindsAny found file
any_found file tree found says same = any_of file tree found (remarks_in tree) says refl same
