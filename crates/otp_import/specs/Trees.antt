-- What an import gives (own).
use Rattle.std.specs.Prelude.{ℕ, List, Ok}
use Rattle.otp_file.specs.Files.{Says}
use Rattle.otp_file.specs.Trees.{Tree}

-- the text is a tree file that says a tree
abbrev pub HasTree : List ℕ → Type 0
HasTree text = (tree : Tree) × Says text (Ok tree)
