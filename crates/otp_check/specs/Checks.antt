-- What is found in a file, and what its tree says (own).
use Rattle.std.specs.Prelude.{◌≡◌, ◌⊎◌, ℕ, List, [], ◌∷◌, ◌++◌, Some, None, Ok, Err}
use Rattle.otp_file.specs.declared.fault.TreeFault.{TreeFault}
use Rattle.otp_file.specs.declared.fault.TreeFault.TheVariants.{NotToml}
use Rattle.otp_file.specs.Files.{Says, IsToml}
use Rattle.otp_file.specs.Trees.{Tree}
use Rattle.otp_check.specs.declared.finding.Finding.{Finding}
use Rattle.otp_check.specs.declared.parts.Found.{Found}
use Rattle.otp_check.specs.Texts.{Remarked}

-- the first fault of the file's document, or that it is no document
abbrev pub IsFirstFault : TreeFault → List ℕ → Type 0
IsFirstFault why file = Says file (Err why) ⊎ ((why ≡ NotToml) × (¬ IsToml file))

-- nothing is found exactly where the file says a tree, and else first the fault for which the tree is refused
abbrev pub Finds : List Finding → List ℕ → Type 0
Finds [] file = (tree : Tree) × Says file (Ok tree)
Finds (first ∷ others) file = IsFirstFault first.fault file

-- what is found begins with this fault
abbrev pub BeginsWith : TreeFault → List Finding → Type 0
BeginsWith why [] = ⊥
BeginsWith why (first ∷ others) = first.fault ≡ why

-- one thing more is held: as the fault for which the tree is refused, which was not found before, or behind the others
abbrev pub Puts : Finding → Found → Found → Type 0
Puts one old new =
    ((old.first ≡ None) × (new.first ≡ Some one) × (new.others.items ≡ old.others.items))
    ⊎ ((new.first ≡ old.first) × (new.others.items ≡ old.others.items ++ one ∷ []))

-- one thing more is held, with this fault and this text
abbrev pub Holds : TreeFault → List ℕ → Found → Found → Type 0
Holds why text old new = (held : Finding) × (held.fault ≡ why) × (held.text.items ≡ text) × Puts held old new

-- what a finding says
abbrev pub remarked : Finding → Remarked
remarked finding = record { line = finding.line; text = finding.text.items }
