-- What is found of the starts of a file's children (own).
use Rattle.std.specs.Prelude.{◌≡◌, ℕ, List, [], ◌∷◌, Some, None, Ok}
use Rattle.otp_check.specs.Texts.{Remarked}
use Rattle.otp_file.specs.Files.{Says}
use Rattle.otp_file.specs.Trees.{Tree, tables_of}
use Rattle.otp_file.specs.RolesFaults.{plan_fault}
use Rattle.otp_file.specs.declared.roles.fault.PlanFault.{PlanFault}
use Rattle.otp_check.specs.declared.starts.finding.StartFinding.{StartFinding}

-- the file says a tree each of whose starts stands for a job that fits
abbrev pub IsRunnable : List ℕ → Type 0
IsRunnable file = (tree : Tree) × (Says file (Ok tree) × (plan_fault (tables_of tree) ≡ None))

-- the file says a tree that has this to be said against its starts
abbrev pub HasStarts : List ℕ → PlanFault → Type 0
HasStarts file why = (tree : Tree) × (Says file (Ok tree) × (plan_fault (tables_of tree) ≡ Some why))

-- nothing is found exactly where the file can be run
abbrev pub FindsUnfit : List StartFinding → List ℕ → Type 0
FindsUnfit [] file = IsRunnable file
FindsUnfit (first ∷ others) file = (why : PlanFault) × HasStarts file why

-- what a finding says
abbrev pub remarked : StartFinding → Remarked
remarked finding = record { line = finding.line; text = finding.text.items }
