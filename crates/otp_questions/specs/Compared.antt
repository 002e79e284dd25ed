-- What `diff` writes (own).
use Rattle.std.specs.Prelude.{◌≡◌, ◌⊎◌, ℕ, ◌<◌, Bool, true, false, List, [], Ok}
use Rattle.std.specs.Io.KnownBytes.{Appends}
use Rattle.otp_check.specs.Checks.{IsFirstFault}
use Rattle.otp_sim.specs.Devices.{Written}
use Rattle.otp_diff.specs.Differs.{Differs}
use Rattle.otp_diff.specs.declared.change.Form.{Form}
use Rattle.otp_diff.specs.declared.change.Form.TheVariants as form
use Rattle.otp_file.specs.Files.{Says}
use Rattle.otp_file.specs.Trees.{Tree}
use Rattle.otp_exit.specs.Devices.{HasTree}
use Rattle.otp_exit.specs.declared.ending.ProgramEnd.{ProgramEnd}
use Rattle.otp_exit.specs.declared.ending.ProgramEnd.TheVariants.{Done, NoTree, HistoryFull, OutputFailed, OutOfMemory}

-- the answer is an object, or lines
abbrev pub form_of : Bool → Form
form_of true = form.Object
form_of false = form.Text

-- each file says a tree, and the text tells what differs in the two
abbrev pub HasDifference : Bool → List ℕ → List ℕ → List ℕ → List ℕ → List ℕ → Type 0
HasDifference is_json name other file other_file text =
    (tree : Tree) × (other_tree : Tree)
    × (Says file (Ok tree) × (Says other_file (Ok other_tree) × Differs (form_of is_json) name other tree other_tree [] text))

-- what differs in the trees of two files was written, or one of the files says none
abbrev pub IsCompared : Bool → List ℕ → List ℕ → ProgramEnd → List ℕ → List ℕ → Written → Written → Type 0
IsCompared is_json name other Done file other_file old new =
    (text : List ℕ) × (HasDifference is_json name other file other_file text × Appends old.bytes new.bytes text)
IsCompared is_json name other (NoTree why named) file other_file old new =
    (new ≡ old) × (((named.now ≡ name) × IsFirstFault why file) ⊎ ((named.now ≡ other) × IsFirstFault why other_file))
IsCompared is_json name other HistoryFull file other_file old new = (new ≡ old) × (HasTree file × HasTree other_file)
IsCompared is_json name other OutputFailed file other_file old new =
    (HasTree file × HasTree other_file) × (old.failures < new.failures)
IsCompared is_json name other OutOfMemory file other_file old new = new ≡ old
IsCompared is_json name other _ file other_file old new = ⊥
