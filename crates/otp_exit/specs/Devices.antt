-- What is said of files, and of an input that isn't read (own).
use Rattle.std.specs.Prelude.{◌≡◌, ℕ, List, Option, Some, None, Ok}
use Rattle.std.specs.Borrow.{Bor}
use Rattle.otp_file.specs.Files.{Says}
use Rattle.otp_file.specs.Trees.{Tree}
use Rattle.otp_sim.specs.Devices.{Devices}

-- what is known of files by their names: what bytes one may hold, what of one to which such bytes were written, that two names are of
-- two files, and that nothing is lost where one is written anew
pub record Files : Type 1 where
  pub holds : List ℕ → List ℕ → Type 0
  pub keeps : List ℕ → List ℕ → Type 0
  pub are_apart : List ℕ → List ℕ → Type 0
  pub is_free : List ℕ → Type 0

-- a file is another one than that of this name, if one is named
abbrev pub IsApart : Files → List ℕ → Option (Bor (List ℕ)) → Type 0
IsApart known page None = Unit {0}
IsApart known page (Some input) = known.are_apart page input.now

-- a page may be written to the file of this name: nothing is lost, and it is none of the files that are read
pub record MayWrite (known : Files) (page file : List ℕ) (script : Option (Bor (List ℕ))) : Type 0 where
  pub free : known.is_free page
  pub no_file : known.are_apart page file
  pub no_script : IsApart known page script

-- the file says a tree
abbrev pub HasTree : List ℕ → Type 0
HasTree file = (tree : Tree) × Says file (Ok tree)

-- of the input nothing was read
abbrev pub IsUnread : Devices → Devices → Type 0
IsUnread old new = new.input ≡ old.input
