-- What is said of the tree of a file, or that it could not be (own).
use Rattle.std.specs.Prelude.{◌≡◌, ℕ, ◌<◌, List, [], Ok}
use Rattle.std.specs.Io.KnownBytes.{Appends}
use Rattle.otp_check.specs.Checks.{IsFirstFault}
use Rattle.otp_file.specs.Files.{Says}
use Rattle.otp_file.specs.Trees.{Tree}
use Rattle.otp_objects.specs.Trees.{TellsTree}
use Rattle.otp_sim.specs.Devices.{Written}
use Rattle.otp_exit.specs.Devices.{HasTree}
use Rattle.otp_exit.specs.declared.ending.ProgramEnd.{ProgramEnd}
use Rattle.otp_exit.specs.declared.ending.ProgramEnd.TheVariants.{Done, NoTree, OutputFailed, OutOfMemory}

-- what is said of the tree of the file of this name could not be: the file says none, there is no memory, or the writer failed
abbrev pub IsNotSaid : List ℕ → ProgramEnd → List ℕ → Written → Written → Type 0
IsNotSaid name (NoTree why named) file old new = (new ≡ old) × ((named.now ≡ name) × IsFirstFault why file)
IsNotSaid name OutputFailed file old new = HasTree file × (old.failures < new.failures)
IsNotSaid name OutOfMemory file old new = new ≡ old
IsNotSaid name _ file old new = ⊥

-- a tree was drawn
abbrev pub IsDrawn : List ℕ → ProgramEnd → List ℕ → Written → Written → Type 0
IsDrawn name Done file old new = HasTree file
IsDrawn name ending file old new = IsNotSaid name ending file old new

-- the file says a tree, and the text is the object of it
abbrev pub HasTreeObject : List ℕ → List ℕ → List ℕ → Type 0
HasTreeObject name file text = (tree : Tree) × (Says file (Ok tree) × TellsTree name tree [] text)

-- a tree was written as an object
abbrev pub IsTreeTold : List ℕ → ProgramEnd → List ℕ → Written → Written → Type 0
IsTreeTold name Done file old new = (text : List ℕ) × (HasTreeObject name file text × Appends old.bytes new.bytes text)
IsTreeTold name ending file old new = IsNotSaid name ending file old new
