-- What opening a tree answers (own).
use Rattle.std.specs.Prelude.{◌≡◌, ℕ, List, Option, Some, None, Result, Ok, Err, ⊤}
use Rattle.otp_file.specs.Files.{IsOfTree, IsToml, SaysAt}
use Rattle.otp_file.specs.Trees.{Tree}
use Rattle.otp_file.specs.declared.fault.TableFault.{TableFault}
use Rattle.otp_file.specs.declared.fault.TreeFault.TheVariants as fault
use Rattle.otp_driver.specs.declared.session.Session.{Session}
use Rattle.otp_driver.specs.Opened.{Opens}
use Rattle.otp_c.specs.declared.shapes.status.TheConstants.{OTP_BAD_TREE, OTP_MEMORY, OTP_OK}
use Rattle.otp_c.specs.declared.shapes.structs.CFault.{CFault}
use Rattle.otp_c.specs.Faults.{ShowsFault}

-- the bytes are refused for this
pub record IsRefusal (bytes : List ℕ) (why : TableFault) : Type 0 where
  pub memory : ¬ (why.fault ≡ fault.OutOfMemory)
  pub not_toml : why.fault ≡ fault.NotToml → ¬ (IsToml bytes)
  pub of_tree : IsOfTree why.fault → SaysAt bytes (Err why)

-- what the bytes of a tree file give: a tree; no memory; or a refusal
abbrev pub ReadsTree : List ℕ → Result Tree (Option TableFault) → Type 0
ReadsTree bytes (Ok tree) = SaysAt bytes (Ok tree)
ReadsTree bytes (Err None) = ⊤
ReadsTree bytes (Err (Some why)) = IsRefusal bytes why

-- what a tree that is opened gives: a session; no memory; or a refusal
abbrev pub Reads : List ℕ → Result Session (Option TableFault) → Type 0
Reads bytes (Ok session) = (tree : Tree) × SaysAt bytes (Ok tree) × Opens tree session.driver × (session.answer ≡ None)
Reads bytes (Err None) = ⊤
Reads bytes (Err (Some why)) = IsRefusal bytes why

-- what the call answers to an opening; where the box of a tree gets no memory there is none
abbrev pub SaysOpen : Result Session (Option TableFault) → ℕ → Option Session → CFault → CFault → Type 0
SaysOpen (Ok session) status held old new = (status ≡ OTP_OK) × (held ≡ Some session) × (new ≡ old)
SaysOpen (Err None) status held old new = (status ≡ OTP_MEMORY) × (held ≡ None) × (new ≡ old)
SaysOpen (Err (Some why)) status held old new = (status ≡ OTP_BAD_TREE) × (held ≡ None) × ShowsFault why new

abbrev pub OpensIn : List ℕ → ℕ → Option Session → CFault → CFault → Type 0
OpensIn bytes status held old new = (answer : Result Session (Option TableFault)) × Reads bytes answer × SaysOpen answer status held old new
