-- Where a page goes, and what was read for it (own).
use Rattle.std.specs.Prelude.{◌≡◌, ◌⊎◌, ℕ, ◌<◌, List, Option}
use Rattle.std.specs.Borrow.{Bor}
use Rattle.std.specs.Io.KnownBytes.{Appends}
use Rattle.otp_sim.specs.Devices.{Written}
use Rattle.otp_exit.specs.Devices.{Files, MayWrite}
use Rattle.otp_exit.specs.Told.{IsUnkept}
use Rattle.otp_exit.specs.declared.ending.ProgramEnd.{ProgramEnd}
use Rattle.otp_exit.specs.declared.ending.ProgramEnd.TheVariants.{OutputFailed}
use Rattle.otp_cli.specs.declared.words.Page.{Page}
use Rattle.otp_cli.specs.declared.words.Page.TheVariants as page

-- it may go there, where this tree file and this script are read: no file is lost by it
abbrev pub IsAllowed : Files → Page → List ℕ → Option (Bor (List ℕ)) → Type 0
IsAllowed known page.Output file script = Unit {0}
IsAllowed known (page.File name) file script = MayWrite known name.now file script

-- it may not go there
abbrev pub IsRefused : Page → ProgramEnd → Type 0
IsRefused page.Output ending = ⊥
IsRefused (page.File name) ending = IsUnkept name ending

-- it went there
abbrev pub IsKept : Files → Page → List ℕ → Written → Written → Type 0
IsKept known page.Output html old new = Appends old.bytes new.bytes html
IsKept known (page.File name) html old new = (new ≡ old) × known.keeps name.now html

-- it couldn't be written
abbrev pub IsLost : Page → ProgramEnd → Written → Written → Type 0
IsLost page.Output ending old new = (ending ≡ OutputFailed) × (old.failures < new.failures)
IsLost (page.File name) ending old new = (new ≡ old) × IsUnkept name ending

-- it went where it may go, and the program ends so, or it couldn't be written
abbrev pub IsPut : Files → Page → List ℕ → ProgramEnd → ProgramEnd → Written → Written → Type 0
IsPut known page html made ending old new = ((ending ≡ made) × IsKept known page html old new) ⊎ IsLost page ending old new

-- a page was made and went there, where it may go; or it may not, it couldn't be written, or there is none
abbrev pub IsPaged : Files → Page → List ℕ → Option (Bor (List ℕ)) → (ProgramEnd → List ℕ → Type 0) → (ProgramEnd → Type 0) → ProgramEnd → Written → Written → Type 0
IsPaged known page file script Says IsUnmade ending old new =
    ((html : List ℕ) × (made : ProgramEnd) × (Says made html × (IsAllowed known page file script × IsPut known page html made ending old new)))
    ⊎ ((new ≡ old) × (IsRefused page ending ⊎ IsUnmade ending))
