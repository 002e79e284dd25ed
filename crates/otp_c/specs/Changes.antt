-- What a call answers by which a tree goes on under another tree file (own).
use Rattle.std.specs.Prelude.{◌≡◌, ◌⊎◌, ℕ, List, Option, Some, None, Result, Ok, Err}
use Rattle.otp_file.specs.Trees.{Tree}
use Rattle.otp_file.specs.declared.fault.TableFault.{TableFault}
use Rattle.otp_driver.specs.declared.driven.fault.ChangeRefusal.{ChangeRefusal}
use Rattle.otp_driver.specs.declared.driven.fault.ChangeRefusal.TheVariants.{OutOfMemory}
use Rattle.otp_driver.specs.Changed.{Changes, RefusesChange}
use Rattle.otp_driver.specs.declared.changing.Unchanged.{Unchanged}
use Rattle.otp_driver.specs.declared.session.Session.{Session}
use Rattle.otp_c.specs.declared.shapes.status.TheConstants.{OTP_BAD_TREE, OTP_MEMORY, OTP_OK}
use Rattle.otp_c.specs.declared.shapes.structs.CFault.{CFault}
use Rattle.otp_c.specs.Faults.{ShowsFault, ShowsUnchanged}
use Rattle.otp_c.specs.Statuses.{change_status}
use Rattle.otp_c.specs.Opens.{ReadsTree}

-- the fault is written, unless memory was refused
abbrev pub TellsWhy : ChangeRefusal → Unchanged → CFault → CFault → Type 0
TellsWhy OutOfMemory u old new = new ≡ old
TellsWhy _ u old new = ShowsUnchanged u new

-- the tree goes on under this one, and its last answer stays; or it is as it was, and is told why
abbrev pub SaysGoneOn : Tree → ℕ → CFault → CFault → Session → Session → Type 0
SaysGoneOn tree status old new before after =
    ((status ≡ OTP_OK) × (new ≡ old) × Changes tree before.driver after.driver × (after.answer ≡ before.answer))
    ⊎ ((u : Unchanged) × RefusesChange tree before.driver u × (status ≡ change_status u.why) × TellsWhy u.why u old new × (after ≡ before))

abbrev pub SaysChange : Result Tree (Option TableFault) → ℕ → CFault → CFault → Session → Session → Type 0
SaysChange (Ok tree) status old new before after = SaysGoneOn tree status old new before after
SaysChange (Err None) status old new before after = (status ≡ OTP_MEMORY) × (new ≡ old) × (after ≡ before)
SaysChange (Err (Some why)) status old new before after = (status ≡ OTP_BAD_TREE) × ShowsFault why new × (after ≡ before)

-- a tree goes on under the tree file that these bytes are
abbrev pub ChangesIn : List ℕ → ℕ → CFault → CFault → Session → Session → Type 0
ChangesIn bytes status old new before after =
    (answer : Result Tree (Option TableFault)) × ReadsTree bytes answer × SaysChange answer status old new before after
