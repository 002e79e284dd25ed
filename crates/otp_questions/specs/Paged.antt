-- Pages of HTML, and objects, that are made of a file and not yet written (own).
use Rattle.std.specs.Prelude.{◌≡◌, ◌⊎◌, ℕ, ◌<◌, true, false, List, [], None, Option, Ok}
use Rattle.std.specs.Borrow.{Bor}
use Rattle.std.specs.Io.KnownBytes.{Appends}
use Rattle.otp_sim.specs.Devices.{Written}
use Rattle.otp_try.specs.Accounts.{IsAccount}
use Rattle.otp_try.specs.declared.account.account.Account.{Account}
use Rattle.otp_check.specs.Checks.{IsFirstFault}
use Rattle.otp_file.specs.Files.{Says}
use Rattle.otp_file.specs.Trees.{Tree}
use Rattle.otp_costs.specs.declared.alike.Grain.{Grain}
use Rattle.otp_costs.specs.declared.pick.Pick.{Pick}
use Rattle.otp_pages.specs.Limits.{TellsLimits}
use Rattle.otp_pages.specs.Trees.{TellsTree}
use Rattle.otp_try_pages.specs.Objects.{TellsRun}
use Rattle.otp_try_pages.specs.Timeline.{TellsPage}
use Rattle.otp_exit.specs.Devices.{HasTree}
use Rattle.otp_exit.specs.declared.ending.ProgramEnd.{ProgramEnd}
use Rattle.otp_exit.specs.declared.ending.ProgramEnd.TheVariants.{Done, NoTree, NotFound, NoSupervisor, HistoryFull, OutputFailed, OutOfMemory}
use Rattle.otp_questions.specs.Limited.{IsUnknown}
use Rattle.otp_questions.specs.Tried.{ending_of_try}

-- nothing was made of the file of this name: it says no tree, a supervisor's history gave out, or memory did
abbrev pub IsNotMade : List ℕ → ProgramEnd → List ℕ → Type 0
IsNotMade name (NoTree why named) file = (named.now ≡ name) × IsFirstFault why file
IsNotMade name HistoryFull file = HasTree file
IsNotMade name OutOfMemory file = Unit {0}
IsNotMade name _ file = ⊥

-- the page of the tree that the file says, after which the program ends well
abbrev pub IsTreePage : List ℕ → List ℕ → ProgramEnd → List ℕ → Type 0
IsTreePage name file ending page = (ending ≡ Done) × ((tree : Tree) × (Says file (Ok tree) × TellsTree name tree page))

-- the page of the limits of those children that are asked for
abbrev pub IsLimitsPage : Grain → Pick → List ℕ → List ℕ → ProgramEnd → List ℕ → Type 0
IsLimitsPage grain pick name file ending page =
    (ending ≡ Done) × ((tree : Tree) × (Says file (Ok tree) × TellsLimits true name grain pick tree [] page))

-- or there is none of them, or nothing was made
abbrev pub HasNoLimits : Grain → Pick → List ℕ → ProgramEnd → List ℕ → Type 0
HasNoLimits grain pick name (NotFound what near) file =
    IsUnknown pick near (NotFound what near) × ((tree : Tree) × (after : List ℕ) × (Says file (Ok tree) × TellsLimits false name grain pick tree [] after))
HasNoLimits grain pick name (NoSupervisor what) file =
    IsUnknown pick None (NoSupervisor what)
    × ((tree : Tree) × (after : List ℕ) × (Says file (Ok tree) × TellsLimits false name grain pick tree [] after))
HasNoLimits grain pick name ending file = IsNotMade name ending file

-- a run of a script on the tree that the file says, as it is kept
abbrev pub IsRunOf : List ℕ → Account → Type 0
IsRunOf file account = (tree : Tree) × (Says file (Ok tree) × IsAccount tree account)

-- after a run of the script of this name, if it has one, the program ends so
abbrev pub EndsRun : Option (Bor (List ℕ)) → Account → ProgramEnd → Type 0
EndsRun script account ending = ending ≡ ending_of_try script account.end

-- as a page
abbrev pub IsRunPage : List ℕ → Option (Bor (List ℕ)) → List ℕ → ProgramEnd → List ℕ → Type 0
IsRunPage name script file ending page = (account : Account) × ((IsRunOf file account × EndsRun script account ending) × TellsPage name account page)

-- as an object
abbrev pub IsRunObject : List ℕ → Option (Bor (List ℕ)) → List ℕ → ProgramEnd → List ℕ → Type 0
IsRunObject name script file ending text = (account : Account) × ((IsRunOf file account × EndsRun script account ending) × TellsRun name account text)

-- a run was written as an object, or not
abbrev pub IsRunTold : List ℕ → Option (Bor (List ℕ)) → ProgramEnd → List ℕ → Written → Written → Type 0
IsRunTold name script ending file old new =
    ((text : List ℕ) × (IsRunObject name script file ending text × Appends old.bytes new.bytes text))
    ⊎ (((ending ≡ OutputFailed) × (HasTree file × (old.failures < new.failures)))
    ⊎ ((new ≡ old) × IsNotMade name ending file))
