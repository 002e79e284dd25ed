-- What `limits` writes (own).
use Rattle.std.specs.Prelude.{◌≡◌, ℕ, Bool, true, false, List, [], None, Ok, Option}
use Rattle.std.specs.Io.KnownBytes.{Appends}
use Rattle.otp_file.specs.Files.{Says}
use Rattle.otp_file.specs.Trees.{Tree}
use Rattle.otp_reason.specs.declared.text.Text.{Text}
use Rattle.otp_sim.specs.Devices.{Written}
use Rattle.otp_costs.specs.Told.{Tells}
use Rattle.otp_costs.specs.declared.alike.Grain.{Grain}
use Rattle.otp_costs.specs.declared.pick.Pick.{Pick}
use Rattle.otp_costs.specs.declared.pick.Pick.TheVariants as pick
use Rattle.otp_objects.specs.Limits.{TellsObject}
use Rattle.otp_trial.specs.declared.trial.Halt.{Halt}
use Rattle.otp_trial.specs.declared.trial.Halt.TheVariants as halt
use Rattle.otp_exit.specs.declared.ending.ProgramEnd.{ProgramEnd}
use Rattle.otp_exit.specs.Devices.{HasTree}
use Rattle.otp_exit.specs.declared.ending.ProgramEnd.TheVariants.{Done, NotFound, NoSupervisor, HistoryFull, OutOfMemory}
use Rattle.otp_questions.specs.Said.{IsNotSaid}

-- how the program ends where a core can't be played on
abbrev pub ending_of_halt : Halt → ProgramEnd
ending_of_halt halt.HistoryFull = HistoryFull
ending_of_halt halt.OutOfMemory = OutOfMemory

-- the limits of those children that are asked for, as a table or as an object with the name of their file
abbrev pub TellsLimits : Bool → List ℕ → Bool → Grain → Pick → Tree → List ℕ → List ℕ → Type 0
TellsLimits false name found grain pick tree before after = Tells found grain pick tree before after
TellsLimits true name found grain pick tree before after = TellsObject found name grain pick tree before after

-- the file says a tree, and the text tells the limits of those children that are asked for
abbrev pub HasLimits : Bool → List ℕ → Grain → Pick → List ℕ → List ℕ → Type 0
HasLimits is_json name grain pick file text = (tree : Tree) × (Says file (Ok tree) × TellsLimits is_json name true grain pick tree [] text)

-- the file says a tree, and there is none
abbrev pub HasNone : Bool → List ℕ → Grain → Pick → List ℕ → Type 0
HasNone is_json name grain pick file =
    (tree : Tree) × (after : List ℕ) × (Says file (Ok tree) × TellsLimits is_json name false grain pick tree [] after)

-- how the program ends where there is no child, or no supervisor with children, of the name that is asked for; the child with this path
-- may be meant
abbrev pub IsUnknown : Pick → Option Text → ProgramEnd → Type 0
IsUnknown pick.All near ending = ⊥
IsUnknown (pick.Child name) near ending = ending ≡ NotFound name near
IsUnknown (pick.Table name) near ending = ending ≡ NoSupervisor name

-- the limits of a tree were written, or none of its children has the name that is asked for
abbrev pub IsLimited : Bool → Grain → Pick → List ℕ → ProgramEnd → List ℕ → Written → Written → Type 0
IsLimited is_json grain pick name Done file old new =
    (text : List ℕ) × (HasLimits is_json name grain pick file text × Appends old.bytes new.bytes text)
IsLimited is_json grain pick name (NotFound what near) file old new = (new ≡ old) × (IsUnknown pick near (NotFound what near) × HasNone is_json name grain pick file)
IsLimited is_json grain pick name (NoSupervisor what) file old new =
    (new ≡ old) × (IsUnknown pick None (NoSupervisor what) × HasNone is_json name grain pick file)
IsLimited is_json grain pick name HistoryFull file old new = (new ≡ old) × HasTree file
IsLimited is_json grain pick name ending file old new = IsNotSaid name ending file old new
