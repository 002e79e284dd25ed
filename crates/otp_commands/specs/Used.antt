-- What was done with a tree file, by how the program ended (own).
use Rattle.std.specs.Prelude.{◌≡◌, ◌⊎◌, ℕ, ◌<◌, Bool, true, false, List, [], Option, Some, None}
use Rattle.std.specs.Io.KnownBytes.{Appends}
use Rattle.std.specs.Borrow.{Bor}
use Rattle.otp_sim.specs.Devices.{AppendsPart, Devices, Written}
use Rattle.otp_check.specs.Checks.{IsFirstFault}
use Rattle.otp_logs.specs.Formats.{log_format}
use Rattle.otp_logs.specs.Translated.{SaysFormat, StandsFor}
use Rattle.otp_logs.specs.declared.format.Format.{Format}
use Rattle.otp_logs.specs.declared.translating.Translation.{Translation}
use Rattle.otp_questions.specs.Compared.{IsCompared}
use Rattle.otp_costs.specs.declared.alike.Grain.{Grain}
use Rattle.otp_costs.specs.declared.pick.Pick.{Pick}
use Rattle.otp_questions.specs.Limited.{IsLimited}
use Rattle.otp_questions.specs.Paged.{HasNoLimits, IsLimitsPage, IsNotMade, IsRunPage, IsRunTold, IsTreePage}
use Rattle.otp_questions.specs.Replayed.{IsReplay, IsReplayTold}
use Rattle.otp_questions.specs.Said.{IsDrawn, IsTreeTold}
use Rattle.otp_questions.specs.Stopped.{IsStopped}
use Rattle.otp_questions.specs.Rooted.{IsRooted}
use Rattle.otp_questions.specs.Suggested.{IsSuggested}
use Rattle.otp_questions.specs.Tried.{IsTrial}
use Rattle.otp_exit.specs.Devices.{Files, IsUnread}
use Rattle.otp_exit.specs.Told.{IsSmall}
use Rattle.otp_exit.specs.declared.ending.ProgramEnd.{ProgramEnd}
use Rattle.otp_exit.specs.declared.ending.ProgramEnd.TheVariants.{FileNotRead, NoTree, OutOfMemory, OutputFailed}
use Rattle.otp_cli.specs.declared.words.Form.{Form}
use Rattle.otp_cli.specs.declared.words.Form.TheVariants as form
use Rattle.otp_cli.specs.declared.words.Page.{Page}
use Rattle.otp_cli.specs.declared.words.Usage.{Usage}
use Rattle.otp_cli.specs.declared.words.Usage.TheVariants as usage
use Rattle.otp_commands.specs.Imported.{IsImported}
use Rattle.otp_commands.specs.Pages.{IsPaged, IsRefused}

-- the script is in another file, of which nothing of the input is read: that can't be read, or the tree was tried by it
abbrev pub IsTrialOf : List ℕ → Option (Bor (List ℕ)) → ProgramEnd → List ℕ → Devices → Devices → Type 0
IsTrialOf name None ending file old new = IsTrial name None ending file old new
IsTrialOf name (Some script) ending file old new =
    ((ending ≡ FileNotRead) × (new ≡ old)) ⊎ ((ending ≡ OutOfMemory) × (new ≡ old))
    ⊎ (IsTrial name (Some script) ending file old new × IsUnread old new)

-- the tree of a file was compared with that of another of this name, of which it is known what bytes it may hold; or that can't be
-- read
abbrev pub IsComparedWith : (List ℕ → Type 0) → Bool → List ℕ → List ℕ → ProgramEnd → List ℕ → Written → Written → Type 0
IsComparedWith Holds is_json name other ending file old new =
    ((ending ≡ FileNotRead) × (new ≡ old)) ⊎ ((ending ≡ OutOfMemory) × (new ≡ old))
    ⊎ ((other_file : List ℕ) × ((Holds other_file × IsSmall other_file) × IsCompared is_json name other ending file other_file old new))

-- behind what is told of a log of another program the lines were replayed that stand for it; or it couldn't be told
abbrev pub IsReplayBehind : List ℕ → Bor (List ℕ) → List ℕ → Bool → List ℕ → ProgramEnd → List ℕ → Written → Written → Type 0
IsReplayBehind notes log lines is_listed name ending file old new =
    ((ending ≡ OutputFailed) × (AppendsPart old.bytes new.bytes notes × (old.failures < new.failures)))
    ⊎ ((middle : Written) × (Appends old.bytes middle.bytes notes × IsReplay log lines is_listed name ending file middle new))

-- these lines were replayed, also as an object, which has the notes
abbrev pub IsReplayWith : Bool → List ℕ → Bor (List ℕ) → List ℕ → Bool → List ℕ → ProgramEnd → List ℕ → Written → Written → Type 0
IsReplayWith false notes log lines is_listed name ending file old new = IsReplayBehind notes log lines is_listed name ending file old new
IsReplayWith true notes log lines is_listed name ending file old new = IsReplayTold notes log lines is_listed name ending file old new

-- a log was replayed as it stands
abbrev pub IsReplayAlone : Bool → Bor (List ℕ) → List ℕ → Bool → List ℕ → ProgramEnd → List ℕ → Written → Written → Type 0
IsReplayAlone false log text is_listed name ending file old new = IsReplay log text is_listed name ending file old new
IsReplayAlone true log text is_listed name ending file old new = IsReplayTold [] log text is_listed name ending file old new

-- a log of another program, of this format, was replayed by as many lines as it has, behind notes that say the format
abbrev pub IsForeignReplay : Format → Bool → Bor (List ℕ) → List ℕ → Bool → List ℕ → ProgramEnd → List ℕ → Written → Written → Type 0
IsForeignReplay format is_json log text is_listed name ending file old new =
    (lines : List ℕ) × (StandsFor lines text
    × ((notes : List ℕ) × (SaysFormat log.now format notes × IsReplayWith is_json notes log lines is_listed name ending file old new)))

-- a log was replayed by what stands for it; as it stands, where that is nothing
abbrev pub IsReplayBy : Option Translation → Bool → Bor (List ℕ) → List ℕ → Bool → List ℕ → ProgramEnd → List ℕ → Written → Written → Type 0
IsReplayBy None is_json log text is_listed name ending file old new = IsReplayAlone is_json log text is_listed name ending file old new
IsReplayBy (Some found) is_json log text is_listed name ending file old new =
    IsReplayWith is_json found.notes.items log found.lines.items is_listed name ending file old new

-- a log that is of this format was replayed; one that is of none, as it stands
abbrev pub IsReplayAs : Option Format → Bool → Bor (List ℕ) → List ℕ → Bool → List ℕ → ProgramEnd → List ℕ → Written → Written → Type 0
IsReplayAs None is_json log text is_listed name ending file old new = IsReplayAlone is_json log text is_listed name ending file old new
IsReplayAs (Some format) is_json log text is_listed name ending file old new =
    IsForeignReplay format is_json log text is_listed name ending file old new

-- a log was replayed as what it is; or memory was refused
abbrev pub IsReplayOfLog : Bool → Bor (List ℕ) → List ℕ → Bool → List ℕ → ProgramEnd → List ℕ → Written → Written → Type 0
IsReplayOfLog is_json log text is_listed name ending file old new =
    ((ending ≡ OutOfMemory) × (new ≡ old)) ⊎ IsReplayAs (log_format text) is_json log text is_listed name ending file old new

-- the file of this name says no tree, or memory was refused
abbrev pub IsWithoutTree : List ℕ → ProgramEnd → List ℕ → Type 0
IsWithoutTree name (NoTree why named) file = (named.now ≡ name) × IsFirstFault why file
IsWithoutTree name OutOfMemory file = Unit {0}
IsWithoutTree name _ file = ⊥

-- the same, where its file of ids may not be read, and the file may say no tree
abbrev pub IsReplayOfText : Bool → Bor (List ℕ) → List ℕ → Bool → List ℕ → ProgramEnd → List ℕ → Written → Written → Type 0
IsReplayOfText is_json log text is_listed name ending file old new =
    ((ending ≡ FileNotRead) × (new ≡ old)) ⊎ ((ending ≡ OutOfMemory) × (new ≡ old))
    ⊎ ((new ≡ old) × IsWithoutTree name ending file)
    ⊎ IsReplayOfLog is_json log text is_listed name ending file old new

-- the log of this name was replayed, of which the same is known; or it can't be read
abbrev pub IsReplayOf : (List ℕ → Type 0) → Bool → Bor (List ℕ) → Bool → List ℕ → ProgramEnd → List ℕ → Written → Written → Type 0
IsReplayOf Holds is_json log is_listed name ending file old new =
    ((ending ≡ FileNotRead) × (new ≡ old)) ⊎ ((ending ≡ OutOfMemory) × (new ≡ old))
    ⊎ ((text : List ℕ) × (Holds text × IsReplayOfText is_json log text is_listed name ending file old new))

-- a script that is taken whole can't be read, or it was, and this was done
abbrev pub IsRead : (ProgramEnd → Written → Written → Type 0) → ProgramEnd → Written → Written → Type 0
IsRead Done ending old new =
    ((ending ≡ FileNotRead) × (new ≡ old)) ⊎ (((ending ≡ OutOfMemory) × (new ≡ old)) ⊎ Done ending old new)

-- a run of such a script was written to a page, which may not go there, or the script can't be read
abbrev pub IsRunPaged : Files → Page → List ℕ → Option (Bor (List ℕ)) → List ℕ → ProgramEnd → Written → Written → Type 0
IsRunPaged known page name script file ending old new =
    ((new ≡ old) × (IsRefused page ending ⊎ ((ending ≡ FileNotRead) ⊎ (ending ≡ OutOfMemory))))
    ⊎ IsPaged known page name script (IsRunPage name script file) (λ ending. IsNotMade name ending file) ending old new

-- the tree of the file of this name was tried, and the run written in this form
abbrev pub IsTrialFor : Files → List ℕ → Option (Bor (List ℕ)) → Form → ProgramEnd → List ℕ → Devices → Devices → Type 0
IsTrialFor known name script form.Text ending file old new = IsTrialOf name script ending file old new
IsTrialFor known name script form.Object ending file old new =
    IsUnread old new × IsRead (λ ending. IsRunTold name script ending file) ending old.output new.output
IsTrialFor known name script (form.Page page) ending file old new =
    IsUnread old new × IsRunPaged known page name script file ending old.output new.output

-- what crashes of the children of a tree cost was written in this form
abbrev pub IsLimitedAs : Files → Form → Grain → Pick → List ℕ → ProgramEnd → List ℕ → Devices → Devices → Type 0
IsLimitedAs known form.Text grain pick name ending file old new = IsUnread old new × IsLimited false grain pick name ending file old.output new.output
IsLimitedAs known form.Object grain pick name ending file old new = IsUnread old new × IsLimited true grain pick name ending file old.output new.output
IsLimitedAs known (form.Page page) grain pick name ending file old new =
    IsUnread old new
    × IsPaged known page name None (IsLimitsPage grain pick name file) (λ ending. HasNoLimits grain pick name ending file) ending old.output new.output

-- a tree was drawn as text, or written as an object or as a page
abbrev pub IsDrawnIn : Files → Form → List ℕ → ProgramEnd → List ℕ → Written → Written → Type 0
IsDrawnIn known form.Text name ending file old new = IsDrawn name ending file old new
IsDrawnIn known form.Object name ending file old new = IsTreeTold name ending file old new
IsDrawnIn known (form.Page page) name ending file old new =
    IsPaged known page name None (IsTreePage name file) (λ ending. IsNotMade name ending file) ending old new

-- remarks on what was read may be told, though all went well
abbrev pub has_remarks : Usage → Bool
has_remarks (usage.Import of_commands) = true
has_remarks _ = false

-- the tree file of this name was used so
abbrev pub IsUsed : Files → List ℕ → Usage → ProgramEnd → List ℕ → Devices → Devices → Type 0
IsUsed known name (usage.Try script writer shows form) ending file old new = IsTrialFor known name script form ending file old new
IsUsed known name (usage.Stop within is_json) ending file old new = IsUnread old new × IsStopped is_json within name ending file old.output new.output
IsUsed known name (usage.Draw form) ending file old new = IsUnread old new × IsDrawnIn known form name ending file old.output new.output
IsUsed known name (usage.Limit pick grain form) ending file old new = IsLimitedAs known form grain pick name ending file old new
IsUsed known name (usage.Suggest child asked is_json) ending file old new =
    IsUnread old new × IsSuggested is_json child asked name ending file old.output new.output
IsUsed known name (usage.Root child times within is_json) ending file old new =
    IsUnread old new × IsRooted is_json child times within name ending file old.output new.output
IsUsed known name (usage.Compare other is_json) ending file old new =
    IsUnread old new × IsComparedWith (known.holds other.now) is_json name other.now ending file old.output new.output
IsUsed known name (usage.Replay log reading is_listed shows is_json) ending file old new =
    IsUnread old new × IsReplayOf (known.holds log.now) is_json log is_listed name ending file old.output new.output
IsUsed known name (usage.Import of_commands) ending file old new =
    IsUnread old new × IsImported of_commands ending old.output new.output

-- a tree file of which it is known what bytes it may hold was used so, or it can't be read
abbrev pub Uses : Files → List ℕ → Usage → ProgramEnd → Devices → Devices → Type 0
Uses known name usage ending old new =
    ((ending ≡ FileNotRead) × (new ≡ old)) ⊎ ((ending ≡ OutOfMemory) × (new ≡ old))
    ⊎ ((file : List ℕ) × ((known.holds name file × IsSmall file) × IsUsed known name usage ending file old new))
