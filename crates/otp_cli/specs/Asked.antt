-- What the words of the command line ask for, by what `clap`'s definition of a simple command finds in them (own).
use Rattle.std.specs.Prelude.{◌≡◌, ℕ, ◌≤◌, Bool, ◌&&◌, ◌||◌, true, false, List, Option, Some, None, count_by, map, option_map, codes, if◌then◌else◌}
use Rattle.std.specs.List.{list_any}
use Rattle.std.specs.Borrow.{Bor}
use Rattle.std.specs.Str.{bytes_eq}
use Rattle.std.specs.Str.Parse.{IsNumeral, digits_value, without_leading_plus}
use Rattle.clap.specs.Words.{Row, Text, all_of, first_of, one_of}
use Rattle.otp_costs.specs.declared.alike.Grain.{Grain}
use Rattle.otp_costs.specs.declared.alike.Grain.TheVariants.{Alike, Each}
use Rattle.otp_costs.specs.declared.pick.Pick.{Pick}
use Rattle.otp_costs.specs.declared.pick.Pick.TheVariants as pick
use Rattle.otp_trial.specs.declared.clock.Clock.{Clock}
use Rattle.otp_trial.specs.declared.clock.Clock.TheVariants.{Milliseconds, Seconds}
use Rattle.otp_try.specs.declared.play.Writer.{Writer}
use Rattle.otp_try.specs.declared.play.Writer.TheVariants.{Script, Log, Person}
use Rattle.otp_file.specs.Settings.{SettingsView}
use Rattle.otp_suggest.specs.Times.{time_in}
use Rattle.otp_suggest.specs.declared.asked.Asked.{Asked}
use Rattle.otp_suggest.specs.declared.asked.Asked.TheVariants as asked
use Rattle.otp_cli.specs.declared.words.Command.{Command}
use Rattle.otp_cli.specs.declared.words.Command.TheVariants as command
use Rattle.otp_cli.specs.declared.words.Form.{Form}
use Rattle.otp_cli.specs.declared.words.Form.TheVariants as form
use Rattle.otp_cli.specs.declared.words.LogReading.{LogReading}
use Rattle.otp_cli.specs.declared.words.Page.{Page}
use Rattle.otp_cli.specs.declared.words.Page.TheVariants as page
use Rattle.otp_cli.specs.declared.words.RunShows.{RunShows}
use Rattle.otp_cli.specs.declared.words.Serving.{Serving}
use Rattle.otp_cli.specs.declared.words.TrialShows.{TrialShows}
use Rattle.otp_cli.specs.declared.words.Usage.{Usage}
use Rattle.otp_cli.specs.declared.words.Usage.TheVariants as usage

-- the value of this id is this number in decimal digits, before which a plus may stand
pub record IsNumberOf (rows : List Row) (id : Text) (number : ℕ) : Type 0 where
  pub text : Text
  pub given : one_of id rows ≡ Some text
  pub digits : IsNumeral 10 (without_leading_plus text)
  pub number_is : number ≡ digits_value 10 (without_leading_plus text)

-- the flag of this id is set, or it is not
pub record IsFlagOf (rows : List Row) (id : Text) (is_set : Bool) : Type 0 where
  pub set : one_of id rows ≡ Some (codes "true") → is_set ≡ true
  pub unset : one_of id rows ≡ Some (codes "false") → is_set ≡ false
  pub missing : one_of id rows ≡ None → is_set ≡ false

-- the file that is named
abbrev pub IsFileOf : List Row → Text → Type 0
IsFileOf rows file = first_of (codes "FILE") rows ≡ Some file

-- the script that is named; `-` is standard input, as where none is named
abbrev pub script_in : Option Text → Option Text
script_in None = None
script_in (Some name) = if bytes_eq name (codes "-") then None else Some name

-- the time that is given, if one is: none where the word says no time
abbrev pub time_given : Option Text → Option (Option ℕ)
time_given None = Some None
time_given (Some word) = option_map Some (time_in word)

abbrev pub is_person : Writer → Bool
is_person Script = false
is_person Log = false
is_person Person = true

-- the children that are asked for by the name of a child, of a supervisor, or by none
abbrev pub IsPickOf : Option Text → Option Text → Pick → Type 0
IsPickOf child table pick.All = (child ≡ None) × (table ≡ None)
IsPickOf child table (pick.Child name) = child ≡ Some name.now
IsPickOf child table (pick.Table name) = (child ≡ None) × (table ≡ Some name.now)

-- whether each child is played by itself
abbrev pub plays_each : Grain → Bool
plays_each Each = true
plays_each Alike = false

-- the clock of this name
abbrev pub clock_in : Text → Option Clock
clock_in name =
    if bytes_eq name (codes "milliseconds") then Some Milliseconds
    else if bytes_eq name (codes "seconds") then Some Seconds
    else None

-- the clock that is named
abbrev pub clock_named : Option Text → Option Clock
clock_named None = None
clock_named (Some name) = clock_in name

abbrev pub IsClockOf : List Row → Clock → Type 0
IsClockOf rows clock = clock_named (first_of (codes "clock") rows) ≡ Some clock

-- what of a trial is shown, and by which clock it is played
abbrev pub AreTrialShowsOf : List Row → TrialShows → Type 0
AreTrialShowsOf rows shows =
    IsFlagOf rows (codes "timeline") shows.is_drawn × (IsFlagOf rows (codes "quiet") shows.is_quiet
    × (IsClockOf rows shows.clock × IsNumberOf rows (codes "width") shows.width))

-- the name is that of standard input
abbrev pub is_input : Text → Bool
is_input name = bytes_eq name (codes "-")

-- a file of this name is read, if one is named, and it is standard input
abbrev pub is_input_named : Option (Bor Text) → Bool
is_input_named None = false
is_input_named (Some name) = is_input name.now

-- how a log of another program is read: by which file of ids, and whether each child has to be known
abbrev pub IsReadingOf : List Row → LogReading → Type 0
IsReadingOf rows reading =
    (option_map (λ name. name.now) reading.ids ≡ first_of (codes "ids") rows) × IsFlagOf rows (codes "strict") reading.is_strict

-- the name of the place where a page goes: the output has that of standard input
abbrev pub page_name : Page → Text
page_name page.Output = codes "-"
page_name (page.File name) = name.now

-- in which form an answer is written: as a page where one is named, or as an object where that is wanted
abbrev pub IsForm : Option Text → Bool → Form → Type 0
IsForm page is_json form.Text = (page ≡ None) × (is_json ≡ false)
IsForm page is_json form.Object = (page ≡ None) × (is_json ≡ true)
IsForm page is_json (form.Page place) = (page ≡ Some (page_name place)) × (is_json ≡ false)

abbrev pub IsFormOf : List Row → Form → Type 0
IsFormOf rows form = (is_json : Bool) × (IsFlagOf rows (codes "json") is_json × IsForm (first_of (codes "html") rows) is_json form)

-- how often a child crashes: by the time between its crashes alone, or by how many come within a time
abbrev pub IsAskedOf : Option Text → Option Text → Option Text → Asked → Type 0
IsAskedOf every times within (asked.Every word) = (every ≡ Some word.now) × ((times ≡ None) × (within ≡ None))
IsAskedOf every times within (asked.Within count time) = (every ≡ None) × ((times ≡ Some count.now) × (within ≡ Some time.now))

-- what a tree file is used for by the command of this name
abbrev pub AsksUse : Text → List Row → Usage → Type 0
AsksUse name rows (usage.Try script writer shows form) =
    (name ≡ codes "try") × ((option_map (λ name. name.now) script ≡ script_in (first_of (codes "SCRIPT") rows))
    × (IsFlagOf rows (codes "prompt") (is_person writer) × (AreTrialShowsOf rows shows × IsFormOf rows form)))
AsksUse name rows (usage.Draw form) = (name ≡ codes "tree") × IsFormOf rows form
AsksUse name rows (usage.Stop within is_json) =
    (name ≡ codes "shutdown") × ((option_map (λ word. word.now) within ≡ first_of (codes "within") rows) × IsFlagOf rows (codes "json") is_json)
AsksUse name rows (usage.Limit pick grain form) =
    (name ≡ codes "limits") × (IsPickOf (first_of (codes "child") rows) (first_of (codes "table") rows) pick
    × (IsFlagOf rows (codes "each") (plays_each grain) × IsFormOf rows form))
AsksUse name rows (usage.Suggest child asked is_json) =
    (name ≡ codes "suggest") × ((first_of (codes "child") rows ≡ Some child.now)
    × (IsAskedOf (first_of (codes "every") rows) (first_of (codes "times") rows) (first_of (codes "within") rows) asked
    × (IsFlagOf rows (codes "root") false × IsFlagOf rows (codes "json") is_json)))
AsksUse name rows (usage.Root child times within is_json) =
    (name ≡ codes "suggest") × ((first_of (codes "child") rows ≡ Some child.now)
    × (IsAskedOf (first_of (codes "every") rows) (first_of (codes "times") rows) (first_of (codes "within") rows) (asked.Within times within)
    × (IsFlagOf rows (codes "root") true × IsFlagOf rows (codes "json") is_json)))
AsksUse name rows (usage.Compare other is_json) =
    (name ≡ codes "diff") × ((first_of (codes "OTHER") rows ≡ Some other.now) × IsFlagOf rows (codes "json") is_json)
AsksUse name rows (usage.Replay log reading is_listed shows is_json) =
    (name ≡ codes "replay") × ((first_of (codes "LOG") rows ≡ Some log.now) × (IsReadingOf rows reading
    × (((is_input log.now && is_input_named reading.ids) ≡ false)
    × (IsFlagOf rows (codes "unmatched") is_listed × (AreTrialShowsOf rows shows × IsFlagOf rows (codes "json") is_json)))))
AsksUse name rows (usage.Import of_commands) = (name ≡ codes "import") × IsFlagOf rows (codes "commands") of_commands

-- how a tree is run
abbrev pub AreSettingsOf : List Row → SettingsView → Type 0
AreSettingsOf rows settings =
    IsNumberOf rows (codes "schedulers") settings.schedulers × (IsNumberOf rows (codes "turns") settings.turns
    × IsFlagOf rows (codes "counts") settings.counted)

-- what is told of a run besides
abbrev pub AreShownOf : List Row → RunShows → Type 0
AreShownOf rows shows =
    IsFlagOf rows (codes "tree") shows.is_drawn × (IsFlagOf rows (codes "why") shows.is_why × IsFlagOf rows (codes "json") shows.is_json)

-- how long a tree is served, how long its stop may take, and whether it is told what happens
abbrev pub AreTimesOf : List Row → Serving → Type 0
AreTimesOf rows serving =
    (time_given (first_of (codes "for") rows) ≡ Some (Some serving.time)) × ((time_given (first_of (codes "grace") rows) ≡ Some serving.grace)
    × IsFlagOf rows (codes "log") serving.is_logged)

-- whether standard input is read beside the tree file: by `try` where it has the script, or where another file is named so
unfoldable pub wants_input : Usage → Bool
wants_input (usage.Try None writer shows form) = true
wants_input (usage.Try (Some script) writer shows form) = is_input script.now
wants_input (usage.Compare other is_json) = is_input other.now
wants_input (usage.Replay log reading is_listed shows is_json) = is_input log.now || is_input_named reading.ids
wants_input _ = false

-- standard input is no more than one of these files
abbrev pub IsReadOnce : List (Bor Text) → Type 0
IsReadOnce names = count_by (λ name. is_input name.now) names ≤ 1

-- standard input is one of these files
abbrev pub has_input : List (Bor Text) → Bool
has_input names = list_any (λ name. is_input name.now) names

-- the scripts that are judged on the tree of a file, none of which is read twice
abbrev pub AreScriptsOf : List Row → Text → List (Bor Text) → Type 0
AreScriptsOf rows file scripts =
    (all_of (codes "SCRIPT") rows ≡ Some (map (λ script. script.now) scripts)) × (IsReadOnce scripts × ((is_input file && has_input scripts) ≡ false))

-- the subcommand of this name asks for this, with what was found for it
abbrev pub Asks : Text → List Row → Command → Type 0
Asks name rows (command.Sim file) = (name ≡ codes "sim") × IsFileOf rows file.now
Asks name rows (command.Check files checking) =
    (name ≡ codes "check") × ((all_of (codes "FILE") rows ≡ Some (map (λ file. file.now) files.items))
    × (IsReadOnce files.items
    × (IsFlagOf rows (codes "run") checking.has_starts
    × (IsFlagOf rows (codes "all") checking.has_all × (IsFlagOf rows (codes "json") checking.is_json
    × IsFlagOf rows (codes "lint") checking.has_remarks)))))
Asks name rows (command.Run file settings shows) =
    (name ≡ codes "run") × (IsFileOf rows file.now × (first_of (codes "for") rows ≡ None × (AreSettingsOf rows settings × AreShownOf rows shows)))
Asks name rows (command.Serve file settings serving shows) =
    (name ≡ codes "run") × (IsFileOf rows file.now × (AreTimesOf rows serving × (AreSettingsOf rows settings × AreShownOf rows shows)))
Asks name rows (command.Judge file scripts clock) =
    (name ≡ codes "try") × (IsFileOf rows file.now × (IsFlagOf rows (codes "tap") true
    × (AreScriptsOf rows file.now scripts.items × IsClockOf rows clock)))
Asks name rows (command.Use file what) = IsFileOf rows file.now × (AsksUse name rows what × ((is_input file.now && wants_input what) ≡ false))

-- the subcommand that was found in the words, if one was, asks for this
abbrev pub AsksFor : Option (Text × List Row) → Command → Type 0
AsksFor None command = ⊥
AsksFor (Some found) command = Asks found.0 found.1 command
