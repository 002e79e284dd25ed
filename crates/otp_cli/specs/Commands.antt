-- The commands of the program, as `clap` is told them (own).
use Rattle.std.specs.Prelude.{ℕ, true, [], ◌∷◌, Some, codes, pos}
use Rattle.clap.specs.Lexer.{usize_max}
use Rattle.clap.specs.Simple.{new_shape}
use Rattle.clap.specs.Words.{App, Rule, Text, new_app, new_rule, with_rule, with_subcommand}
use Rattle.clap.specs.declared.builder.action.ArgAction.TheVariants.{SetTrue}
use Rattle.clap.specs.declared.builder.value_parser.ValueParser.TheVariants as value

-- a file by this name, which has to be named
abbrev pub place_rule : Text → Rule
place_rule name = record (new_rule name) { required = true }

abbrev pub file_rule : Rule
file_rule = place_rule (codes "FILE")

-- files, of which at least one has to be named
abbrev pub files_rule : Rule
files_rule = record file_rule { range = Some (record { start_inclusive = 1; end_inclusive = usize_max }) }

-- scripts, of which none has to be named
abbrev pub script_rule : Rule
script_rule = record (new_rule (codes "SCRIPT")) { range = Some (record { start_inclusive = 1; end_inclusive = usize_max }) }

-- a flag of this long name
abbrev pub flag_rule : Text → Rule
flag_rule name = record (new_rule name) { long = Some name; action = Some SetTrue }

-- a text with this long name, which may be given
abbrev pub option_rule : Text → Rule
option_rule name = record (new_rule name) { long = Some name; value_names = 1 }

-- a text with this long name, which has to be given
abbrev pub needed_rule : Text → Rule
needed_rule name = record (option_rule name) { required = true }

-- a number from 1 to the most, which is this one where nothing is said
abbrev pub number_rule : Text → ℕ → Text → Rule
number_rule name most default = record (new_rule name) {
  long = Some name;
  value_names = 1;
  parser = Some (value.Signed (pos 1) (pos most));
  defaults = default ∷ [];
}

-- by which clock a trial is played
abbrev pub clock_rule : Rule
clock_rule = record (new_rule (codes "clock")) { long = Some (codes "clock"); value_names = 1; defaults = codes "milliseconds" ∷ [] }

-- a command over a tree file
abbrev pub file_app : Text → App
file_app name = with_rule (new_app name) file_rule

abbrev pub scheduled_app : App
scheduled_app =
    with_rule (with_rule (file_app (codes "run")) (number_rule (codes "schedulers") 8 (codes "2"))) (number_rule (codes "turns") 10000000 (codes "100000"))

abbrev pub shown_app : App
shown_app = with_rule (with_rule (with_rule scheduled_app (flag_rule (codes "counts"))) (flag_rule (codes "tree"))) (flag_rule (codes "why"))

abbrev pub run_app : App
run_app =
    with_rule (with_rule (with_rule (with_rule shown_app (option_rule (codes "for"))) (option_rule (codes "grace"))) (flag_rule (codes "log"))) (flag_rule (codes "json"))

abbrev pub played_app : App
played_app = with_rule (with_rule (with_rule (file_app (codes "try")) script_rule) (flag_rule (codes "prompt"))) (flag_rule (codes "timeline"))

abbrev pub tried_app : App
tried_app =
    with_rule (with_rule (with_rule played_app (flag_rule (codes "quiet"))) clock_rule) (number_rule (codes "width") 1000 (codes "80"))

abbrev pub try_app : App
try_app = with_rule (with_rule (with_rule tried_app (flag_rule (codes "tap"))) (flag_rule (codes "json"))) (option_rule (codes "html"))

abbrev pub tree_app : App
tree_app = with_rule (with_rule (file_app (codes "tree")) (flag_rule (codes "json"))) (option_rule (codes "html"))

abbrev pub shutdown_app : App
shutdown_app = with_rule (with_rule (file_app (codes "shutdown")) (option_rule (codes "within"))) (flag_rule (codes "json"))

abbrev pub picked_app : App
picked_app =
    with_rule (with_rule (with_rule (file_app (codes "limits")) (option_rule (codes "child"))) (option_rule (codes "table"))) (flag_rule (codes "each"))

abbrev pub limits_app : App
limits_app = with_rule (with_rule picked_app (flag_rule (codes "json"))) (option_rule (codes "html"))

abbrev pub asked_app : App
asked_app = with_rule (with_rule (file_app (codes "suggest")) (needed_rule (codes "child"))) (option_rule (codes "every"))

abbrev pub suggest_app : App
suggest_app =
    with_rule (with_rule (with_rule (with_rule asked_app (option_rule (codes "times"))) (option_rule (codes "within"))) (flag_rule (codes "root")))
    (flag_rule (codes "json"))

abbrev pub diff_app : App
diff_app = with_rule (with_rule (file_app (codes "diff")) (place_rule (codes "OTHER"))) (flag_rule (codes "json"))

abbrev pub replayed_app : App
replayed_app =
    with_rule (with_rule (with_rule (file_app (codes "replay")) (place_rule (codes "LOG"))) (flag_rule (codes "unmatched")))
    (flag_rule (codes "timeline"))

abbrev pub shown_replay_app : App
shown_replay_app =
    with_rule (with_rule (with_rule replayed_app (flag_rule (codes "quiet"))) clock_rule) (number_rule (codes "width") 1000 (codes "80"))

abbrev pub replay_app : App
replay_app = with_rule (with_rule (with_rule shown_replay_app (option_rule (codes "ids"))) (flag_rule (codes "strict"))) (flag_rule (codes "json"))

abbrev pub import_app : App
import_app = with_rule (file_app (codes "import")) (flag_rule (codes "commands"))

abbrev pub checked_app : App
checked_app = with_rule (with_rule (with_rule (new_app (codes "check")) files_rule) (flag_rule (codes "run"))) (flag_rule (codes "lint"))

abbrev pub check_app : App
check_app = with_rule (with_rule checked_app (flag_rule (codes "all"))) (flag_rule (codes "json"))

-- the program, before its subcommands are added
abbrev pub bare_app : App
bare_app = record (new_app (codes "otp")) { top = record (new_shape (codes "otp")) { has_version = true } }

-- the program with what draws, checks and runs trees
abbrev pub first_app : App
first_app =
    with_subcommand (with_subcommand (with_subcommand (with_subcommand bare_app run_app.top) try_app.top) check_app.top) tree_app.top

abbrev pub otp_app : App
otp_app =
    with_subcommand (with_subcommand (with_subcommand (with_subcommand (with_subcommand (with_subcommand (with_subcommand first_app limits_app.top)
    shutdown_app.top) suggest_app.top) diff_app.top) replay_app.top) import_app.top) (file_app (codes "sim")).top
