-- What a script planned, and the run never came to (own).
use Rattle.std.specs.Prelude.{ℕ, List, [], ◌++◌, Option, Some, None, codes, decimal, if◌then◌else◌, slice_get}
use Rattle.std.specs.List.{flat_map}
use Rattle.otp_trial.specs.Played.{Seated}
use Rattle.otp_reason.specs.Names.{name_bytes}
use Rattle.otp_text.specs.Values.{process_text}
use Rattle.otp_script.specs.declared.step.Child.{Child}
use Rattle.otp_script.specs.declared.step.Child.TheVariants as child
use Rattle.otp_script.specs.declared.step.NextStart.{NextStart}
use Rattle.otp_script.specs.declared.step.NextStart.TheVariants as start
use Rattle.otp_trial.specs.declared.processes.inits.Init.{Init}
use Rattle.otp_trial.specs.declared.processes.plans.Hang.{Hang}
use Rattle.otp_trial.specs.declared.processes.plans.PlannedStart.{PlannedStart}

-- a child as a script names it, without its path
unfoldable pub child_text : Child → List ℕ
child_text (child.Named id) = name_bytes id
child_text (child.Numbered number) = process_text number

-- what this line of the script planned of a child, and the run never came to
unfoldable pub unused_line : List ℕ → List ℕ → Child → ℕ → List ℕ
unused_line word path c line =
    codes "unused: " ++ word ++ path ++ child_text c ++ codes " (line " ++ decimal line ++ codes ")\n"

-- what a script says so that a start answers so
unfoldable pub start_word : NextStart → List ℕ
start_word start.Ignore = codes "ignore "
start_word (start.Fail reason) = codes "fail "

unfoldable pub path_in : Option Seated → List ℕ
path_in None = []
path_in (Some seat) = seat.path

-- the path of the supervisor at this place
unfoldable pub path_at : List Seated → ℕ → List ℕ
path_at seats place = path_in (slice_get seats place)

-- a start that was planned and never came
unfoldable pub plan_line : List Seated → PlannedStart → List ℕ
plan_line seats plan = unused_line (start_word plan.start) (path_at seats plan.place) (child.Named plan.id) plan.line

-- a child of which it was said how long its starts take, and none came
unfoldable pub init_line : List Seated → Init → List ℕ
init_line seats init =
    if init.is_used then [] else unused_line (codes "init ") (path_at seats init.place) (child.Named init.id) init.line

-- what a script says so that a child ends so long after it was asked to, or never
unfoldable pub hang_word : Option ℕ → List ℕ
hang_word None = codes "hang "
hang_word (Some _) = codes "slow "

-- a child that was to hang or be slow and was never asked to shut down
unfoldable pub hang_line : List Seated → Hang → List ℕ
hang_line seats hang = unused_line (hang_word hang.delay) (path_at seats hang.place) hang.child hang.line

-- a line for each of them
unfoldable pub unused_text : List Seated → List PlannedStart → List Init → List Hang → List ℕ
unused_text seats plans inits hanging = flat_map (plan_line seats) plans ++ flat_map (init_line seats) inits ++ flat_map (hang_line seats) hanging
