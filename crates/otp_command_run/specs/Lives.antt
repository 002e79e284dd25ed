-- What came of the supervisors of a tree that was run, in words (own).
use Rattle.std.specs.Prelude.{◌≡◌, ℕ, ◌==◌, ◌-◌, ◌^◌, true, List, [], ◌∷◌, ◌++◌, codes, decimal, if◌then◌else◌, length, min, take}
use Rattle.otp_core.specs.View.{View, state_of}
use Rattle.otp_file.specs.Trees.{Tree}
use Rattle.otp_reason.specs.Names.{name_bytes}
use Rattle.otp_reason.specs.declared.name.Name.{Name}
use Rattle.otp_rules.specs.Needs.{numbers_of}
use Rattle.otp_rules.specs.declared.ending.Ending.TheVariants as ending
use Rattle.otp_rules.specs.declared.work.Phase.{Phase}
use Rattle.otp_rules.specs.declared.work.Phase.TheVariants as phase
use Rattle.otp_spec.specs.declared.flags.SupFlags.{SupFlags}
use Rattle.otp_close.specs.declared.report.report.TableReport.{TableReport}
use Rattle.otp_trial.specs.Played.{IsPlanted, Seated}

-- a number, and the word for one or for several
unfoldable pub count_text : ℕ → List ℕ → List ℕ → List ℕ
count_text number one several = decimal number ++ (if number == 1 then one else several)

-- the path of a supervisor whose children have this in front of their ids
unfoldable pub supervisor_text : List ℕ → List ℕ
supervisor_text [] = codes "root"
supervisor_text (byte ∷ bytes) = take (length bytes) (byte ∷ bytes)

unfoldable pub giving_up : List ℕ
giving_up = codes "gave up: more than "

unfoldable pub within : ℕ → List ℕ
within period = codes " within " ++ decimal period ++ codes " s"

-- that a supervisor gave up
unfoldable pub given_up_text : SupFlags → List ℕ
given_up_text flags = giving_up ++ count_text flags.intensity (codes " restart") (codes " restarts") ++ within flags.period

unfoldable pub significant : List ℕ
significant = codes "ended, since its significant child #"

-- that a significant child ended
unfoldable pub significant_text : ℕ → List ℕ
significant_text process = significant ++ decimal process ++ codes " ended"

unfoldable pub unstarted : List ℕ
unstarted = codes "didn't start: its child "

-- that a child failed to start with its supervisor
unfoldable pub failed_text : Name → List ℕ
failed_text id = unstarted ++ name_bytes id ++ codes " failed to"

-- why a supervisor that has these flags ended, or that it hasn't
unfoldable pub end_text : SupFlags → Phase → List ℕ
end_text flags phase.Unopened = codes "never started"
end_text flags (phase.Open number) = codes "runs"
end_text flags (phase.Ended number ending.Asked) = codes "was asked to stop"
end_text flags (phase.Ended number (ending.Significant process)) = significant_text process
end_text flags (phase.Ended number (ending.InitFailed id)) = failed_text id
end_text flags (phase.Ended number ending.Intensity) = given_up_text flags

-- how many starts of children it ordered in all its life, and how many restarts it made since it was started last
unfoldable pub counts_text : View → List ℕ
counts_text core =
    count_text (length (numbers_of core.history)) (codes " start, ") (codes " starts, ")
    ++ count_text (min (length (state_of core).stamps) (2 ^ 64 - 1)) (codes " restart, ") (codes " restarts, ")

-- the line of a supervisor
unfoldable pub life_line : Seated → TableReport → List ℕ
life_line seat report =
    supervisor_text seat.path ++ codes ": " ++ counts_text report.core ++ end_text seat.base.flags (state_of report.core).phase ++ codes "\n"

-- a line for each supervisor, by their numbers
unfoldable pub lives_text : List Seated → List TableReport → List ℕ
lives_text [] tables = []
lives_text (seat ∷ seats) [] = []
lives_text (seat ∷ seats) (report ∷ tables) = life_line seat report ++ lives_text seats tables

-- the supervisors of a tree were put behind a text
abbrev pub TellsLives : Tree → List TableReport → List ℕ → List ℕ → Type 0
TellsLives tree tables old new = (seats : List Seated) × (IsPlanted true tree seats × (new ≡ old ++ lives_text seats tables))
