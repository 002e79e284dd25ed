-- What came of a run, as an object of JSON (own).
use Rattle.std.specs.Prelude.{◌≡◌, ℕ, ◌-◌, ◌^◌, true, List, [], ◌∷◌, ◌++◌, Option, Some, None, codes, length, min}
use Rattle.otp_core.specs.View.{View, state_of}
use Rattle.otp_file.specs.Trees.{Tree}
use Rattle.otp_json.specs.Values.{key_text, number_member, text_member}
use Rattle.otp_command_run.specs.Lives as lives
use Rattle.otp_reason.specs.declared.reason.Reason.{Reason}
use Rattle.otp_rules.specs.Needs.{numbers_of}
use Rattle.otp_text.specs.Values.{reason_text}
use Rattle.otp_close.specs.Reports.{last_reason}
use Rattle.otp_close.specs.declared.report.report.TableReport.{TableReport}
use Rattle.otp_trial.specs.Played.{IsPlanted, Seated}

-- its path, how many starts of children it ordered in all its life, and how many restarts it made since it was started last
unfoldable pub counts_text : List ℕ → View → List ℕ
counts_text path core =
    text_member (codes "{") (codes "path") (lives.supervisor_text path)
    ++ number_member (codes ", ") (codes "starts") (length (numbers_of core.history))
    ++ number_member (codes ", ") (codes "restarts") (min (length (state_of core).stamps) (2 ^ 64 - 1))

-- the reason of its last end, null where there is none
unfoldable pub end_member : Option Reason → List ℕ
end_member None = codes ", \"end\": null"
end_member (Some reason) = text_member (codes ", ") (codes "end") (reason_text reason)

-- why it ended, or that it hasn't
unfoldable pub why_member : Seated → TableReport → List ℕ
why_member seat report = text_member (codes ", ") (codes "why") (lives.end_text seat.base.flags (state_of report.core).phase)

-- the object of a supervisor
unfoldable pub supervisor_text : Seated → TableReport → List ℕ
supervisor_text seat report =
    counts_text seat.path report.core ++ end_member (last_reason (state_of report.core)) ++ why_member seat report ++ codes "}"

-- those of supervisors, by their numbers, each behind a comma but the first
unfoldable pub supervisors_text : List ℕ → List Seated → List TableReport → List ℕ
supervisors_text front [] tables = []
supervisors_text front (seat ∷ seats) [] = []
supervisors_text front (seat ∷ seats) (report ∷ tables) = front ++ supervisor_text seat report ++ supervisors_text (codes ", ") seats tables

-- the whole: the file, its supervisors, and how many processes are left
unfoldable pub run_text : List ℕ → List Seated → List TableReport → ℕ → List ℕ
run_text name seats tables live =
    text_member (codes "{") (codes "file") name ++ key_text (codes ", ") (codes "supervisors") ++ codes "["
    ++ supervisors_text [] seats tables ++ number_member (codes "], ") (codes "live") live ++ codes "}\n"

-- the object was put behind a text
abbrev pub TellsRun : List ℕ → Tree → List TableReport → ℕ → List ℕ → List ℕ → Type 0
TellsRun name tree tables live old new = (seats : List Seated) × (IsPlanted true tree seats × (new ≡ old ++ run_text name seats tables live))
