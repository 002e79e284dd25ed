-- What `try --tap` tells of scripts (own).
use Rattle.std.specs.Prelude.{◌≡◌, ◌⊎◌, ◌||◌, ℕ, ◌<◌, ◌==◌, Bool, true, false, List, [], ◌∷◌, ◌++◌, Option, Some, None, Ok, codes, count_by, decimal, length, nat_lt, position, slice_get, if◌then◌else◌}
use Rattle.std.specs.Borrow.{Bor}
use Rattle.std.specs.Io.KnownBytes.{Appends}
use Rattle.std.specs.List.{flat_map}
use Rattle.otp_try.specs.Accounts.{IsAccount}
use Rattle.otp_try.specs.declared.account.account.Account.{Account}
use Rattle.otp_try.specs.declared.account.account.Played.{Played}
use Rattle.otp_file.specs.Files.{Says}
use Rattle.otp_file.specs.Trees.{Tree}
use Rattle.otp_script.specs.Faults.{fault_text}
use Rattle.otp_sim.specs.Devices.{Written}
use Rattle.otp_trial.specs.Taken.{taken_text}
use Rattle.otp_try.specs.declared.play.TryEnd.{TryEnd}
use Rattle.otp_try.specs.declared.play.TryEnd.TheVariants as end
use Rattle.otp_exit.specs.Devices.{Files}
use Rattle.otp_exit.specs.Told.{IsSmall}
use Rattle.otp_exit.specs.declared.ending.ProgramEnd.{ProgramEnd}
use Rattle.otp_exit.specs.declared.ending.ProgramEnd.TheVariants.{Done, FileNotRead, HistoryFull, OutOfMemory, OutputFailed, ScriptsFailed}
use Rattle.otp_commands.specs.Used.{IsWithoutTree}
use Rattle.otp_commands.specs.declared.judging.Judged.{Judged}
use Rattle.otp_commands.specs.declared.judging.Verdict.{Verdict}
use Rattle.otp_commands.specs.declared.judging.Verdict.TheVariants as verdict

-- the line whose expectation failed, of a run that ended so
unfoldable pub unmet_in : TryEnd → Option ℕ
unmet_in (end.ExpectationFailed line) = Some line
unmet_in _ = None

abbrev pub has_number : ℕ → Played → Bool
has_number number one = one.number == number

-- the text of a line that was played, and of the one at this place
unfoldable pub text_in : Option Played → List ℕ
text_in None = []
text_in (Some one) = one.line.items

unfoldable pub text_at : List Played → Option ℕ → List ℕ
text_at played None = []
text_at played (Some place) = text_in (slice_get played place)

-- what came of a script whose run is kept: where an expectation failed, that is told with the text of its line
abbrev pub IsVerdictOf : Account → Verdict → Type 0
IsVerdictOf account (verdict.Played ended) = (account.end ≡ ended) × (unmet_in ended ≡ None)
IsVerdictOf account (verdict.Unmet line text) =
    (unmet_in account.end ≡ Some line) × (text.items ≡ text_at account.lines.items (position (has_number line) account.lines.items))
IsVerdictOf account (verdict.Unread why) = ⊥

-- what came of a script of which it is known what bytes it may hold: these were played on the tree; or it can't be read
abbrev pub IsJudgedBy : (List ℕ → Type 0) → Tree → Verdict → Type 0
IsJudgedBy Holds tree (verdict.Unread why) = Unit {0}
IsJudgedBy Holds tree judged =
    (lines : List ℕ) × (account : Account) × ((Holds lines × IsSmall lines) × (IsAccount tree account × IsVerdictOf account judged))

-- what came of each of these scripts, in their order
abbrev pub AreJudged : (List ℕ → List ℕ → Type 0) → Tree → List (Bor (List ℕ)) → List Judged → Type 0
AreJudged holds tree [] [] = Unit {0}
AreJudged holds tree (script ∷ scripts) (judged ∷ all) =
    ((judged.script ≡ script) × IsJudgedBy (holds script.now) tree judged.verdict) × AreJudged holds tree scripts all
AreJudged holds tree scripts all = ⊥

-- what came of each of these scripts on the tree that a file says
abbrev pub AreJudgedOn : (List ℕ → List ℕ → Type 0) → List ℕ → List (Bor (List ℕ)) → List Judged → Type 0
AreJudgedOn holds file scripts all = (tree : Tree) × (Says file (Ok tree) × AreJudged holds tree scripts all)

-- a run that ended so failed
unfoldable pub is_failed : TryEnd → Bool
is_failed end.Done = false
is_failed _ = true

-- so did a script that can't be read
unfoldable pub fails : Verdict → Bool
fails (verdict.Played ended) = is_failed ended
fails (verdict.Unmet line text) = true
fails (verdict.Unread why) = true

abbrev pub has_failed : Judged → Bool
has_failed judged = fails judged.verdict

-- how the program ends that told of these: well, where none failed
unfoldable pub ending_of : List Judged → ProgramEnd
ending_of all = if count_by has_failed all == 0 then Done else ScriptsFailed (count_by has_failed all) (length all)

-- a name as it stands in a line of TAP: what is no letter there is a question mark, and a backslash stands before what would begin a
-- directive
unfoldable pub plain_byte : ℕ → List ℕ
plain_byte byte =
    if (byte == 35) || (byte == 92) then 92 ∷ byte ∷ []
    else if nat_lt byte 32 || (byte == 127) then codes "?"
    else byte ∷ []

abbrev pub plain_text : List ℕ → List ℕ
plain_text name = flat_map plain_byte name

-- the line that ended a run, or that was not as it expects, and why it failed
unfoldable pub end_line : TryEnd → Option ℕ
end_line (end.LineRefused line why) = Some line
end_line (end.LineMissed line why near) = Some line
end_line (end.ExpectationFailed line) = Some line
end_line (end.LeftOut line why near) = Some line
end_line _ = None

unfoldable pub end_why : TryEnd → List ℕ
end_why end.Done = codes ""
end_why (end.LineRefused line why) = fault_text why
end_why (end.LineMissed line why near) = taken_text why
end_why (end.ExpectationFailed line) = codes "it is not so as the script expects"
end_why (end.LeftOut line why near) = taken_text why
end_why end.NothingPlayed = codes "nothing was played: no line says what happens"
end_why end.HistoryFull = codes "history full"
end_why end.InputFailed = codes "input not read"
end_why end.OutputFailed = codes "output not written"
end_why end.OutOfMemory = codes "out of memory"

unfoldable pub place_text : Option ℕ → List ℕ
place_text None = []
place_text (Some line) = codes ":" ++ decimal line

-- the line that says why a script failed
unfoldable pub reason_text : List ℕ → Option ℕ → List ℕ → List ℕ
reason_text script line why = codes "# " ++ plain_text script ++ place_text line ++ codes ": " ++ why ++ codes "\n"

-- which line of it expected what is not so
unfoldable pub unmet_text : List ℕ → ℕ → List ℕ → List ℕ
unmet_text script line text = codes "# " ++ plain_text script ++ place_text (Some line) ++ codes ": it is not so: " ++ plain_text text ++ codes "\n"

unfoldable pub why_text : List ℕ → Verdict → List ℕ
why_text script (verdict.Played ended) = reason_text script (end_line ended) (end_why ended)
why_text script (verdict.Unmet line text) = unmet_text script line text.items
why_text script (verdict.Unread why) = reason_text script None why.now

-- the line of a script that failed, or didn't
unfoldable pub verdict_text : Bool → List ℕ → List ℕ
verdict_text true script = codes "not ok - " ++ plain_text script ++ codes "\n"
verdict_text false script = codes "ok - " ++ plain_text script ++ codes "\n"

-- why a script failed, if it did
unfoldable pub why_if : Bool → List ℕ → Verdict → List ℕ
why_if true script verdict = why_text script verdict
why_if false script verdict = []

-- what came of a script
unfoldable pub result_text : Judged → List ℕ
result_text judged = verdict_text (has_failed judged) judged.script.now ++ why_if (has_failed judged) judged.script.now judged.verdict

-- so many results follow
unfoldable pub plan_text : ℕ → List ℕ
plan_text count = codes "TAP version 13\n1.." ++ decimal count ++ codes "\n"

-- the whole
unfoldable pub tap_text : List Judged → List ℕ
tap_text all = plan_text (length all) ++ flat_map result_text all

-- it was told what came of these, and so the program ends; or the writer failed, or there is no memory for the text
abbrev pub IsTold : List Judged → ProgramEnd → Written → Written → Type 0
IsTold all ending old new =
    ((ending ≡ ending_of all) × Appends old.bytes new.bytes (tap_text all))
    ⊎ (((ending ≡ OutputFailed) × (old.failures < new.failures)) ⊎ ((ending ≡ OutOfMemory) × (new ≡ old)))

-- of each of these scripts it was told what came of it on the tree that the file says; or the file says none, a history gave out, or
-- memory did
abbrev pub IsJudged : (List ℕ → List ℕ → Type 0) → List ℕ → List (Bor (List ℕ)) → ProgramEnd → List ℕ → Written → Written → Type 0
IsJudged holds name scripts ending file old new =
    ((tree : Tree) × (all : List Judged) × (Says file (Ok tree) × (AreJudged holds tree scripts all × IsTold all ending old new)))
    ⊎ ((new ≡ old) × (IsWithoutTree name ending file ⊎ ((ending ≡ HistoryFull) ⊎ (ending ≡ OutOfMemory))))

-- these scripts were judged on a file of which it is known what bytes it may hold: it can't be read, or they were told
abbrev pub Judges : Files → List ℕ → List (Bor (List ℕ)) → ProgramEnd → Written → Written → Type 0
Judges known name scripts ending old new =
    ((ending ≡ FileNotRead) × (new ≡ old)) ⊎ ((ending ≡ OutOfMemory) × (new ≡ old))
    ⊎ ((file : List ℕ) × ((known.holds name file × IsSmall file) × IsJudged known.holds name scripts ending file old new))
