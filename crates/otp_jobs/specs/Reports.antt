-- The report of a run as text (own).
use Rattle.std.specs.Prelude.{ℕ, ◌+◌, Bool, true, false, List, [], ◌∷◌, ◌++◌, Option, Some, None, codes, decimal}
use Rattle.otp_reason.specs.declared.reason.Reason.{Reason}
use Rattle.otp_rules.specs.declared.call.CountsNow.{CountsNow}
use Rattle.otp_text.specs.Replies.{count_text}
use Rattle.otp_text.specs.Values.{reason_text}
use Rattle.otp_jobs.specs.declared.report.TableLine.{TableLine}

-- how a supervisor ended last
unfoldable pub end_text : Option Reason → List ℕ
end_text None = codes "none"
end_text (Some reason) = reason_text reason

-- the line of the supervisor of this number
unfoldable pub table_line : ℕ → TableLine → List ℕ
table_line number line =
    codes "table " ++ decimal number
    ++ codes " starts " ++ decimal line.starts
    ++ codes " restarts " ++ decimal line.restarts
    ++ codes " end " ++ end_text line.end
    ++ codes "\n"

-- the lines of supervisors, the first of which has this number
abbrev pub table_lines : ℕ → List TableLine → List ℕ
table_lines number [] = []
table_lines number (line ∷ lines) = table_line number line ++ table_lines (number + 1) lines

-- the whole: a line for each supervisor, and how many processes are left
unfoldable pub report_text : List TableLine → ℕ → List ℕ
report_text lines live = table_lines 0 lines ++ codes "live " ++ decimal live ++ codes "\n"

-- what the supervisor of this number counts of its children (supervisor, count_children/1)
unfoldable pub counts_line : ℕ → CountsNow → List ℕ
counts_line number counts =
    count_text (codes "counts ") number
    ++ count_text (codes " specs ") counts.specs
    ++ count_text (codes " active ") counts.active
    ++ count_text (codes " supervisors ") counts.supervisors
    ++ count_text (codes " workers ") counts.workers
    ++ codes "\n"

-- what each of these supervisors counts of its children, the first of which has this number
abbrev pub counts_lines : ℕ → List CountsNow → List ℕ
counts_lines number [] = []
counts_lines number (counts ∷ all) = counts_line number counts ++ counts_lines (number + 1) all

-- what stands before the report: the counts of each supervisor where they are wanted, and nothing where they are not
unfoldable pub counts_text : Bool → List CountsNow → List ℕ
counts_text true all = counts_lines 0 all
counts_text false all = []
