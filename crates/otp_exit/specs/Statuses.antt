-- The exit statuses, and what is told of them (own).
use Rattle.std.specs.Prelude.{◌≡◌, ℕ, List, [], ◌++◌, Option, None, Some, codes, decimal}
use Rattle.std.specs.Borrow.{Bor}
use Rattle.std.specs.declared.io.ErrorKind.{ErrorKind}
use Rattle.std.specs.declared.io.ErrorKind.TheVariants as system
use Rattle.otp_file.specs.Faults.{code_of}
use Rattle.otp_file.specs.declared.fault.TreeFault.{TreeFault}
use Rattle.otp_file.specs.declared.fault.TreeFault.TheVariants as fault
use Rattle.otp_reason.specs.Names.{name_bytes}
use Rattle.otp_reason.specs.Texts.{text_bytes}
use Rattle.otp_reason.specs.declared.text.Text.{Text}
use Rattle.otp_replay.specs.Told as log
use Rattle.otp_replay.specs.declared.reading.LogFault.{LogFault}
use Rattle.otp_script.specs.Faults.{fault_text}
use Rattle.otp_text.specs.LineFaults.{line_fault_text}
use Rattle.otp_suggest.specs.Refused as gap
use Rattle.otp_trial.specs.Taken.{taken_text}
use Rattle.otp_trial.specs.declared.trial.ActionEnd.{ActionEnd}
use Rattle.otp_exit.specs.declared.ending.Unwritten.{Unwritten}
use Rattle.otp_exit.specs.declared.ending.Unwritten.TheVariants.{Closed, Since}
use Rattle.otp_exit.specs.declared.ending.ProgramEnd.{ProgramEnd}
use Rattle.otp_exit.specs.declared.ending.ProgramEnd.TheVariants.{Done, WordsRefused, NoCommand, WordNotText, FileAsCommand, TreeNotRead, FileNotRead, TreeRefused, NoTree, UnknownStart, NotFound, NoSupervisor, WrongBody, CloseMismatch, CloseMissing, FaultsFound, LineRefused, ScriptRefused, ScriptMissed, HistoryFull, InputFailed, OutputFailed, OutOfMemory, UnknownClock, NotATime, NeedsFor, CountsTurns, ExpectationFailed, NothingPlayed, ScriptsFailed, NotFinished, NamesSupervisor, NotAGap, StopTooLong, LogRefused, PageNotWritten, PageRefused, Refused, RunsNoTrees}

-- 0: done. 1: the tree, or a file. 2: the words. 3: the lines of the input. 4: the machine. 5: a line of a script. 6: what one
-- expects. 7: a run that ran out of turns, or of time to stop. 8: a script or a log of which nothing was played
abbrev pub status_of : ProgramEnd → ℕ
status_of Done = 0
status_of WordsRefused = 2
status_of NoCommand = 2
status_of WordNotText = 2
status_of UnknownClock = 2
status_of NotATime = 2
status_of NeedsFor = 2
status_of CountsTurns = 2
status_of FileAsCommand = 2
status_of (Refused _) = 2
status_of RunsNoTrees = 2
status_of TreeNotRead = 1
status_of FileNotRead = 1
status_of (TreeRefused _) = 1
status_of (NoTree _ _) = 1
status_of (UnknownStart _) = 1
status_of WrongBody = 1
status_of (NotFound _ _) = 2
status_of (NoSupervisor _) = 2
status_of (NamesSupervisor _) = 2
status_of (NotAGap _ _) = 2
status_of (LogRefused _ _) = 2
status_of CloseMismatch = 4
status_of CloseMissing = 4
status_of NotFinished = 7
status_of FaultsFound = 1
status_of (LineRefused _ _) = 3
status_of (ScriptRefused _ _ _) = 5
status_of (ScriptMissed _ _ _ _) = 5
status_of (ExpectationFailed _ _) = 6
status_of (ScriptsFailed _ _) = 6
status_of NothingPlayed = 8
status_of HistoryFull = 3
status_of InputFailed = 3
status_of OutputFailed = 4
status_of (PageNotWritten _ _) = 4
status_of (PageRefused _ _) = 2
status_of (StopTooLong _) = 6
status_of OutOfMemory = 4

-- the name of a script; that of standard input is `-`
abbrev pub script_name : Option (Bor (List ℕ)) → List ℕ
script_name None = codes "-"
script_name (Some script) = script.now

-- a line of a script, as editors read it, and what is wrong with it
abbrev pub line_text : Option (Bor (List ℕ)) → ℕ → List ℕ → List ℕ
line_text script line why = script_name script ++ (codes ":" ++ decimal line ++ codes ": ") ++ why ++ codes "\n"

-- a line of a script that names no child, where the child with this path may have been meant
abbrev pub meant_text : Option (Bor (List ℕ)) → ℕ → List ℕ → List ℕ
meant_text script line path =
    script_name script ++ (codes ":" ++ decimal line ++ codes ": ignored: there is no such child; did you mean ") ++ path ++ codes "?\n"

-- a line of a script that could do nothing, and why, or which child may have been meant
abbrev pub missed_text : Option (Bor (List ℕ)) → ℕ → ActionEnd → Option Text → List ℕ
missed_text script line why None = line_text script line (taken_text why)
missed_text script line why (Some path) = meant_text script line (text_bytes path)

-- the line of the events that is refused, and why
abbrev pub refused_line_text : ℕ → List ℕ → List ℕ
refused_line_text line why = (codes "line " ++ decimal line ++ codes " refused: ") ++ why ++ codes "\n"

-- so many of so many scripts failed
abbrev pub some_text : ℕ → List ℕ
some_text some = codes "" ++ decimal some ++ codes " of "

abbrev pub all_failed_text : ℕ → List ℕ
all_failed_text all = codes "" ++ decimal all ++ codes " scripts failed\n"

abbrev pub failed_text : ℕ → ℕ → List ℕ
failed_text some all = some_text some ++ all_failed_text all

-- a file that can't be read, and why
abbrev pub not_read_text : List ℕ → List ℕ → List ℕ
not_read_text name why = (codes "error: " ++ name ++ codes " can't be read: ") ++ why ++ codes "\n"

-- what a tree is refused for, and the command that tells why
abbrev pub no_tree_text : ℕ → List ℕ → List ℕ
no_tree_text code name = codes "tree refused: E" ++ decimal code ++ codes "; otp check " ++ name ++ codes " tells why\n"

-- a supervisor's name where a worker's is wanted
abbrev pub names_supervisor_text : List ℕ → List ℕ
names_supervisor_text name = codes "error: " ++ gap.is_supervisor_text name

-- the stop of a tree may take longer than a word allows
abbrev pub too_long_text : List ℕ → List ℕ
too_long_text word = codes "error: the stop may take longer than " ++ word ++ codes "\n"

-- a word that says no time between crashes, and why
abbrev pub no_gap_text : List ℕ → List ℕ → List ℕ
no_gap_text word why = (codes "error: " ++ word ++ codes " ") ++ why ++ codes "\n"

-- the line of the log of this name that is refused, and why
abbrev pub log_text : List ℕ → LogFault → List ℕ
log_text name why = name ++ codes ":" ++ decimal (log.fault_line why) ++ log.reason_text why

-- what is said of a file, and why
abbrev pub said_text : List ℕ → List ℕ → List ℕ → List ℕ
said_text name said why = (codes "error: " ++ name ++ said) ++ why ++ codes "\n"

-- a name that no child or supervisor has
abbrev pub not_found_text : List ℕ → List ℕ
not_found_text name = said_text name (codes " is no child of the tree") (codes "; otp tree FILE shows which there are, below the root each by its path, as pool/worker")

-- what is said of a name, and the question whether this one was meant
abbrev pub asked_text : List ℕ → List ℕ → List ℕ → List ℕ
asked_text name said meant = (codes "error: " ++ name ++ said) ++ meant ++ codes "?\n"

-- a name that no child has, where the child with this path may be meant
abbrev pub found_near_text : List ℕ → List ℕ → List ℕ
found_near_text name path = asked_text name (codes " is no child of the tree; did you mean ") path

-- a name that no child has, and which child may be meant
abbrev pub unfound_text : List ℕ → Option Text → List ℕ
unfound_text name None = not_found_text name
unfound_text name (Some path) = found_near_text name (text_bytes path)

-- a name that no supervisor with children has
abbrev pub no_supervisor_text : List ℕ → List ℕ
no_supervisor_text name = said_text name (codes " is no supervisor with children") (codes "; otp tree FILE shows which there are")

-- a page that can't be written, and why
abbrev pub not_written_text : List ℕ → List ℕ → List ℕ
not_written_text name why = said_text name (codes " can't be written: ") why

-- a page that may not be, and why
abbrev pub not_replaced_text : List ℕ → List ℕ → List ℕ
not_replaced_text name why = said_text name (codes " isn't replaced: ") why

-- words that are refused for this reason
abbrev pub refused_text : List ℕ → List ℕ
refused_text why = codes "error: " ++ why ++ codes "\n"

-- the line on standard error, its end included: none where all went well, where it was told before why the words
-- are refused, a file can't be read or a run isn't finished, or where faults were written to the output
abbrev pub sentence_of : ProgramEnd → List ℕ
sentence_of Done = []
sentence_of WordsRefused = []
sentence_of NoCommand = codes "usage: otp COMMAND FILE; otp --help says which commands there are\n"
sentence_of WordNotText = codes "error: a word is not UTF-8\n"
sentence_of UnknownClock = codes "error: --clock is milliseconds or seconds\n"
sentence_of NotATime = codes "error: --for and --grace want a time, as 500ms, 2s or 5m\n"
sentence_of NeedsFor = codes "error: --grace and --log need --for TIME\n"
sentence_of CountsTurns = codes "error: --counts is of a run by turns, and --for is none\n"
sentence_of FileAsCommand = codes "error: a file in the place of a command: say otp try FILE, or otp --help\n"
sentence_of (Refused why) = refused_text why.now
sentence_of RunsNoTrees = codes "error: this program runs no trees; ./otp run FILE compiles the one that does\n"
sentence_of TreeNotRead = codes "tree not read\n"
sentence_of FileNotRead = []
sentence_of (TreeRefused why) = codes "tree refused: E" ++ decimal (code_of why) ++ codes "\n"
sentence_of (NoTree why name) = no_tree_text (code_of why) name.now
sentence_of (UnknownStart name) = codes "unknown start " ++ name_bytes name ++ codes "\n"
sentence_of (NotFound name near) = unfound_text name.now near
sentence_of (NoSupervisor name) = no_supervisor_text name.now
sentence_of (NamesSupervisor name) = names_supervisor_text name.now
sentence_of (StopTooLong word) = too_long_text word.now
sentence_of (NotAGap word why) = no_gap_text word.now (gap.fault_text why)
sentence_of (LogRefused name why) = log_text name.now why
sentence_of WrongBody = codes "tree refused: E19\n"
sentence_of CloseMismatch = codes "close refused: E17\n"
sentence_of CloseMissing = codes "close refused: E20\n"
sentence_of NotFinished = []
sentence_of FaultsFound = []
sentence_of (LineRefused line why) = refused_line_text line (line_fault_text why)
sentence_of (ScriptRefused script line why) = line_text script line (fault_text why)
sentence_of (ScriptMissed script line why near) = missed_text script line why near
sentence_of (ExpectationFailed script line) = line_text script line (codes "it is not so as the script expects")
sentence_of (ScriptsFailed failed all) = failed_text failed all
sentence_of NothingPlayed = codes "error: nothing was played: no line says what happens\n"
sentence_of HistoryFull = codes "history full\n"
sentence_of InputFailed = codes "input not read\n"
sentence_of OutputFailed = codes "output not written\n"
sentence_of (PageNotWritten name why) = not_written_text name.now why.now
sentence_of (PageRefused name why) = not_replaced_text name.now why.now
sentence_of OutOfMemory = codes "out of memory\n"

-- the sentence of an ending where it is known why the output last failed: that is told, and nothing where nobody reads it any more
abbrev pub sentence_since : Unwritten → ProgramEnd → List ℕ
sentence_since Closed OutputFailed = []
sentence_since (Since why) OutputFailed = codes "output not written: " ++ why.now ++ codes "\n"
sentence_since why ending = sentence_of ending

-- how the program ends whose file can't be read: want of memory says nothing of the file
abbrev pub IsOfFile : ErrorKind → ProgramEnd → Type 0
IsOfFile kind ending = (kind ≡ system.OutOfMemory → ending ≡ OutOfMemory) × (¬ (kind ≡ system.OutOfMemory) → ending ≡ TreeNotRead)

-- how the program ends that had no tree
abbrev pub ending_of_tree : TreeFault → ProgramEnd
ending_of_tree fault.OutOfMemory = OutOfMemory
ending_of_tree why = TreeRefused why

-- how the program ends that had no tree of the file of a name, where the user is told who explains the fault
abbrev pub ending_of_no_tree : TreeFault → Bor (List ℕ) → ProgramEnd
ending_of_no_tree fault.OutOfMemory name = OutOfMemory
ending_of_no_tree why name = NoTree why name
