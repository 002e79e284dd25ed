-- How far a run of `sim` has come, and how it ends (own).
use Rattle.std.specs.Prelude.{◌≡◌, ◌==◌, ℕ, zero, suc, ◌<◌, ◌≤◌, length, take, ◌⊎◌, false, List, ◌∷◌, ◌++◌, Option, IfSome, Result, Ok, Err, []}
use Rattle.std.specs.List.{All}
use Rattle.std.specs.Io.KnownBytes.{Appends, Consumes, IsAtEnd, Keeps}
use Rattle.otp_sim.specs.declared.engine.TheConstants.{MOST_BYTES}
use Rattle.otp_sim.specs.declared.engine.SimEnd.{SimEnd}
use Rattle.otp_sim.specs.declared.engine.SimEnd.TheVariants.{Done, LineRefused, HistoryFull, InputFailed, OutputFailed, Memory}
use Rattle.otp_sim.specs.declared.driven.LinesEnd.{LinesEnd}
use Rattle.otp_sim.specs.Devices.{Begins, AppendsPart, Devices, Written}
use Rattle.otp_sim.specs.Sim.{Sim, begin_line, followed, take_line, take_lines, lines_of, sim_text, sim_end, whole_text, end_of}

-- with this text printed so far
abbrev pub with_text : List ℕ → Sim → Sim
with_text text s = record s { text = text }

-- so many of the events of a line: the first is what it does by itself
unfoldable pub begun : ℕ → List ℕ → Sim → Sim
begun zero line s = s
begun (suc events) line s = followed events (begin_line line s)

-- so many of the events of the first of these lines, if there is one
unfoldable pub begun_first : ℕ → List (List ℕ) → Sim → Sim
begun_first events [] s = s
begun_first events (line ∷ _) s = begun events line s

-- of the bytes taken some lines have been served, and these bytes wait; so it stands at s
pub record Served (start : Sim) (taken waiting : List ℕ) (s : Sim) : Type 0 where
  pub lines : List (List ℕ)
  pub cut : (more : List ℕ) → lines_of (taken ++ more) ≡ lines ++ lines_of (waiting ++ more)
  pub so_far : s ≡ take_lines lines start

-- the same, where part of the text has been written and part is ready to be
pub record Ran (start s : Sim) (before now : Option (List ℕ)) (ready taken waiting : List ℕ) : Type 0 where
  pub written : List ℕ
  pub appended : Appends before now written
  pub served : Served start taken waiting (with_text (written ++ ready) s)

-- what was written and taken by a run from a state with this text ready
abbrev pub RanFrom : List ℕ → Sim → Sim → Written → Written → List ℕ → List ℕ → List ℕ → Type 0
RanFrom ready s t before now left taken waiting = Ran (with_text ready s) t before.bytes now.bytes left taken waiting

-- from there one line was served, whatever comes after it
abbrev pub RanLine : List ℕ → Sim → Sim → Written → Written → List ℕ → List ℕ → Type 0
RanLine ready s t before now left line = (others : List ℕ) → RanFrom ready s t before now left (line ++ 10 ∷ others) others

-- the writer got the text of all of the input, and it ended so
pub record WroteAll (start : Sim) (before now : Option (List ℕ)) (how : SimEnd) (bytes : List ℕ) : Type 0 where
  pub text : Appends before now (sim_text start bytes)
  pub end : how ≡ sim_end start bytes

-- the writer got a beginning of that text
pub record WrotePart (start : Sim) (before now : Option (List ℕ)) (bytes : List ℕ) : Type 0 where
  pub text : List ℕ
  pub written : Appends before now text
  pub begins : Begins text (sim_text start bytes)

-- the writer got exactly the text of some first lines, and of so many of the first events of the next
pub record WroteFirst (start : Sim) (before now : Option (List ℕ)) (bytes : List ℕ) : Type 0 where
  pub lines : List (List ℕ)
  pub others : List (List ℕ)
  pub first : lines_of bytes ≡ lines ++ others
  pub events : ℕ
  pub text : Appends before now (begun_first events others (take_lines lines start)).text

-- the writer got the text of the lines whose LF was read, and then the reader failed or had given the most bytes that are read
pub record WroteLines (start : Sim) (old new : Devices) : Type 0 where
  pub taken : List ℕ
  pub consumed : Consumes old.input.left new.input.left taken
  pub written : Appends old.output.bytes new.output.bytes (whole_text start taken)
  pub why : (old.input.failures < new.input.failures) ⊎ (MOST_BYTES ≤ length taken)

-- all that was ready was written, and nothing is left to write
pub record Told (old new : Devices) (ready left : List ℕ) : Type 0 where
  pub written : Appends old.output.bytes new.output.bytes ready
  pub none_left : left ≡ []
  pub failures : old.output.failures ≤ new.output.failures

-- so many bytes were read into a buffer, none only at the end of the input
pub record Took (count : ℕ) (old new : Devices) (buffer : List ℕ) : Type 0 where
  pub bytes : Consumes old.input.left new.input.left (take count buffer)
  pub end : count ≡ 0 → 0 < length buffer → IsAtEnd new.input.left
  pub failures : old.input.failures ≤ new.input.failures

-- what is ready is written, and only then the input is read: where the writer fails, nothing was read
abbrev pub ReadsNext : Result ℕ SimEnd → Devices → Devices → List ℕ → List ℕ → List ℕ → Type 0
ReadsNext (Ok count) old new ready left buffer = Told old new ready left × Took count old new buffer
ReadsNext (Err Done) old new ready left buffer = ⊥
ReadsNext (Err (LineRefused _ _)) old new ready left buffer = ⊥
ReadsNext (Err HistoryFull) old new ready left buffer = ⊥
ReadsNext (Err InputFailed) old new ready left buffer = Told old new ready left × Keeps old.input.left new.input.left × (old.input.failures < new.input.failures)
ReadsNext (Err OutputFailed) old new ready left buffer =
    (new.input.left ≡ old.input.left) × (new.input.failures ≡ old.input.failures)
    × AppendsPart old.output.bytes new.output.bytes ready × (old.output.failures < new.output.failures)
ReadsNext (Err Memory) old new ready left buffer = ⊥

-- what is ready is written where the lines end for this reason, or for none
abbrev pub Finishes : SimEnd → Option LinesEnd → Written → Written → List ℕ → Type 0
Finishes Done reason before now ready = Appends before.bytes now.bytes ready × (Done ≡ end_of reason)
Finishes (LineRefused line why) reason before now ready = Appends before.bytes now.bytes ready × (LineRefused line why ≡ end_of reason)
Finishes HistoryFull reason before now ready = Appends before.bytes now.bytes ready × (HistoryFull ≡ end_of reason)
Finishes InputFailed reason before now ready = ⊥
Finishes OutputFailed reason before now ready = AppendsPart before.bytes now.bytes ready × (before.failures < now.failures)
Finishes Memory reason before now ready = ⊥

-- what was written from this start on, by how the run ended
abbrev pub Writes : SimEnd → Sim → Devices → Devices → Type 0
Writes Done start old new = IfSome old.input.left (WroteAll start old.output.bytes new.output.bytes Done)
Writes (LineRefused line why) start old new = IfSome old.input.left (WroteAll start old.output.bytes new.output.bytes (LineRefused line why))
Writes HistoryFull start old new = IfSome old.input.left (WroteAll start old.output.bytes new.output.bytes HistoryFull)
Writes InputFailed start old new = WroteLines start old new
Writes OutputFailed start old new = IfSome old.input.left (WrotePart start old.output.bytes new.output.bytes) × (old.output.failures < new.output.failures)
-- before the supervisor was opened, or later
Writes Memory start old new = (new ≡ old) ⊎ IfSome old.input.left (WroteFirst start old.output.bytes new.output.bytes)

-- for want of memory what was ready was written, or the writer failed in it
abbrev pub Flushes : SimEnd → Written → Written → List ℕ → Type 0
Flushes Done before now ready = ⊥
Flushes (LineRefused _ _) before now ready = ⊥
Flushes HistoryFull before now ready = ⊥
Flushes InputFailed before now ready = ⊥
Flushes OutputFailed before now ready = AppendsPart before.bytes now.bytes ready × (before.failures < now.failures)
Flushes Memory before now ready = Appends before.bytes now.bytes ready

-- a line is played from one state on, and has come to another; part of the text has been written, and part is ready to be
pub record Played (from to : Sim) (line : List ℕ) (before now : Option (List ℕ)) (ready : List ℕ) : Type 0 where
  pub written : List ℕ
  pub appended : Appends before now written
  pub same : with_text (written ++ ready) to ≡ take_line line from

-- within a line, for want of memory: the text of so many of its events was written
pub record Stopped (from : Sim) (line : List ℕ) (before now : Option (List ℕ)) : Type 0 where
  pub events : ℕ
  pub text : Appends before now (begun events line from).text

-- playing a line ends for want of memory, or because the writer failed in it
abbrev pub LineEnds : Result (Unit {0}) SimEnd → Sim → List ℕ → Written → Written → Type 0
LineEnds (Ok _) from line before now = Unit {0}
LineEnds (Err Done) from line before now = ⊥
LineEnds (Err (LineRefused _ _)) from line before now = ⊥
LineEnds (Err HistoryFull) from line before now = ⊥
LineEnds (Err InputFailed) from line before now = ⊥
LineEnds (Err OutputFailed) from line before now = AppendsPart before.bytes now.bytes (take_line line from).text × (before.failures < now.failures)
LineEnds (Err Memory) from line before now = Stopped from line before.bytes now.bytes

-- from s on a last line was served, and its text written, by how that ended
abbrev pub LastWrites : SimEnd → List ℕ → Sim → Written → Written → Type 0
LastWrites Done line s before now = Appends before.bytes now.bytes (take_line line s).text × (Done ≡ end_of (take_line line s).end)
LastWrites (LineRefused number why) line s before now = Appends before.bytes now.bytes (take_line line s).text × (LineRefused number why ≡ end_of (take_line line s).end)
LastWrites HistoryFull line s before now = Appends before.bytes now.bytes (take_line line s).text × (HistoryFull ≡ end_of (take_line line s).end)
LastWrites InputFailed line s before now = ⊥
LastWrites OutputFailed line s before now = AppendsPart before.bytes now.bytes (take_line line s).text × (before.failures < now.failures)
LastWrites Memory line s before now = Stopped s line before.bytes now.bytes

-- only a beginning was written, however the input goes on
pub record Broke (start : Sim) (before now : Option (List ℕ)) (taken : List ℕ) : Type 0 where
  pub text : List ℕ
  pub written : Appends before now text
  pub begins : (more : List ℕ) → Begins text (take_lines (lines_of (taken ++ more)) start).text

-- all that the lines served so far print was written, and the text of so many events of the next
pub record Halted (start : Sim) (before now : Option (List ℕ)) (taken : List ℕ) : Type 0 where
  pub lines : List (List ℕ)
  -- with more of the input
  pub others : List ℕ → List (List ℕ)
  pub cut : (more : List ℕ) → lines_of (taken ++ more) ≡ lines ++ others more
  pub events : ℕ
  pub text : (more : List ℕ) → Appends before now (begun_first events (others more) (take_lines lines start)).text

-- serving a piece of the input ends for want of memory, or because the writer failed in it
abbrev pub PieceEnds : Result (Unit {0}) SimEnd → Sim → Written → Written → List ℕ → Type 0
PieceEnds (Ok _) start before now taken = Unit {0}
PieceEnds (Err Done) start before now taken = ⊥
PieceEnds (Err (LineRefused _ _)) start before now taken = ⊥
PieceEnds (Err HistoryFull) start before now taken = ⊥
PieceEnds (Err InputFailed) start before now taken = ⊥
PieceEnds (Err OutputFailed) start before now taken = Broke start before.bytes now.bytes taken × (before.failures < now.failures)
PieceEnds (Err Memory) start before now taken = Halted start before.bytes now.bytes taken

-- no byte is the end of a line
abbrev pub NoEnd : List ℕ → Type 0
NoEnd bytes = All (λ byte. (byte == 10) ≡ false) bytes
