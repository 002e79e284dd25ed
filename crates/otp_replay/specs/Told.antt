-- What a replay writes, and how it ends (own).
use Rattle.std.specs.Prelude.{◌≡◌, ◌⊎◌, ℕ, ◌-◌, Bool, true, false, not, ◌&&◌, ◌==◌, List, [], ◌∷◌, ◌++◌, Option, Result, Ok, Err, codes, decimal, if◌then◌else◌, length}
use Rattle.std.specs.List.{flat_map}
use Rattle.std.specs.Io.KnownBytes.{Appends}
use Rattle.otp_file.specs.Trees.{Tree}
use Rattle.otp_sim.specs.Devices.{AppendsPart}
use Rattle.otp_try.specs.Pages.{Tries}
use Rattle.otp_try.specs.declared.play.TryEnd.{TryEnd}
use Rattle.otp_try.specs.declared.play.TryEnd.TheVariants.{Done, ExpectationFailed, LeftOut, NothingPlayed, OutOfMemory, OutputFailed}
use Rattle.otp_replay.specs.Logs.{Log, log_in}
use Rattle.otp_replay.specs.Nears.{miss_text}
use Rattle.otp_replay.specs.declared.near.Miss.{Miss}
use Rattle.otp_replay.specs.declared.reading.LogFault.{LogFault}
use Rattle.otp_replay.specs.declared.reading.LogFault.TheVariants.{GoesBack, OtherClock}
use Rattle.otp_replay.specs.declared.reading.NearLine.{NearLine}
use Rattle.otp_replay.specs.declared.played.ReplayEnd.{ReplayEnd}
use Rattle.otp_replay.specs.declared.played.ReplayEnd.TheVariants.{LogRefused, Tried}

-- the line that has the fault
abbrev pub fault_line : LogFault → ℕ
fault_line (GoesBack line) = line
fault_line (OtherClock line) = line

-- why it is refused, behind its number
unfoldable pub reason_text : LogFault → List ℕ
reason_text (GoesBack line) = codes ": its timestamp is earlier than that of the line before that is played\n"
reason_text (OtherClock line) = codes ": seconds and instants as timestamps in one log count from different zeros\n"

-- why a log is refused
abbrev pub fault_text : LogFault → List ℕ
fault_text why = codes "line " ++ decimal (fault_line why) ++ reason_text why

-- how the lines are seen that aren't played
unfoldable pub hint_text : Bool → ℕ → List ℕ
hint_text is_listed missed = if not is_listed && not (missed == 0) then codes " (--unmatched shows them)" else []

-- how many lines were played, and how many weren't
unfoldable pub counts_text : ℕ → ℕ → Bool → List ℕ
counts_text played missed is_listed =
    codes "lines played: " ++ decimal played ++ codes ", not matched: " ++ decimal missed ++ hint_text is_listed missed ++ codes "\n"

abbrev pub listed_if : Bool → List ℕ → List ℕ
listed_if false others = []
listed_if true others = others

-- a line of the log of this name
unfoldable pub place_text : List ℕ → ℕ → List ℕ
place_text name number = name ++ codes ":" ++ decimal number

-- why it isn't played
unfoldable pub unplayed_text : Miss → List ℕ
unplayed_text miss = codes ": not played: " ++ miss_text miss ++ codes "\n"

-- a line that looks as if it could be played, and why it isn't
unfoldable pub near_line : List ℕ → NearLine → List ℕ
near_line name one = place_text name one.number ++ unplayed_text one.miss

-- so many more there are
unfoldable pub more_line : List ℕ → ℕ → List ℕ
more_line name more = name ++ codes ": " ++ decimal more ++ codes " more lines look as if they could be played\n"

-- how many more, if there are
unfoldable pub more_text : List ℕ → ℕ → List ℕ
more_text name more = if more == 0 then [] else more_line name more

-- which time of the log is zero, if a line is played
unfoldable pub zero_text : List ℕ → List ℕ
zero_text [] = []
zero_text (byte ∷ zero) = codes "0.000 s is " ++ byte ∷ zero ++ codes "\n"

-- what stands behind all that `try` writes
unfoldable pub tail_text : List ℕ → Bool → Log → List ℕ
tail_text name is_listed log =
    zero_text log.zero ++ flat_map (near_line name) log.near ++ more_text name (log.counts.near - length log.near)
    ++ counts_text log.counts.played log.counts.missed is_listed ++ listed_if is_listed log.others

-- a text was written, or a beginning of it, and then the writer failed
abbrev pub WritesLast : TryEnd → TryEnd → List ℕ → Option (List ℕ) → Option (List ℕ) → Type 0
WritesLast tried end text before now =
    ((end ≡ tried) × Appends before now text) ⊎ ((end ≡ OutputFailed) × AppendsPart before now text)

-- a text was written behind a run that was played to its end, and else nothing
abbrev pub Closes : TryEnd → TryEnd → List ℕ → Option (List ℕ) → Option (List ℕ) → Type 0
Closes Done end text before now = WritesLast Done end text before now
Closes (ExpectationFailed line) end text before now = WritesLast (ExpectationFailed line) end text before now
Closes (LeftOut line why near) end text before now = WritesLast (LeftOut line why near) end text before now
Closes NothingPlayed end text before now = WritesLast NothingPlayed end text before now
Closes tried end text before now = (end ≡ tried) × (now ≡ before)

-- the log was read, its script was tried, and then it was told how much of it was played
pub record PlaysLog (end : TryEnd) (tree : Tree) (name text : List ℕ) (tells is_listed : Bool) (before now : Option (List ℕ)) : Type 0 where
  pub log : Log
  pub is : log_in text ≡ Ok log
  pub tried : TryEnd
  pub middle : Option (List ℕ)
  pub tries : Tries tried tree tells before middle
  pub closes : Closes tried end (tail_text name is_listed log) middle now

-- the log of this name was replayed; or it was refused, or memory was, and nothing was written
abbrev pub Replays : ReplayEnd → Tree → List ℕ → List ℕ → Bool → Bool → Option (List ℕ) → Option (List ℕ) → Type 0
Replays (LogRefused fault) tree name text tells is_listed before now = (log_in text ≡ Err fault) × (now ≡ before)
Replays (Tried end) tree name text tells is_listed before now =
    ((end ≡ OutOfMemory) × (now ≡ before)) ⊎ PlaysLog end tree name text tells is_listed before now
