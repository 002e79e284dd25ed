-- What of a trial is on the page and what is written, however the run ends (own).
use Rattle.std.specs.Prelude.{◌≡◌, ◌⊎◌, Bool, true, false, List, [], ◌++◌, ℕ, Option, Result, Ok, Err}
use Rattle.std.specs.Io.KnownBytes.{Appends}
use Rattle.otp_file.specs.Trees.{Tree}
use Rattle.otp_rules.specs.declared.event.Kind.TheVariants as kind
use Rattle.otp_sim.specs.Devices.{AppendsPart}
use Rattle.otp_try.specs.Page.{Adds, Leads, Piece, pieces_text}
use Rattle.otp_try.specs.Summaries.{IsSummary}
use Rattle.otp_trial.specs.Played.{IsPlanted, Seated, Stand, TellsFirst, at_start}
use Rattle.otp_trial.specs.declared.clock.Clock.{Clock}
use Rattle.otp_try.specs.declared.early.EarlyEnd.{EarlyEnd}
use Rattle.otp_try.specs.declared.early.EarlyEnd.TheVariants as early
use Rattle.otp_try.specs.declared.play.TryEnd.{TryEnd}
use Rattle.otp_try.specs.declared.play.TryEnd.TheVariants.{Done, LineRefused, LineMissed, ExpectationFailed, LeftOut, NothingPlayed, HistoryFull, InputFailed, OutputFailed, OutOfMemory}
use Rattle.otp_try.specs.declared.play.Writer.{Writer}
use Rattle.otp_try.specs.declared.play.Writer.TheVariants as writer
use Rattle.otp_try.specs.declared.settings.Shows.{Shows}
use Rattle.otp_try.specs.declared.settings.Shows.TheVariants as shows

-- whole pieces were put on the page: all of what was done, or, where it went wrong, the pieces of a beginning of it
abbrev pub AddsTo : {T E : Type 0} → Result T E → Stand → Stand → List ℕ → List ℕ → Type 0
AddsTo (Ok _) old new before after = Adds old new before after
AddsTo (Err _) old new before after = (stood : Stand) × Adds old stood before after

-- the run went on so: its pieces were put on the page in order, and of the page's text some is written, and the rest is left
pub record Wrote (old new : Stand) (page left : List ℕ) (before now : Option (List ℕ)) : Type 0 where
  pub pieces : List Piece
  pub lead : Leads old pieces new
  pub written : List ℕ
  pub appended : Appends before now written
  pub text : written ++ left ≡ page ++ pieces_text old pieces

-- of such a text a beginning is written, since the writer failed
pub record WrotePart (old : Stand) (page : List ℕ) (before now : Option (List ℕ)) : Type 0 where
  pub pieces : List Piece
  pub stood : Stand
  pub lead : Leads old pieces stood
  pub part : AppendsPart before now (page ++ pieces_text old pieces)

-- how far a run came that ended early
abbrev pub StopsSo : EarlyEnd → Stand → List ℕ → List ℕ → Option (List ℕ) → Option (List ℕ) → Type 0
StopsSo early.OutputFailed old page left before now = WrotePart old page before now
StopsSo _ old page left before now = (stood : Stand) × Wrote old stood page left before now

-- how such a run is said to end
unfoldable pub end_of : EarlyEnd → TryEnd
end_of (early.LineRefused line why) = LineRefused line why
end_of (early.LineMissed line why near) = LineMissed line why near
end_of early.HistoryFull = HistoryFull
end_of early.InputFailed = InputFailed
end_of early.OutputFailed = OutputFailed
end_of early.OutOfMemory = OutOfMemory

abbrev pub Ran : {T : Type 0} → Result T EarlyEnd → Stand → Stand → List ℕ → List ℕ → Option (List ℕ) → Option (List ℕ) → Type 0
Ran (Ok _) old new page left before now = Wrote old new page left before now
Ran (Err end) old new page left before now = StopsSo end old page left before now

-- behind pieces without a move a summary was put on the page, of the supervisors as they stand
pub record Closing (stand : Stand) (before after : List ℕ) : Type 0 where
  pub middle : List ℕ
  pub adds : Adds stand stand before middle
  pub summary : List ℕ
  pub sums : IsSummary stand summary
  pub text : after ≡ middle ++ summary

-- a run was summed up; or, where that went wrong, whole pieces were put on the page
abbrev pub SumsUp : {T E : Type 0} → Result T E → Stand → List ℕ → List ℕ → Type 0
SumsUp (Ok _) stand before after = Closing stand before after
SumsUp (Err _) stand before after = (stood : Stand) × Adds stand stood before after

-- so a run ends that was played to its end
abbrev pub IsWhole : TryEnd → Type 0
IsWhole Done = Unit {0}
IsWhole (ExpectationFailed _) = Unit {0}
IsWhole (LeftOut _ _ _) = Unit {0}
IsWhole NothingPlayed = Unit {0}
IsWhole _ = ⊥

-- the last of a run that was played to its end was written, or a beginning of it
abbrev pub WritesOut : TryEnd → List ℕ → Option (List ℕ) → Option (List ℕ) → Type 0
WritesOut Done text before now = Appends before now text
WritesOut (ExpectationFailed _) text before now = Appends before now text
WritesOut (LeftOut _ _ _) text before now = Appends before now text
WritesOut NothingPlayed text before now = Appends before now text
WritesOut OutputFailed text before now = AppendsPart before now text
WritesOut _ text before now = ⊥

-- all of the run was written, and behind its last piece how its supervisors stand, where all of its moves have led them
pub record Concluded (old : Stand) (page : List ℕ) (before now : Option (List ℕ)) : Type 0 where
  pub pieces : List Piece
  pub stood : Stand
  pub lead : Leads old pieces stood
  pub summary : List ℕ
  pub sums : IsSummary stood summary
  pub written : List ℕ
  pub appended : Appends before now written
  pub text : written ≡ page ++ pieces_text old pieces ++ summary

-- a run from these supervisors on ended so, and nothing is left on the page: all its pieces were written, or the writer failed
abbrev pub Ended : TryEnd → Stand → List ℕ → Option (List ℕ) → Option (List ℕ) → Type 0
Ended Done old page before now = Concluded old page before now
Ended (ExpectationFailed _) old page before now = Concluded old page before now
Ended (LeftOut _ _ _) old page before now = Concluded old page before now
Ended NothingPlayed old page before now = Concluded old page before now
Ended OutputFailed old page before now = WrotePart old page before now
Ended _ old page before now = (stood : Stand) × Wrote old stood page [] before now

-- where all of a run was played, this text of it is left and so much was written, it ended so
abbrev pub Concludes : TryEnd → Stand → List ℕ → Option (List ℕ) → Option (List ℕ) → Type 0
Concludes end trial text between now =
    (stand : Stand) (page : List ℕ) (before : Option (List ℕ)) → Wrote stand trial page text before between → Ended end stand page before now

-- where a run stopped early, this text of it is left and so much was written, it ended so
abbrev pub Closes : EarlyEnd → TryEnd → List ℕ → Option (List ℕ) → Option (List ℕ) → Type 0
Closes why end text between now =
    (stand : Stand) (page : List ℕ) (before : Option (List ℕ)) → StopsSo why stand page text before between → Ended end stand page before now

-- whether all orders are told: where a script is drawn, or little is to be told, the ends of supervisors alone are
abbrev pub tells_orders : Writer → Shows → Bool
tells_orders writer.Person _ = true
tells_orders writer.Script shows.Orders = true
tells_orders writer.Script shows.Ends = false
tells_orders writer.Script (shows.Timeline _ _) = false
tells_orders writer.Log shows.Orders = true
tells_orders writer.Log shows.Ends = false
tells_orders writer.Log (shows.Timeline _ _) = false

-- a run ends so where a trial can't go on
abbrev pub IsHalt : EarlyEnd → Type 0
IsHalt early.HistoryFull = Unit {0}
IsHalt early.OutOfMemory = Unit {0}
IsHalt _ = ⊥

-- nothing was written, since there was no room to open the root
abbrev pub Unopened : TryEnd → Option (List ℕ) → Option (List ℕ) → Type 0
Unopened HistoryFull before now = now ≡ before
Unopened OutOfMemory before now = now ≡ before
Unopened _ before now = ⊥

-- a run of the supervisors of a tree, of which none was ever opened, and all are told or of each its ends alone: first the root is
-- opened, with all that follows from it, and then come its pieces
pub record Played (end : TryEnd) (tree : Tree) (tells : Bool) (before now : Option (List ℕ)) : Type 0 where
  pub planted : List Seated
  pub is : IsPlanted tells tree planted
  pub opened : Stand
  pub opening : List ℕ
  pub clock : Clock
  pub opens : TellsFirst 0 (kind.Opened 0) (at_start clock planted) opened [] opening
  pub ended : Ended end opened opening before now

-- a tree was tried: what is written is such a run
abbrev pub Tries : TryEnd → Tree → Bool → Option (List ℕ) → Option (List ℕ) → Type 0
Tries end tree tells before now = Unopened end before now ⊎ Played end tree tells before now
