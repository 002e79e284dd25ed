-- What is put on the page of a trial: the orders of its supervisors, in order, all of them or the ends alone, and remarks between
-- them (own).
use Rattle.std.specs.Prelude.{◌≡◌, ℕ, Bool, true, false, Ok, Option, List, [], ◌∷◌, ◌++◌, codes, map}
use Rattle.otp_text.specs.declared.timeline.moment.Moment.{Moment}
use Rattle.otp_try.specs.Lines.{heading_line, known_text, left_out_text, unmet_text}
use Rattle.otp_trial.specs.Played.{Makes, Move, Seated, Stand, at_start, fresh, now_of, story}
use Rattle.otp_trial.specs.Steps.{DoesTimes}
use Rattle.otp_try.specs.Prompt.{prompt_text, standings_text}
use Rattle.otp_try.specs.Sketched.{drawing}
use Rattle.otp_try.specs.Summaries.{summary_text}
use Rattle.otp_script.specs.Faults.{fault_text}
use Rattle.otp_trial.specs.Taken.{taken_text}
use Rattle.otp_try.specs.Texts.{farewell_text, help_text, legend_text, welcome_text}
use Rattle.otp_try.specs.declared.play.Writer.{Writer}
use Rattle.otp_try.specs.declared.play.Writer.TheVariants as writer
use Rattle.otp_script.specs.declared.fault.ScriptFault.{ScriptFault}
use Rattle.otp_script.specs.Lines.{Saying, saying_in}
use Rattle.otp_trial.specs.declared.trial.ActionEnd.{ActionEnd}
use Rattle.otp_trial.specs.declared.trial.ActionEnd.TheVariants as taken
use Rattle.otp_trial.specs.declared.processes.inits.Init.{Init}
use Rattle.otp_trial.specs.declared.processes.plans.Hang.{Hang}
use Rattle.otp_trial.specs.declared.processes.plans.PlannedStart.{PlannedStart}

-- what is told beside the orders
pub data Remark : Type 0 where
  Welcome : Remark
  Help : Remark
  -- what the cells of a picture mean
  Legend : Remark
  -- above what a line does, if it has a heading: its number and its text
  Heading : Bool → ℕ → List ℕ → Remark
  -- why a line can't be read
  Fault : ScriptFault → Remark
  -- behind what a line did, if that is told: its number and text, whether it names nobody, and what became of it
  Verdict : Bool → Writer → ℕ → List ℕ → Bool → ActionEnd → Remark
  -- the prompt; what happens next by itself, and whether events wait
  Prompt : Option ℕ → Bool → Remark
  -- how the supervisors stand, of which these have a process
  Status : List Bool → Remark
  -- where the input ends: the end of the line of the prompt
  Farewell : Remark
  -- at the end: how the supervisors stand, of which these have a process, and the plans of which nothing came, and then the verdict;
  -- or that alone
  Summary : Bool → Bool → List Bool → List PlannedStart → List Init → List Hang → Remark
  -- how these supervisors stood at these moments
  Picture : Bool → List Seated → List Moment → Remark

-- a sentence for a person, and for who reads what came of a log also of which line; a script ends with it
unfoldable pub reply_text : Writer → ℕ → List ℕ → List ℕ
reply_text writer.Script number text = []
reply_text writer.Person number text = text ++ codes "\n"
reply_text writer.Log number text = left_out_text number text

-- what is told behind what a line did
unfoldable pub verdict_text : Writer → ℕ → List ℕ → Bool → ActionEnd → List ℕ
verdict_text writer number line is_unknown taken.Done = known_text number is_unknown
verdict_text writer number line is_unknown taken.Unmet = unmet_text number line
verdict_text writer number line is_unknown why = reply_text writer number (taken_text why)

-- a text, if it is shown
unfoldable pub shown : Bool → List ℕ → List ℕ
shown false text = []
shown true text = text

-- why a line can't be read
unfoldable pub fault_line : ScriptFault → List ℕ
fault_line why = fault_text why ++ codes "\n"

-- what a remark says of a run that stands so
unfoldable pub remark_text : Remark → Stand → List ℕ
remark_text Welcome stand = welcome_text
remark_text Help stand = help_text
remark_text Legend stand = legend_text
remark_text (Heading has_heading number line) stand = heading_line has_heading number line
remark_text (Fault why) stand = fault_line why
remark_text (Verdict is_told writer number line is_unknown taken) stand = shown is_told (verdict_text writer number line is_unknown taken)
remark_text (Prompt next waits) stand = prompt_text stand.seats (now_of stand) next waits
remark_text (Status running) stand = standings_text (now_of stand) stand.seats running
remark_text Farewell stand = farewell_text
remark_text (Summary is_quiet is_played running plans inits hanging) stand =
    summary_text is_quiet is_played stand.clock (now_of stand) stand.seats running plans inits hanging
remark_text (Picture is_coloured drawn moments) stand = drawing is_coloured drawn moments

-- what comes next of a run: something is said; or what this line says is done by these moves, as often as it says, each time when it
-- says, came to this, and the run stands so; or a person wants lines undone: the tree stands as at the beginning of the run, and then these moves
-- are made, of which nothing is told, and the run stands so
pub data Piece : Type 0 where
  Said : Remark → Piece
  Did : List ℕ → ActionEnd → List Move → Stand → Piece
  Undone : List Move → Stand → Piece

-- by these moves was done what this line says
abbrev pub DoesLine : List ℕ → ActionEnd → Stand → List Move → Stand → Type 0
DoesLine line end old ms new = (said : Saying) × ((saying_in line ≡ Ok said) × DoesTimes said end old ms new)

-- the pieces lead from a run that stands so to one that stands so: nothing happens but by them
abbrev pub Leads : Stand → List Piece → Stand → Type 0
Leads stand [] after = after ≡ stand
Leads stand (Said r ∷ ps) after = Leads stand ps after
Leads stand (Did line end ms other ∷ ps) after = DoesLine line end stand ms other × Leads other ps after
Leads stand (Undone ms other ∷ ps) after = Makes (at_start stand.clock (map fresh stand.seats)) ms other × Leads other ps after

-- the text of pieces, of a run that stands so before them: of each move the lines of those of its orders that are told
abbrev pub pieces_text : Stand → List Piece → List ℕ
pieces_text stand [] = []
pieces_text stand (Said r ∷ ps) = remark_text r stand ++ pieces_text stand ps
pieces_text stand (Did line end ms other ∷ ps) = story ms ++ pieces_text other ps
pieces_text stand (Undone ms other ∷ ps) = pieces_text other ps

-- the run went on so, and its pieces were put behind the text, in order: no move of the supervisors is left out
pub record Adds (old new : Stand) (before after : List ℕ) : Type 0 where
  pub pieces : List Piece
  pub lead : Leads old pieces new
  pub text : after ≡ before ++ pieces_text old pieces
