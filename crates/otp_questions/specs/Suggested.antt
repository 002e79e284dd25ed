-- What `suggest` writes (own).
use Rattle.std.specs.Prelude.{◌≡◌, ℕ, Bool, true, false, List, [], Ok}
use Rattle.std.specs.Borrow.{Bor}
use Rattle.std.specs.Io.KnownBytes.{Appends}
use Rattle.otp_file.specs.Files.{Says}
use Rattle.otp_file.specs.Trees.{Tree}
use Rattle.otp_objects.specs.Suggested.{SuggestsObject}
use Rattle.otp_sim.specs.Devices.{Written}
use Rattle.otp_suggest.specs.Advised.{IsUnsuggested}
use Rattle.otp_suggest.specs.Asked.{Asks, IsAmiss}
use Rattle.otp_suggest.specs.Told.{Suggests}
use Rattle.otp_suggest.specs.declared.asked.Asked.{Asked}
use Rattle.otp_suggest.specs.declared.course.Question.{Question}
use Rattle.otp_suggest.specs.declared.refused.SuggestionAnswer.{SuggestionAnswer}
use Rattle.otp_suggest.specs.declared.refused.SuggestionAnswer.TheVariants.{Told, NoChild, IsSupervisor}
use Rattle.otp_exit.specs.declared.ending.ProgramEnd.{ProgramEnd}
use Rattle.otp_exit.specs.declared.ending.ProgramEnd.TheVariants.{Done, NotFound, NamesSupervisor, NotAGap, HistoryFull}
use Rattle.otp_questions.specs.Said.{IsNotSaid}

-- what would survive crashes of a child, as a table or as an object with the name of its file
abbrev pub TellsSuggestion : Bool → List ℕ → Tree → List ℕ → Question → SuggestionAnswer → List ℕ → List ℕ → Type 0
TellsSuggestion false name tree child question answer before after = Suggests tree child question answer before after
TellsSuggestion true name tree child question answer before after = SuggestsObject name tree child question answer before after

-- the file says a tree and the words how often the child crashes, and the text answers so what survives it
abbrev pub HasSuggestion : Bool → List ℕ → List ℕ → Asked → SuggestionAnswer → List ℕ → List ℕ → Type 0
HasSuggestion is_json name child asked answer file text =
    (tree : Tree) × (question : Question)
    × (Says file (Ok tree) × (Asks asked question × TellsSuggestion is_json name tree child question answer [] text))

-- it was written; or no child of the tree has the name, the child is a supervisor, a word says no time or number, or crashes of the
-- child can't be played to their end
abbrev pub IsSuggested : Bool → Bor (List ℕ) → Asked → List ℕ → ProgramEnd → List ℕ → Written → Written → Type 0
IsSuggested is_json child asked name Done file old new =
    (text : List ℕ) × (HasSuggestion is_json name child.now asked Told file text × Appends old.bytes new.bytes text)
IsSuggested is_json child asked name (NotFound what near) file old new =
    (new ≡ old) × ((what ≡ child) × ((text : List ℕ) × HasSuggestion is_json name child.now asked NoChild file text))
IsSuggested is_json child asked name (NamesSupervisor what) file old new =
    (new ≡ old) × ((what ≡ child) × ((text : List ℕ) × HasSuggestion is_json name child.now asked IsSupervisor file text))
IsSuggested is_json child asked name (NotAGap word why) file old new = (new ≡ old) × IsAmiss asked word why
IsSuggested is_json child asked name HistoryFull file old new = (new ≡ old) × ((tree : Tree) × (Says file (Ok tree) × IsUnsuggested tree child.now))
IsSuggested is_json child asked name ending file old new = IsNotSaid name ending file old new
