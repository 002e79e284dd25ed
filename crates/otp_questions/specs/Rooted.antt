-- What `suggest --root` writes (own).
use Rattle.std.specs.Prelude.{◌≡◌, ℕ, Bool, true, false, List, [], Ok}
use Rattle.std.specs.Borrow.{Bor}
use Rattle.std.specs.Io.KnownBytes.{Appends}
use Rattle.otp_file.specs.Files.{Says}
use Rattle.otp_file.specs.Trees.{Tree}
use Rattle.otp_objects.specs.Rooted.{SuggestsRootObject}
use Rattle.otp_sim.specs.Devices.{Written}
use Rattle.otp_suggest.specs.Asked.{IsAmiss, IsBurst}
use Rattle.otp_suggest.specs.RootTold.{SuggestsRoot}
use Rattle.otp_suggest.specs.declared.asked.Asked.TheVariants as asked
use Rattle.otp_suggest.specs.declared.refused.SuggestionAnswer.{SuggestionAnswer}
use Rattle.otp_suggest.specs.declared.refused.SuggestionAnswer.TheVariants.{Told, NoChild, IsSupervisor}
use Rattle.otp_exit.specs.Devices.{HasTree}
use Rattle.otp_exit.specs.declared.ending.ProgramEnd.{ProgramEnd}
use Rattle.otp_exit.specs.declared.ending.ProgramEnd.TheVariants.{Done, NotFound, NamesSupervisor, NotAGap, HistoryFull}
use Rattle.otp_questions.specs.Said.{IsNotSaid}

-- which change of one intensity is the least that has the root survive crashes of a child, as a table or as an object with the name of
-- its file
abbrev pub TellsRoot : Bool → List ℕ → Tree → List ℕ → ℕ → ℕ → SuggestionAnswer → List ℕ → List ℕ → Type 0
TellsRoot false name tree child count time answer before after = SuggestsRoot tree child count time answer before after
TellsRoot true name tree child count time answer before after = SuggestsRootObject name tree child count time answer before after

-- the file says a tree, and the words how many crashes come within which time; the text answers so what has the root survive them
abbrev pub HasRoot : Bool → List ℕ → List ℕ → Bor (List ℕ) → Bor (List ℕ) → SuggestionAnswer → List ℕ → List ℕ → Type 0
HasRoot is_json name child times within answer file text =
    (tree : Tree) × (count : ℕ) × (time : ℕ)
    × (Says file (Ok tree) × (IsBurst times within count time × TellsRoot is_json name tree child count time answer [] text))

-- it was written; or no child of the tree has the name, the child is a supervisor, a word says no time or number, or a run can't be
-- played to its end
abbrev pub IsRooted : Bool → Bor (List ℕ) → Bor (List ℕ) → Bor (List ℕ) → List ℕ → ProgramEnd → List ℕ → Written → Written → Type 0
IsRooted is_json child times within name Done file old new =
    (text : List ℕ) × (HasRoot is_json name child.now times within Told file text × Appends old.bytes new.bytes text)
IsRooted is_json child times within name (NotFound what near) file old new =
    (new ≡ old) × ((what ≡ child) × ((text : List ℕ) × HasRoot is_json name child.now times within NoChild file text))
IsRooted is_json child times within name (NamesSupervisor what) file old new =
    (new ≡ old) × ((what ≡ child) × ((text : List ℕ) × HasRoot is_json name child.now times within IsSupervisor file text))
IsRooted is_json child times within name (NotAGap word why) file old new = (new ≡ old) × IsAmiss (asked.Within times within) word why
IsRooted is_json child times within name HistoryFull file old new = (new ≡ old) × HasTree file
IsRooted is_json child times within name ending file old new = IsNotSaid name ending file old new
