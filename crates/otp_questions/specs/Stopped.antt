-- What `shutdown` writes (own).
use Rattle.std.specs.Prelude.{◌≡◌, ℕ, nat_le, Bool, true, false, List, [], Ok, Err, Option, Some, None}
use Rattle.std.specs.Borrow.{Bor}
use Rattle.std.specs.Io.KnownBytes.{Appends}
use Rattle.otp_file.specs.Files.{Says}
use Rattle.otp_file.specs.Trees.{Tree}
use Rattle.otp_objects.specs.Stops as object
use Rattle.otp_sim.specs.Devices.{Written}
use Rattle.otp_shutdown.specs.Stops.{AreStops, ended_after}
use Rattle.otp_shutdown.specs.Told as table
use Rattle.otp_shutdown.specs.declared.stop.Stop.{Stop}
use Rattle.otp_suggest.specs.Gaps.{gap_in}
use Rattle.otp_exit.specs.declared.ending.ProgramEnd.{ProgramEnd}
use Rattle.otp_exit.specs.declared.ending.ProgramEnd.TheVariants.{Done, NotAGap, StopTooLong}
use Rattle.otp_questions.specs.Said.{IsNotSaid}

-- how long the stop of a tree may take, as a table or as an object with the name of its file
abbrev pub TellsStops : Bool → List ℕ → Tree → List ℕ → List ℕ → Type 0
TellsStops false name tree before after = table.TellsStops tree before after
TellsStops true name tree before after = object.TellsStops name tree before after

-- the limit that a word says, where there is a word
abbrev pub IsLimit : Option (Bor (List ℕ)) → Option ℕ → Type 0
IsLimit None limit = limit ≡ None
IsLimit (Some word) None = ⊥
IsLimit (Some word) (Some limit) = gap_in word.now ≡ Ok limit

-- whether a stop that takes so long, or for ever, is within the limit, if there is one
abbrev pub is_within : Option ℕ → Option ℕ → Bool
is_within None longest = true
is_within (Some limit) None = false
is_within (Some limit) (Some longest) = nat_le longest limit

-- whether the longest stop of a tree is within the limit that a word says
abbrev pub Keeps : Option (Bor (List ℕ)) → Bool → Tree → Type 0
Keeps within kept tree =
    (limit : Option ℕ) × (stops : List Stop)
    × (IsLimit within limit × (AreStops tree stops × (is_within limit (ended_after (Some 0) stops) ≡ kept)))

-- by its word, which limit a stop isn't within that takes so long
abbrev pub IsLateBy : Option (Bor (List ℕ)) → Option ℕ → Option ℕ → Option (Bor (List ℕ)) → Type 0
IsLateBy within limit longest None = is_within limit longest ≡ true
IsLateBy within limit longest (Some word) = (within ≡ Some word) × (is_within limit longest ≡ false)

-- which limit the longest stop of a tree isn't within
abbrev pub IsLate : Option (Bor (List ℕ)) → Option (Bor (List ℕ)) → Tree → Type 0
IsLate within None tree = Keeps within true tree
IsLate within (Some word) tree = (within ≡ Some word) × Keeps within false tree

-- the file says a tree, whose longest stop is within that limit or not, and the text tells how long it may take
abbrev pub HasStops : Bool → Option (Bor (List ℕ)) → Bool → List ℕ → List ℕ → List ℕ → Type 0
HasStops is_json within kept name file text =
    (tree : Tree) × (Says file (Ok tree) × (Keeps within kept tree × TellsStops is_json name tree [] text))

-- the longest stop of a tree was written, and is within the limit, if there is one, or is not; or a word says no limit
abbrev pub IsStopped : Bool → Option (Bor (List ℕ)) → List ℕ → ProgramEnd → List ℕ → Written → Written → Type 0
IsStopped is_json within name Done file old new = (text : List ℕ) × (HasStops is_json within true name file text × Appends old.bytes new.bytes text)
IsStopped is_json within name (StopTooLong word) file old new =
    (within ≡ Some word) × ((text : List ℕ) × (HasStops is_json within false name file text × Appends old.bytes new.bytes text))
IsStopped is_json within name (NotAGap word why) file old new = (new ≡ old) × ((within ≡ Some word) × (gap_in word.now ≡ Err why))
IsStopped is_json within name ending file old new = IsNotSaid name ending file old new
