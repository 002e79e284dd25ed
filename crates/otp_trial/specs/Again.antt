-- A tree that is opened again from its beginning on (own).
use Rattle.std.specs.Prelude.{◌≡◌, ℕ, Bool, List, Option, map}
use Rattle.otp_file.specs.Trees.{Tree}
use Rattle.otp_rules.specs.declared.event.Kind.{Kind}
use Rattle.otp_trial.specs.Played.{Begins, IsPlantedAs, Seated, Stand, fresh}
use Rattle.otp_trial.specs.declared.planting.Change.{Change}

-- the supervisors of a tree, of which none was ever opened, are as at the beginning of a run
abbrev pub PlantedAreFresh : Type 0
PlantedAreFresh = (change : Option Change) (tells : Bool) (tree : Tree) (seats : List Seated) → IsPlantedAs change tells tree seats → map fresh seats ≡ seats

-- whatever happens first, and whatever follows: each supervisor is opened with what it was to be opened with before
abbrev pub EventsKeepTrees : Type 0
EventsKeepTrees = (place : ℕ) (k : Kind) (old new : Stand) → Begins place k old new → map fresh new.seats ≡ map fresh old.seats
