-- A child of a tree of supervisors that crashes again and again, and how the root fares (own).
use Rattle.std.specs.Prelude.{◌≡◌, ◌<◌, ℕ, Bool, true, false, not, ◌&&◌, List, [], ◌∷◌, ◌++◌, Option, Some, None, codes, length, slice_get, take}
use Prim.Native.Nat.{zero, suc}
use Rattle.otp_file.specs.Trees.{Tree}
use Rattle.otp_reason.specs.declared.name.Name.{Name}
use Rattle.otp_reason.specs.declared.note.Note.TheVariants as note
use Rattle.otp_reason.specs.declared.reason.Reason.TheVariants as reason
use Rattle.otp_rules.specs.declared.call.Call.TheVariants as call
use Rattle.otp_rules.specs.declared.ending.Ending.{Ending}
use Rattle.otp_rules.specs.declared.ending.Ending.TheVariants.{Asked}
use Rattle.otp_rules.specs.declared.event.Item.TheVariants as item
use Rattle.otp_rules.specs.declared.event.Kind.TheVariants as kind
use Rattle.otp_rules.specs.declared.work.Phase.{Phase}
use Rattle.otp_rules.specs.declared.work.Phase.TheVariants.{Ended}
use Rattle.otp_rules.specs.State.{is_over}
use Rattle.otp_spec.specs.Flags.{is_simple}
use Rattle.otp_trial.specs.Played.{Begins, IsPlantedAs, Seated, Stand, at_start, is_root_over, state_in}
use Rattle.otp_trial.specs.declared.clock.Clock.TheVariants.{Milliseconds}
use Rattle.otp_trial.specs.declared.planting.Change.{Change}
use Rattle.otp_costs.specs.declared.limits.fall.TheConstants.{MOST_FALLS}
use Rattle.otp_costs.specs.declared.limits.fate.Fate.{Fate}
use Rattle.otp_costs.specs.declared.limits.fate.Fate.TheVariants as fate
use Rattle.otp_costs.specs.Fates.{process_of}

-- the process of the first child of the specification with this id, of this supervisor, if it runs
unfoldable pub process_at : Name → Option Seated → Option ℕ
process_at id None = None
process_at id (Some seat) = process_of id (state_in seat).rows

-- a supervisor of simple_one_for_one that runs
unfoldable pub is_joined : Option Seated → Bool
is_joined None = false
is_joined (Some seat) = is_simple seat.base.flags.strategy && not (is_over (state_in seat).phase)

-- somebody starts a child of the supervisor at this place, where it is one of simple_one_for_one
unfoldable pub Joins : Bool → ℕ → Stand → Stand → Type 0
Joins false place old new = new ≡ old
Joins true place old new = (number : ℕ) × Begins place (kind.Took (item.Call number call.StartDynamic)) old new

-- supervisors of which the root was opened, with all that followed, and that at this place has a child: all of it at no time
pub record OpensFrom (planted : List Seated) (place : ℕ) (new : Stand) : Type 0 where
  pub opened : Stand
  pub opens : Begins 0 (kind.Opened 0) (at_start Milliseconds planted) opened
  pub joins : Joins (is_joined (slice_get opened.seats place)) place opened new
  pub time : new.time ≡ 0

-- a tree, as its file says it or with another intensity of one supervisor, was opened so
pub record OpensTree (change : Option Change) (tree : Tree) (place : ℕ) (new : Stand) : Type 0 where
  pub planted : List Seated
  pub is_planted : IsPlantedAs change false tree planted
  pub opens : OpensFrom planted place new

-- the process of this child of the supervisor at this place is killed: that comes first, and then what follows from it, all of it at
-- the same time
pub record FallsOnce (place : ℕ) (id : Name) (old new : Stand) : Type 0 where
  pub process : ℕ
  pub runs : process_at id (slice_get old.seats place) ≡ Some process
  pub ends : Begins place (kind.Took (item.Note (note.Exit process reason.Killed))) old new
  pub time : new.time ≡ old.time

-- so many crashes of this child, one after the other, with no time between them
unfoldable pub FallsOften : ℕ → Name → ℕ → Stand → Stand → Type 0
FallsOften place id zero old new = new ≡ old
FallsOften place id (suc n) old new = (before : Stand) × (FallsOften place id n old before × FallsOnce place id before new)

-- the root runs after so many crashes
abbrev pub StandsAfter : ℕ → Name → ℕ → Stand → Stand → Type 0
StandsAfter place id n old new = FallsOften place id n old new × (is_root_over new.seats ≡ false)

-- how the root of an opened tree fares where this child crashes so often, at no time
unfoldable pub FallsSo : ℕ → ℕ → Name → Stand → Fate → Stand → Type 0
FallsSo most place id old fate.Survived new = StandsAfter place id most old new
FallsSo most place id old (fate.Ended n) new =
    (n < most) × ((last : Stand) × (StandsAfter place id n old last × (FallsOnce place id last new × (is_root_over new.seats ≡ true))))
FallsSo most place id old (fate.Gone n) new = StandsAfter place id n old new × (process_at id (slice_get new.seats place) ≡ None)

-- a supervisor has ended though nobody asked it to
unfoldable pub gave_up_by : Ending → Bool
gave_up_by Asked = false
gave_up_by _ = true

unfoldable pub gave_up : Phase → Bool
gave_up (Ended number ending) = gave_up_by ending
gave_up _ = false

-- the path of a supervisor: that of its children without the `/` behind it; the root has none
unfoldable pub supervisor_path : List ℕ → List ℕ
supervisor_path [] = codes "root"
supervisor_path (byte ∷ bytes) = take (length bytes) (byte ∷ bytes)

-- the supervisors that gave up, those below before those above them
unfoldable pub path_if : Bool → List ℕ → List (List ℕ)
path_if false path = []
path_if true path = supervisor_path path ∷ []

abbrev pub given_up : List Seated → List (List ℕ)
given_up [] = []
given_up (seat ∷ seats) = given_up seats ++ path_if (gave_up (state_in seat).phase) seat.path

-- these supervisors were opened, and this child crashed so often, or until the root had ended: the root fared so
pub record BearsFrom (planted : List Seated) (place : ℕ) (id : Name) (count : ℕ) (root : Fate) (after : Stand) : Type 0 where
  pub opened : Stand
  pub opens : OpensFrom planted place opened
  pub falls : FallsSo count place id opened root after

-- a tree was opened, and this child of it crashed until the root had ended, or as often as is played
pub record IsFall (tree : Tree) (place : ℕ) (id : Name) (root : Fate) (ends : List (List ℕ)) : Type 0 where
  pub opened : Stand
  pub opens : OpensTree None tree place opened
  pub after : Stand
  pub falls : FallsSo MOST_FALLS place id opened root after
  pub ended : ends ≡ given_up after.seats

-- a tree was opened, as its file says it or with another intensity of one supervisor, and this child crashed so often, or until the
-- root had ended: the root fared so
pub record Bears (change : Option Change) (tree : Tree) (place : ℕ) (id : Name) (count : ℕ) (root : Fate) : Type 0 where
  pub opened : Stand
  pub opens : OpensTree change tree place opened
  pub after : Stand
  pub falls : FallsSo count place id opened root after
