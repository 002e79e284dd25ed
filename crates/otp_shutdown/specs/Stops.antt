-- How long the stop of a tree may take: each child is told to stop once all that were started later have ended (Supervisor
-- Behaviour, "Child Specification", shutdown, and "Stopping").
use Rattle.std.specs.Prelude.{◌≡◌, ℕ, ◌+◌, ◌==◌, min, Bool, true, false, List, [], ◌∷◌, ◌++◌, Option, Some, None, codes, option_map, slice_get, unwrap_or, count_by, if◌then◌else◌}
use Prim.Native.Nat.{zero, suc}
use Rattle.std.specs.List.{flat_map}
use Rattle.otp_file.specs.Trees.{Tree, tables_of}
use Rattle.otp_file.specs.declared.limits.TheConstants.{MAX_DEPTH}
use Rattle.otp_reason.specs.Names.{name_bytes}
use Rattle.otp_rules.specs.Stops.{told}
use Rattle.otp_spec.specs.Flags.{is_simple}
use Rattle.otp_spec.specs.declared.child.ChildSpec.{ChildSpec}
use Rattle.otp_spec.specs.declared.child.Shutdown.{Shutdown}
use Rattle.otp_spec.specs.declared.child.Shutdown.TheVariants.{BrutalKill, Milliseconds, Infinity}
use Rattle.otp_spec.specs.declared.limits.TheConstants.{MAX_READING}
use Rattle.otp_table.specs.declared.row.RowState.{RowState}
use Rattle.otp_table.specs.declared.row.RowState.TheVariants.{Asked}
use Rattle.otp_shutdown.specs.declared.stop.Stop.{Stop}

-- the path of the children of the child at this place, whose own is this
abbrev pub path_in : List ℕ → Option ChildSpec → List ℕ
path_in path None = path
path_in path (Some spec) = path ++ name_bytes spec.id ++ codes "/"

-- the stops of the tree of the child at this place, if it has one
abbrev pub sub_at : ℕ → List ℕ → List (List Stop) → Option (List Stop)
sub_at place [] each = None
sub_at place (other ∷ others) [] = None
sub_at place (other ∷ others) (stops ∷ each) = if other == place then Some stops else sub_at place others each

-- the stop of a child; of a supervisor whose tree stands in the file those of its children, since it ends once they have ended.
-- Children of simple_one_for_one are told together, and have one stop.
abbrev pub stops_at : Bool → List ℕ → ChildSpec → Option (List Stop) → List Stop
stops_at simple path spec None = record { name = path ++ name_bytes spec.id; shutdown = spec.shutdown; is_shared = simple } ∷ []
stops_at simple path spec (Some stops) = stops

-- the stops of these children, of which the first stands at this place: the last one first
abbrev pub stops_from : Bool → List ℕ → List ℕ → List (List Stop) → ℕ → List ChildSpec → List Stop
stops_from simple path nested each place [] = []
stops_from simple path nested each place (spec ∷ specs) =
    stops_from simple path nested each (place + 1) specs ++ stops_at simple path spec (sub_at place nested each)

-- the stops of each of these trees, those of the children at these places
abbrev pub AreSubs : (List ℕ → Tree → List Stop → Type 0) → List ℕ → List ChildSpec → List ℕ → List Tree → List (List Stop) → Type 0
AreSubs Are path specs [] [] [] = Unit {0}
AreSubs Are path specs (place ∷ places) (tree ∷ trees) (stops ∷ each) =
    Are (path_in path (slice_get specs place)) tree stops × AreSubs Are path specs places trees each
AreSubs Are path specs places trees each = ⊥

-- the stops of a tree of so many levels at the most, whose root's children have this path
abbrev pub AreStopsWithin : ℕ → List ℕ → Tree → List Stop → Type 0
AreStopsWithin zero path tree stops = ⊥
AreStopsWithin (suc levels) path tree stops =
    (trees : List Tree) × (each : List (List Stop))
    × (flat_map tables_of trees ≡ tree.below)
    × AreSubs (AreStopsWithin levels) path tree.specs tree.nested trees each
    × (stops ≡ stops_from (is_simple tree.flags.strategy) path tree.nested each 0 tree.specs)

-- the stops of a tree, one after the other
abbrev pub AreStops : Tree → List Stop → Type 0
AreStops = AreStopsWithin MAX_DEPTH []

-- by when a child that was told to stop at this time, and stands so, has ended: at its deadline, if it has one; one that is
-- killed ends at once
abbrev pub ended_by : ℕ → RowState → Option ℕ
ended_by time (Asked _ deadline) = deadline
ended_by time _ = Some time

-- by when a child has ended that is told at this time, as the supervisor sets its deadline. No tree comes near the greatest
-- reading of a clock.
unfoldable pub later : Option ℕ → Shutdown → Option ℕ
later None shutdown = None
later (Some time) shutdown = option_map (λ end. min end MAX_READING) (ended_by time (told time 0 shutdown))

-- by when all of these have ended; none where one of them has no limit
abbrev pub ended_after : Option ℕ → List Stop → Option ℕ
ended_after time [] = time
ended_after time (stop ∷ stops) = ended_after (later time stop.shutdown) stops

-- by when those of these have ended that have a limit: one without adds nothing
abbrev pub sum_from : ℕ → List Stop → ℕ
sum_from time [] = time
sum_from time (stop ∷ stops) = sum_from (unwrap_or (later (Some time) stop.shutdown) time) stops

-- it has no limit
unfoldable pub is_endless_by : Shutdown → Bool
is_endless_by BrutalKill = false
is_endless_by (Milliseconds _) = false
is_endless_by Infinity = true

abbrev pub is_endless : Stop → Bool
is_endless stop = is_endless_by stop.shutdown

-- the first one that has no limit, and how many there are
abbrev pub first_endless : List Stop → Option Stop
first_endless [] = None
first_endless (stop ∷ stops) = if is_endless stop then Some stop else first_endless stops

abbrev pub count_endless : List Stop → ℕ
count_endless stops = count_by is_endless stops
