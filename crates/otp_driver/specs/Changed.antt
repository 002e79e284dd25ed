-- A tree goes on under another tree file: each supervisor of both as the file says (supervisor, code_change/3). Which supervisors there
-- are is the file's alone (own).
use Rattle.std.specs.Prelude.{◌≡◌, ◌⊎◌, ⊤, ℕ, ◌+◌, ◌<◌, ◌==◌, ◌&&◌, ◌||◌, not, Bool, true, false, List, [], ◌∷◌, ◌++◌, Option, None, Some, if◌then◌else◌, is_some, length, position, slice_get, unwrap_or}
use Rattle.std.specs.List.{list_any}
use Rattle.std.specs.Ordering.{on}
use Rattle.std.specs.Str.{bytes_eq}
use Rattle.otp_file.specs.Trees.{Tree}
use Rattle.otp_reason.specs.Names.{name_bytes}
use Rattle.otp_reason.specs.declared.name.Name.{Name}
use Rattle.otp_rules.specs.Progress.{process_number}
use Rattle.otp_rules.specs.State.{is_over}
use Rattle.otp_spec.specs.declared.child.ChildSpec.{ChildSpec}
use Rattle.otp_table.specs.declared.row.Row.{Row}
use Rattle.otp_driver.specs.DrivenChanged.{IsUnchanged, MayGoOn, changed_member}
use Rattle.otp_driver.specs.Links.{holds_process, is_link_of, nested_of}
use Rattle.otp_driver.specs.Members.{Member, row_at, state_in}
use Rattle.otp_driver.specs.declared.driven.fault.ChangeRefusal.{ChangeRefusal}
use Rattle.otp_driver.specs.declared.driven.fault.ChangeRefusal.TheVariants.{OutOfMemory, OrdersWait, Runs, Turns}
use Rattle.otp_driver.specs.declared.driven.link.Link.{Link}
use Rattle.otp_driver.specs.Driven.{Driven}
use Rattle.otp_driver.specs.Opened.{IsPlanted}
use Rattle.otp_driver.specs.declared.changing.Unchanged.{Unchanged}

-- the child has this id
abbrev pub is_named : Name → Option ChildSpec → Bool
is_named id None = false
is_named id (Some spec) = on name_bytes bytes_eq spec.id id

-- it is the child of this id, of the supervisor at this place
abbrev pub is_link_named : ℕ → Name → Link → Bool
is_link_named parent id link = link.parent == parent && is_named id link.child

-- the supervisor of the old tree that was the child of this id
abbrev pub child_named : List Link → Option ℕ → Option ChildSpec → Option ℕ
child_named olds (Some parent) (Some spec) = position (is_link_named parent spec.id) olds
child_named olds _ _ = None

-- where the supervisor at a place comes from, if it is none that is added
abbrev pub joined : Option (Option ℕ) → Option ℕ
joined None = None
joined (Some origin) = origin

abbrev pub origin_at : List (Option ℕ) → ℕ → Option ℕ
origin_at origins place = joined (slice_get origins place)

-- where the supervisor with this link comes from, where those before it come from these: the root from the root; any other from the
-- child of the same id of that from which its parent comes
abbrev pub origin_after : List Link → List (Option ℕ) → Link → Option ℕ
origin_after olds origins link =
    if length origins == 0 then Some 0 else child_named olds (origin_at origins link.parent) link.child

abbrev pub origins_after : List Link → List (Option ℕ) → List Link → List (Option ℕ)
origins_after olds origins [] = origins
origins_after olds origins (l ∷ ls) = origins_after olds (origins ++ origin_after olds origins l ∷ []) ls

-- where the supervisors with these links come from
unfoldable pub origins_of : List Link → List Link → List (Option ℕ)
origins_of olds links = origins_after olds [] links

-- what of the old tree a supervisor comes from
abbrev pub at_origin : {X : Type 0} → List X → Option ℕ → Option X
at_origin olds None = None
at_origin olds (Some place) = slice_get olds place

-- a supervisor of both trees goes on under the flags and specifications of the new one; one that is added was never opened
abbrev pub member_on : Option Member → Member → Member
member_on None m = m
member_on (Some old) m = changed_member m.base.flags m.base.specs old

-- it is the child that the file says, and stands as it did
abbrev pub link_on : Option Link → Link → Link
link_on None link = link
link_on (Some old) link = record old { parent = link.parent; child = link.child }

-- of those at the places from this number on
abbrev pub members_from : List Member → List (Option ℕ) → ℕ → List Member → List Member
members_from olds origins number [] = []
members_from olds origins number (m ∷ ms) = member_on (at_origin olds (origin_at origins number)) m ∷ members_from olds origins (number + 1) ms

abbrev pub links_from : List Link → List (Option ℕ) → ℕ → List Link → List Link
links_from olds origins number [] = []
links_from olds origins number (l ∷ ls) = link_on (at_origin olds (origin_at origins number)) l ∷ links_from olds origins (number + 1) ls

-- the old tree as it goes on under these origins of the supervisors of a tree of which none was opened: the clock, the process numbers and
-- the calls are its own
abbrev pub changed_from : List (Option ℕ) → Driven → Driven → Driven
changed_from origins old planted =
    record old {
      members = members_from old.members origins 0 planted.members;
      links = links_from old.links origins 0 planted.links;
    }

-- a supervisor of the new tree comes from the one at this place
abbrev pub is_place : ℕ → Option ℕ → Bool
is_place place None = false
is_place place (Some origin) = origin == place

abbrev pub is_kept : List (Option ℕ) → ℕ → Bool
is_kept origins place = list_any (is_place place) origins

-- it has a process, or hasn't ended
abbrev pub goes_on : Link → Member → Bool
goes_on link m = is_some link.process || not (is_over (state_in m).phase)

-- why a supervisor may not go: an order waits, or it runs
abbrev pub stay_fault : Bool → Link → Member → Option ChangeRefusal
stay_fault true link m = None
stay_fault false link m = if not (length m.effects == 0) then Some OrdersWait else if goes_on link m then Some Runs else None

abbrev pub stay_fault_in : Bool → Option Link → Option Member → Option ChangeRefusal
stay_fault_in kept None o = None
stay_fault_in kept (Some link) None = None
stay_fault_in kept (Some link) (Some m) = stay_fault kept link m

unfoldable pub stay_fault_at : List (Option ℕ) → Driven → ℕ → Option ChangeRefusal
stay_fault_at origins t place = stay_fault_in (is_kept origins place) (slice_get t.links place) (slice_get t.members place)

-- whether two places, where there are any, are one
abbrev pub are_same : Option ℕ → Option ℕ → Bool
are_same None None = true
are_same (Some one) (Some other) = one == other
are_same _ _ = false

-- the process of a child isn't that of the supervisor which the child is: it would be one of another kind
abbrev pub is_untied_as : List Link → ℕ → Row → Option ℕ → Bool
is_untied_as links place row None = false
is_untied_as links place row (Some number) = not (are_same (position (holds_process place number) links) (position (is_link_of place row) links))

abbrev pub is_untied_row : List Link → ℕ → Row → Bool
is_untied_row links place row = is_untied_as links place row (process_number row.state)

abbrev pub has_untied_row : List Link → ℕ → Option Member → Bool
has_untied_row links place None = false
has_untied_row links place (Some m) = list_any (is_untied_row links place) (state_in m).rows

-- the process of the supervisor at a place isn't that of the child which it is
abbrev pub is_child_untied : List Link → ℕ → ℕ → ℕ → Option Member → Bool
is_child_untied links place parent number None = true
is_child_untied links place parent number (Some m) = not (are_same (nested_of links parent (row_at (state_in m).rows number)) (Some place))

abbrev pub is_link_untied_as : Driven → ℕ → ℕ → Option ℕ → Bool
is_link_untied_as t place parent None = false
is_link_untied_as t place parent (Some number) = is_child_untied t.links place parent number (slice_get t.members parent)

abbrev pub is_link_untied : Driven → ℕ → Option Link → Bool
is_link_untied t place None = false
is_link_untied t place (Some link) = is_link_untied_as t place link.parent link.process

-- one of both, at a place
unfoldable pub is_untied : Driven → ℕ → Bool
is_untied t place = has_untied_row t.links place (slice_get t.members place) || is_link_untied t place (slice_get t.links place)

-- a supervisor of both trees may go on so
abbrev pub MayGoOnAs : Option Member → Member → Type 0
MayGoOnAs None m = ⊤
MayGoOnAs (Some old) m = MayGoOn m.base.flags m.base.specs old

abbrev pub MayGoOnFrom : List Member → List (Option ℕ) → ℕ → List Member → Type 0
MayGoOnFrom olds origins number [] = ⊤
MayGoOnFrom olds origins number (m ∷ ms) = MayGoOnAs (at_origin olds (origin_at origins number)) m × MayGoOnFrom olds origins (number + 1) ms

-- a supervisor of both trees doesn't go on so, for this
abbrev pub IsHeldAs : Option Member → Member → ChangeRefusal → Type 0
IsHeldAs None m why = ⊥
IsHeldAs (Some old) m why = IsUnchanged m.base.flags m.base.specs old why

abbrev pub IsHeldAt : List Member → Option ℕ → Member → Unchanged → Type 0
IsHeldAt olds None m u = ⊥
IsHeldAt olds (Some place) m u = (u.supervisor ≡ place) × IsHeldAs (slice_get olds place) m u.why

abbrev pub IsHeldFrom : List Member → List (Option ℕ) → ℕ → List Member → Unchanged → Type 0
IsHeldFrom olds origins number [] u = ⊥
IsHeldFrom olds origins number (m ∷ ms) u = IsHeldAt olds (origin_at origins number) m u ⊎ IsHeldFrom olds origins (number + 1) ms u

-- the process of a child, or of the supervisor at a place, would be one of another kind; told is where that supervisor comes from
pub record IsUntied (origins : List (Option ℕ)) (t : Driven) (u : Unchanged) : Type 0 where
  pub place : ℕ
  pub supervisor : u.supervisor ≡ unwrap_or (origin_at origins place) 0
  pub why : u.why ≡ Turns
  pub untied : is_untied t place ≡ true

-- the old tree goes on as the one that was planted says: it may, and it does
pub record GoesOnAs (old planted new : Driven) : Type 0 where
  -- which supervisors there are and what each of them is
  pub new_is : new ≡ changed_from (origins_of old.links planted.links) old planted
  -- each that goes has no process, and no order of it waits
  pub leave : (place : ℕ) → place < length old.members → stay_fault_at (origins_of old.links planted.links) old place ≡ None
  -- each that stays may go on so
  pub may : MayGoOnFrom old.members (origins_of old.links planted.links) 0 planted.members
  -- each process of a child is that of the supervisor which the child is, or of none where it is none; and the other way round
  pub tied : (place : ℕ) → place < length new.members → is_untied new place ≡ false

-- why it doesn't: one that would go may not; one that stays may not go on so; or a process would be one of another kind
abbrev pub IsHeld : Driven → Driven → Unchanged → Type 0
IsHeld old planted u =
    (stay_fault_at (origins_of old.links planted.links) old u.supervisor ≡ Some u.why)
    ⊎ (IsHeldFrom old.members (origins_of old.links planted.links) 0 planted.members u
    ⊎ IsUntied (origins_of old.links planted.links) (changed_from (origins_of old.links planted.links) old planted) u)

-- a tree goes on under another tree file
abbrev pub Changes : Tree → Driven → Driven → Type 0
Changes tree old new = (planted : Driven) × IsPlanted tree planted × GoesOnAs old planted new

-- why it doesn't: memory was refused, or the supervisor at this place of the old tree is why
abbrev pub RefusesChange : Tree → Driven → Unchanged → Type 0
RefusesChange tree old u = (u.why ≡ OutOfMemory) ⊎ ((planted : Driven) × IsPlanted tree planted × IsHeld old planted u)
