-- The bodies of a supervisor's children: whose each is, and where (own). A body is what a child runs; it goes with the
-- child's process, and comes home with the note of that process's end.
use Rattle.std.specs.Prelude.{◌≡◌, ⊤, ℕ, ◌==◌, ◌<◌, ◌≤◌, Bool, true, false, not, ◌&&◌, List, [], ◌∷◌, ◌++◌, Option, Some, None, is_some, length, filter_map, map, slice_get, slice_set, if◌then◌else◌, count_by}
use Rattle.std.specs.List.{list_any}
use Prim.Native.Nat.{zero, suc}
use Rattle.otp_table.specs.declared.row.Row.{Row}
use Rattle.otp_table.specs.Rows.{has_slot}
use Rattle.otp_bodies.specs.declared.bodies.Kept.{Kept}
use Rattle.otp_bodies.specs.declared.bodies.Origin.{Origin}
use Rattle.otp_bodies.specs.declared.bodies.Origin.TheVariants as origin
use Rattle.otp_bodies.specs.declared.bodies.BodyPlace.{BodyPlace}
use Rattle.otp_bodies.specs.declared.bodies.BodyPlace.TheVariants as place
use Rattle.otp_bodies.specs.declared.port.Flushed.{Flushed}
use Rattle.otp_bodies.specs.declared.port.Flushed.TheVariants as flushed
use Rattle.otp_spec.specs.declared.child.ChildSpec.{ChildSpec}
use Rattle.otp_spec.specs.declared.flags.SupFlags.{SupFlags}
use Rattle.otp_rules.specs.Step.{opening_specs}
use Rattle.otp_spec.specs.Flags.{is_simple}

-- the supervisor has the body: it isn't with a process
abbrev pub is_here : BodyPlace → Bool
is_here (place.Home _) = true
is_here place.Waiting = true
is_here place.Free = true
is_here (place.Away _) = false

-- how many bodies the supervisor has
abbrev pub bodies_in : List Kept → ℕ
bodies_in kept = count_by (λ (b : Kept). is_here b.place) kept

abbrev pub is_home_of : ℕ → BodyPlace → Bool
is_home_of slot (place.Home k) = k == slot
is_home_of slot place.Waiting = false
is_home_of slot place.Free = false
is_home_of slot (place.Away _) = false

-- the body of the child in this slot, which has no process
abbrev pub is_at_home : ℕ → Kept → Bool
is_at_home slot b = is_home_of slot b.place

abbrev pub is_away_from : ℕ → BodyPlace → Bool
is_away_from slot (place.Home _) = false
is_away_from slot place.Waiting = false
is_away_from slot place.Free = false
is_away_from slot (place.Away k) = k == slot

-- the body of the child in this slot, which is with its process
abbrev pub is_away : ℕ → Kept → Bool
is_away slot b = is_away_from slot b.place

-- how many bodies of the child in this slot are with its process
abbrev pub count_away : ℕ → List Kept → ℕ
count_away slot kept = count_by (is_away slot) kept

-- how many bodies of the child in this slot are at home
abbrev pub count_home : ℕ → List Kept → ℕ
count_home slot kept = count_by (is_at_home slot) kept

-- the child in this slot has its body at home
abbrev pub has_body : ℕ → List Kept → Bool
has_body slot kept = list_any (is_at_home slot) kept

abbrev pub waiting_as : Origin → BodyPlace → Option ℕ
waiting_as (origin.Spec _) at = None
waiting_as origin.Nobody at = None
waiting_as (origin.Call c) (place.Home _) = None
waiting_as (origin.Call c) place.Waiting = Some c
waiting_as (origin.Call c) place.Free = None
waiting_as (origin.Call c) (place.Away _) = None

-- the call with which the body waits
abbrev pub waiting_call : Kept → Option ℕ
waiting_call b = waiting_as b.origin b.place

abbrev pub is_waiting : Kept → Bool
is_waiting b = is_some (waiting_call b)

-- the calls whose bodies wait with them, in their order
abbrev pub calls_waiting : List Kept → List ℕ
calls_waiting kept = filter_map waiting_call kept

abbrev pub is_free_place : BodyPlace → Bool
is_free_place place.Free = true
is_free_place _ = false

abbrev pub is_call : ℕ → Origin → Bool
is_call c (origin.Call d) = d == c
is_call c _ = false

abbrev pub is_nobody : Origin → Bool
is_nobody origin.Nobody = true
is_nobody _ = false

-- the body that this call brought, once no child has it and the call waits no more
abbrev pub is_left_of : ℕ → Kept → Bool
is_left_of c b = is_call c b.origin && is_free_place b.place

-- a body that is nobody's
abbrev pub is_stray : Kept → Bool
is_stray b = is_nobody b.origin && is_free_place b.place

abbrev pub stray : Kept
stray = record { origin = origin.Nobody; place = place.Free }

-- the first body that passes the test is in this place from now on
abbrev pub move_first : (Kept → Bool) → BodyPlace → List Kept → List Kept
move_first test to [] = []
move_first test to (b ∷ bs) = if test b then record b { place = to } ∷ bs else b ∷ move_first test to bs

abbrev pub put_home_at : ℕ → ℕ → List Kept → Option Kept → List Kept
put_home_at i slot kept None = kept
put_home_at i slot kept (Some b) = slice_set kept i (record b { place = place.Home slot })

-- the i-th body is at home in this slot
abbrev pub put_home : ℕ → ℕ → List Kept → List Kept
put_home i slot kept = put_home_at i slot kept (slice_get kept i)

-- the supervisor has each body that passes the test
abbrev pub AreHere : (Kept → Bool) → Type 0
AreHere test = (b : Kept) → test b ≡ true → is_here b.place ≡ true

-- the list without the first body that passes the test
abbrev pub without_first : (Kept → Bool) → List Kept → List Kept
without_first test [] = []
without_first test (b ∷ bs) = if test b then bs else b ∷ without_first test bs

-- where a body goes that comes for the child in this slot, and that isn't in the list: it is the child's, unless that has
-- its body here already
abbrev pub place_without_line : ℕ → List Kept → BodyPlace
place_without_line slot kept = if has_body slot kept then place.Free else place.Home slot

-- a body comes for the child in this slot. Where its body is here already, it is nobody's
abbrev pub come_home : ℕ → List Kept → List Kept
come_home slot kept = if list_any (is_away slot) kept then move_first (is_away slot) (place.Home slot) kept else kept ++ record { origin = origin.Nobody; place = place_without_line slot kept } ∷ []

abbrev pub came_for : Option ℕ → List Kept → List Kept
came_for None kept = kept ++ stray ∷ []
came_for (Some slot) kept = come_home slot kept

abbrev pub home_or_free : Option ℕ → BodyPlace
home_or_free None = place.Free
home_or_free (Some slot) = place.Home slot

-- the place of a start call's body: with the call while that waits; once it is taken up, its child's home, where the
-- event made a row for it; else nobody has it
abbrev pub place_of_call : Bool → Option ℕ → BodyPlace
place_of_call true slot = place.Waiting
place_of_call false slot = home_or_free slot

-- the body of the first call that waits, which is taken up
abbrev pub taken_up : Bool → Option ℕ → List Kept → List Kept
taken_up true slot kept = move_first is_waiting (home_or_free slot) kept
taken_up false slot kept = kept

-- where a body is once these are the rows: in no slot that no row has, and with no call where none waits
abbrev pub place_among : List Row → Bool → BodyPlace → BodyPlace
place_among rows is_any_waiting (place.Home k) = if list_any (has_slot k) rows then place.Home k else place.Free
place_among rows is_any_waiting place.Waiting = if is_any_waiting then place.Waiting else place.Free
place_among rows is_any_waiting place.Free = place.Free
place_among rows is_any_waiting (place.Away k) = place.Away k

abbrev pub settled : List Row → Bool → List Kept → List Kept
settled rows is_any_waiting kept = map (λ (b : Kept). record b { place = place_among rows is_any_waiting b.place }) kept

-- each child whose body is at home is there: a row has its slot
abbrev pub AreThere : List Row → List Kept → Type 0
AreThere rows kept = (slot : ℕ) → has_body slot kept ≡ true → list_any (has_slot slot) rows ≡ true

abbrev pub opened_place : List Row → Origin → BodyPlace → BodyPlace
opened_place rows (origin.Spec k) (place.Home j) = place.Home j
opened_place rows (origin.Spec k) place.Waiting = place.Waiting
opened_place rows (origin.Spec k) place.Free = if list_any (has_slot k) rows then place.Home k else place.Free
opened_place rows (origin.Spec k) (place.Away j) = place.Away j
opened_place rows (origin.Call _) at = at
opened_place rows origin.Nobody at = at

-- at an opening the child in slot k is that of the specification at place k, and has the body that was handed in for it
abbrev pub opened : List Row → List Kept → List Kept
opened rows kept = map (λ (b : Kept). record b { place = opened_place rows b.origin b.place }) kept

abbrev pub is_waiting_place : BodyPlace → Bool
is_waiting_place place.Waiting = true
is_waiting_place _ = false

abbrev pub is_spec : ℕ → Origin → Bool
is_spec k (origin.Spec j) = j == k
is_spec k _ = false

-- the body was handed in for the specification at this place
abbrev pub is_from : ℕ → Kept → Bool
is_from k b = is_spec k b.origin

-- how many of the bodies were
abbrev pub count_given : ℕ → List Kept → ℕ
count_given k kept = count_by (is_from k) kept

-- the bodies that are stored are those that the list says are here, and of each specification one at most is kept
pub record IsStored (stored : List Bool) (kept : List Kept) : Type 0 where
  pub here : stored ≡ map (λ (b : Kept). is_here b.place) kept
  pub once : (place : ℕ) → count_given place kept ≤ 1

-- none of the bodies has that origin, if it is a specification's: of each specification there is one
abbrev pub IsNew : Origin → List Kept → Type 0
IsNew (origin.Spec k) kept = count_given k kept ≡ 0
IsNew (origin.Call _) kept = ⊤
IsNew origin.Nobody kept = ⊤

abbrev pub is_own_place : Origin → BodyPlace → Bool
is_own_place (origin.Spec j) (place.Home k) = j == k
is_own_place (origin.Spec j) place.Waiting = false
is_own_place (origin.Spec j) place.Free = true
is_own_place (origin.Spec j) (place.Away k) = j == k
is_own_place (origin.Call _) at = true
is_own_place origin.Nobody at = not (is_waiting_place at)

-- a body that was handed in for a specification is no child's, or that of the child in the slot of the specification's place; and one
-- that waits with its call was brought by one
abbrev pub is_own : Kept → Bool
is_own b = is_own_place b.origin b.place

-- the body that was handed in for the specification at this place
abbrev pub is_given : ℕ → Kept → Bool
is_given k b = is_from k b && not (is_waiting_place b.place)

-- the body is with a process
abbrev pub is_out : Kept → Bool
is_out b = not (is_here b.place)

-- a body was handed in for each of the first so many specifications
abbrev pub are_given : ℕ → List Kept → Bool
are_given zero kept = true
are_given (suc n) kept = are_given n kept && list_any (is_given n) kept

-- a supervisor can be made of these bodies: each of the first so many specifications has one, and none is with a process
abbrev pub are_ready : ℕ → List Kept → Bool
are_ready n kept = are_given n kept && not (list_any is_out kept)

-- so many bodies that were handed in, each for the specification at its place
abbrev pub handed_in : ℕ → List Kept
handed_in zero = []
handed_in (suc n) = handed_in n ++ record { origin = origin.Spec n; place = place.Free } ∷ []

-- the body of the child in this slot goes with its process
abbrev pub left_home : Option ℕ → List Kept → List Kept
left_home None kept = kept
left_home (Some slot) kept = move_first (is_at_home slot) (place.Away slot) kept

-- the bodies once the first order was sent, or none was
abbrev pub bodies_sent : Flushed → Option ℕ → List Kept → List Kept
bodies_sent flushed.Empty slot kept = kept
bodies_sent flushed.Sent slot kept = left_home slot kept
bodies_sent flushed.Refused slot kept = kept

-- the body that left the child's home, from this place in the list, can come back: then all is as before
abbrev pub CanComeBack : Option ℕ → Option ℕ → List Kept → List Kept → Type 0
CanComeBack None at kept older = ⊥
CanComeBack (Some slot) None kept older = ⊥
CanComeBack (Some slot) (Some i) kept older = (i < length kept) × (put_home i slot kept ≡ older)

-- how many children an opening makes, of these specifications
abbrev pub count_opened : SupFlags → List ChildSpec → ℕ
count_opened flags specs = length (opening_specs (is_simple flags.strategy) specs)

-- whose each body is, and where, and for how many more there is room
pub record BodiesView : Type 0 where
  pub kept : List Kept
  pub room : ℕ
