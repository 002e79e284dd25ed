-- The bodies that an event may let go: those at home, and those that wait with their calls (own). Mostly there is one.
use Rattle.std.specs.Prelude.{◌≤◌, ⊤, ℕ, Bool, true, false, cond, List, Option, None, Some, count_by, get_or}
use Rattle.otp_bodies.specs.Bodies.{is_waiting_place, stray}
use Rattle.otp_bodies.specs.declared.bodies.Kept.{Kept}
use Rattle.otp_bodies.specs.declared.bodies.BodyPlace.{BodyPlace}
use Rattle.otp_bodies.specs.declared.bodies.BodyPlace.TheVariants as place

abbrev pub is_loose_place : BodyPlace → Bool
is_loose_place (place.Home _) = true
is_loose_place place.Waiting = true
is_loose_place place.Free = false
is_loose_place (place.Away _) = false

-- the body is at home, or waits with its call
abbrev pub is_loose : Kept → Bool
is_loose b = is_loose_place b.place

-- the body waits with its call
abbrev pub is_with_call : Kept → Bool
is_with_call b = is_waiting_place b.place

-- how many bodies are
abbrev pub count_loose : List Kept → ℕ
count_loose kept = count_by is_loose kept

-- 1 where the body at this place in the list is, else 0
abbrev pub loose_at : ℕ → List Kept → ℕ
loose_at at kept = cond (is_loose (get_or kept at stray)) 1 0

-- none is but the one at this place in the list, where that place is known
abbrev pub IsOnlyLoose : Option ℕ → List Kept → Type 0
IsOnlyLoose None kept = ⊤
IsOnlyLoose (Some at) kept = count_loose kept ≤ loose_at at kept
