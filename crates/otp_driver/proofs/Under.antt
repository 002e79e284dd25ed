-- Where no child of a supervisor is a supervisor, nor runs as a process, the process is none.
use Rattle.std.proofs.Common.{◌≡◌, ◌<◌, ℕ, List, [], ◌∷◌, Option, None, Some, ap, arith, get_or, length, refl, suc, zero}
use Rattle.std.specs.Prelude.{false, is_some, position, slice_get}
use Rattle.std.specs.List.{list_any}
use Rattle.otp_driver.specs.declared.driven.link.Link.{Link}
use Rattle.otp_driver.specs.Links.{holds_process, is_link_near, is_link_under, nested_of}
use Rattle.otp_driver.specs.Members.{Member, row_at, state_in}
use Rattle.otp_driver.proofs.DrivenUnder.{both_off, either, none_nested, nowhere}
use Rattle.otp_driver.specs.Driven.{Driven, is_nested, is_nested_of}

-- where none is a child of the supervisor, nor runs as the process, no child is a supervisor
pub none_under : (place number : ℕ) (links : List Link) → list_any (is_link_near place number) links ≡ false → list_any (is_link_under place) links ≡ false
none_under place number [] off = refl
none_under place number (l ∷ ls) off =
    let now : (is_link_near place number l ≡ false) × (list_any (is_link_near place number) ls ≡ false) = either (is_link_near place number l) (list_any (is_link_near place number) ls) off in
    both_off (is_link_under place l) (list_any (is_link_under place) ls) (either (is_link_under place l) (holds_process place number l) now.0).0 (none_under place number ls now.1)

-- and none runs as the process
none_holds : (place number : ℕ) (links : List Link) → list_any (is_link_near place number) links ≡ false
    → (k : ℕ) (d : Link) → k < length links → holds_process place number (get_or links k d) ≡ false
none_holds place number [] off k d inside = absurd (omega (arith, inside))
none_holds place number (l ∷ ls) off zero d inside =
    (either (is_link_under place l) (holds_process place number l) (either (is_link_near place number l) (list_any (is_link_near place number) ls) off).0).1
none_holds place number (l ∷ ls) off (suc k) d inside =
    none_holds place number ls (either (is_link_near place number l) (list_any (is_link_near place number) ls) off).1 k d (omega (arith, inside))

pub none_runs : (place number : ℕ) (links : List Link) → list_any (is_link_near place number) links ≡ false → position (holds_process place number) links ≡ None
none_runs place number [] off = refl
none_runs place number (l ∷ ls) off = nowhere (holds_process place number) (l ∷ ls) l (λ k. none_holds place number (l ∷ ls) off k l)

none_near_of : (links : List Link) (place number : ℕ) (o : Option Member) → list_any (is_link_near place number) links ≡ false → is_nested_of links place number o ≡ false
none_near_of links place number None off = refl
none_near_of links place number (Some m) off =
    both_off (is_some (position (holds_process place number) links)) (is_some (nested_of links place (row_at (state_in m).rows number)))
    (ap is_some (none_runs place number links off)) (ap is_some (none_nested place (row_at (state_in m).rows number) links (none_under place number links off)))

pub none_near : (t : Driven) (place number : ℕ) → list_any (is_link_near place number) t.links ≡ false → is_nested t place number ≡ false
unfolding is_nested
none_near t place number off = none_near_of t.links place number (slice_get t.members place) off
