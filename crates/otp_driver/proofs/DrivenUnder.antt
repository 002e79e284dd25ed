-- Where no child of a supervisor is a supervisor, no row is one.
use Rattle.std.proofs.Common.{◌≡◌, ◌∙◌, ◌<◌, ◌==◌, ℕ, List, [], ◌∷◌, Option, None, Some, ap, arith, get_or, length, refl, suc, zero}
use Rattle.std.specs.Prelude.{Bool, true, false, ◌&&◌, ◌||◌, cond, is_some, nat_lt, position}
use Rattle.std.specs.List.{list_any, position_or_len}
use Rattle.std.proofs.lemmas.Bool.{both_ways, le-ltb}
use Rattle.std.proofs.lemmas.List.Sums.{position_or_len_is}
use Rattle.otp_spec.specs.declared.child.ChildSpec.{ChildSpec}
use Rattle.otp_table.specs.declared.row.Row.{Row}
use Rattle.otp_driver.specs.declared.driven.link.Link.{Link}
use Rattle.otp_driver.specs.Links.{is_child_of, is_link_of, is_link_under, nested_of}

never : (b : Bool) → (b && false) ≡ false
never true = refl
never false = refl

unlike : (b c : Bool) → (b && true) ≡ false → (b && c) ≡ false
unlike true c off = absurd (both_ways true off refl)
unlike false c off = refl

other_child : (row : Row) (b : Bool) (child : Option ChildSpec) → (b && is_some child) ≡ false → (b && is_child_of row child) ≡ false
other_child row b None off = never b
other_child row b (Some spec) off = unlike b (is_child_of row (Some spec)) off

pub either : (a b : Bool) → (a || b) ≡ false → (a ≡ false) × (b ≡ false)
either true b off = absurd (both_ways true off refl)
either false b off = (refl, off)

pub both_off : (a b : Bool) → a ≡ false → b ≡ false → (a || b) ≡ false
both_off true b a_off b_off = a_off
both_off false b a_off b_off = b_off

none_of : (place : ℕ) (row : Row) (links : List Link) → list_any (is_link_under place) links ≡ false
    → (k : ℕ) (d : Link) → k < length links → is_link_of place row (get_or links k d) ≡ false
none_of place row [] off k d inside = absurd (omega (arith, inside))
none_of place row (l ∷ ls) off zero d inside =
    other_child row (l.parent == place) l.child (either (is_link_under place l) (list_any (is_link_under place) ls) off).0
none_of place row (l ∷ ls) off (suc k) d inside =
    none_of place row ls (either (is_link_under place l) (list_any (is_link_under place) ls) off).1 k d (omega (arith, inside))

-- a test that all of them fail finds none
pub nowhere : (test : Link → Bool) (links : List Link) (d : Link) → ((k : ℕ) → k < length links → test (get_or links k d) ≡ false) → position test links ≡ None
nowhere test links d fails =
    let none : position_or_len test links ≡ length links = position_or_len_is test links (length links) d (omega arith) fails (λ lt. absurd (omega (arith, lt))) in
    ap (λ (i : ℕ). cond (nat_lt i (length links)) (Some i) None) none ∙ ap (λ (b : Bool). cond b (Some (length links)) None) (le-ltb (length links) (length links) (omega arith))

no_row : (place : ℕ) (row : Row) (links : List Link) → list_any (is_link_under place) links ≡ false → position (is_link_of place row) links ≡ None
no_row place row [] off = refl
no_row place row (l ∷ ls) off = nowhere (is_link_of place row) (l ∷ ls) l (λ k. none_of place row (l ∷ ls) off k l)

pub none_nested : (place : ℕ) (row : Option Row) (links : List Link) → list_any (is_link_under place) links ≡ false → nested_of links place row ≡ None
unfolding nested_of
none_nested place None links off = refl
none_nested place (Some row) links off = no_row place row links off
