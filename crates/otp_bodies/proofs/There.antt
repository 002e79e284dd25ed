-- Where no child has gone, each body at home stays; and so all stay, where none waits with its call.
use Rattle.std.proofs.Common.{◌≡◌, ◌∙◌, List, [], ◌∷◌, Bool, true, false, ap, refl, sym}
use Rattle.std.specs.List.{list_any}
use Rattle.std.specs.Prelude.{◌||◌, if◌then◌else◌}
use Rattle.std.proofs.lemmas.Bool.{false≢true, eq-eqb}
use Rattle.otp_table.specs.declared.row.Row.{Row}
use Rattle.otp_bodies.specs.Bodies.{AreThere, has_body, is_at_home, is_home_of, is_waiting_place, place_among, settled}
use Rattle.otp_bodies.specs.Loose.{is_with_call}
use Rattle.otp_bodies.specs.declared.bodies.Kept.{Kept}
use Rattle.otp_bodies.specs.declared.bodies.BodyPlace.{BodyPlace}
use Rattle.otp_bodies.specs.declared.bodies.BodyPlace.TheVariants as placed
use Rattle.otp_bodies.proofs.Keeping.{or_false}
use Rattle.otp_bodies.proofs.OnlyLoose.{same_head}

or_second : (a b : Bool) → b ≡ true → (a || b) ≡ true
or_second true b h = refl
or_second false b h = h

place_stays : (rows : List Row) (any : Bool) (b : Kept) (bs : List Kept) → AreThere rows (b ∷ bs) → (at : BodyPlace) → b.place ≡ at → is_waiting_place at ≡ false → place_among rows any at ≡ at
place_stays rows any b bs there (placed.Home k) is none =
    let here : is_at_home k b ≡ true = ap (λ (p : BodyPlace). is_home_of k p) is ∙ eq-eqb k k refl in
    let some : has_body k (b ∷ bs) ≡ true = ap (λ (x : Bool). x || has_body k bs) here in
    ap (λ (x : Bool). if x then placed.Home k else placed.Free) (there k some)
place_stays rows any b bs there placed.Waiting is none = absurd (false≢true (sym none))
place_stays rows any b bs there placed.Free is none = refl
place_stays rows any b bs there (placed.Away k) is none = refl

there_behind : (rows : List Row) (b : Kept) (bs : List Kept) → AreThere rows (b ∷ bs) → AreThere rows bs
there_behind rows b bs there = λ slot has. there slot (or_second (is_at_home slot b) (has_body slot bs) has)

pub all_stay : (rows : List Row) (any : Bool) (kept : List Kept) → AreThere rows kept → list_any is_with_call kept ≡ false → settled rows any kept ≡ kept
all_stay rows any [] there none = refl
all_stay rows any (b ∷ bs) there none =
    let parts = or_false (is_with_call b) (list_any is_with_call bs) none in
    same_head rows any b bs (place_stays rows any b bs there b.place refl parts.0) (all_stay rows any bs (there_behind rows b bs there) parts.1)
