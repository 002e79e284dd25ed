-- The first body that passes a test, and what is done to it.
use Rattle.std.proofs.Common.{◌≡◌, ℕ, zero, suc, ◌+◌, ◌<◌, ◌||◌, ⊎_elim, List, [], ◌∷◌, Option, None, Some, Bool, true, false, cond, refl, ap, sym, ◌∙◌, arith, rules, length, get_or, map}
use Rattle.std.specs.Prelude.{position, slice_get, slice_set, remove, if◌then◌else◌, is_some}
use Rattle.std.specs.List.{list_any, position_from}
use Rattle.std.proofs.lemmas.Bool.{eqb-true, false≢true, cases_Bool, cond_both}
use Rattle.std.proofs.lemmas.List.Quantifiers.{position-Some}
use Rattle.std.proofs.lemmas.Iterator.Adapters.{position_from-zero}
use Rattle.std.proofs.Math.Seq.{map-set_same}
use Rattle.std.proofs.lemmas.List.{get_or_default, length-map, length-set, map-set}
use Rattle.otp_bodies.specs.declared.bodies.Kept.{Kept}
use Rattle.otp_bodies.specs.declared.bodies.BodyPlace.{BodyPlace}
use Rattle.otp_bodies.specs.declared.bodies.Origin.{Origin}
use Rattle.otp_bodies.specs.declared.bodies.Origin.TheVariants as origin
use Rattle.otp_bodies.specs.declared.bodies.BodyPlace.TheVariants as placed
use Rattle.otp_table.specs.declared.row.Row.{Row}
use Rattle.otp_table.specs.Rows.{has_slot}
use Rattle.otp_bodies.specs.Bodies.{is_at_home, is_free_place, is_here, is_home_of, move_first, opened, opened_place, place_among, put_home, put_home_at, settled, waiting_as, without_first}

pub or_false : (a b : Bool) → (a || b) ≡ false → (a ≡ false) × (b ≡ false)
or_false true b h = absurd (false≢true (sym h))
or_false false b h = (refl, h)

-- no body passes
pub move_none : (t : Kept → Bool) (to : BodyPlace) (xs : List Kept) → list_any t xs ≡ false → move_first t to xs ≡ xs
move_none t to [] none = refl
move_none t to (x ∷ xs) none =
    let parts = or_false (t x) (list_any t xs) none in
    ap (λ (b : Bool). if b then record x { place = to } ∷ xs else x ∷ move_first t to xs) parts.0 ∙ ap (λ (l : List Kept). x ∷ l) (move_none t to xs parts.1)

pub without_none : (t : Kept → Bool) (xs : List Kept) → list_any t xs ≡ false → without_first t xs ≡ xs
without_none t [] none = refl
without_none t (x ∷ xs) none =
    let parts = or_false (t x) (list_any t xs) none in
    ap (λ (b : Bool). if b then xs else x ∷ without_first t xs) parts.0 ∙ ap (λ (l : List Kept). x ∷ l) (without_none t xs parts.1)

-- the i-th is the first that passes
pub record IsFirstAt (t : Kept → Bool) (xs : List Kept) (i : ℕ) (d : Kept) : Type 0 where
  pub within : i < length xs
  pub passes : t (get_or xs i d) ≡ true
  pub before : (k : ℕ) → k < i → t (get_or xs k d) ≡ false

pub first_at : (t : Kept → Bool) (xs : List Kept) (i : ℕ) (d : Kept) → position t xs ≡ Some i → IsFirstAt t xs i d
first_at t xs i d is = let p = position-Some t xs i d is in record { within = p.0; passes = p.1; before = p.2 }

behind : (t : Kept → Bool) (x : Kept) (xs : List Kept) (i : ℕ) (d : Kept) → IsFirstAt t (x ∷ xs) (suc i) d → IsFirstAt t xs i d
behind t x xs i d f = record { within = let w = f.within in omega (arith, w); passes = f.passes; before = λ k b. f.before (suc k) (omega (arith, b)) }

pub moved_at : (t : Kept → Bool) (to : BodyPlace) (xs : List Kept) (i : ℕ) (d : Kept) → IsFirstAt t xs i d → slice_set xs i (record (get_or xs i d) { place = to }) ≡ move_first t to xs
moved_at t to [] i d f = absurd (let w = f.within in omega (arith, w))
moved_at t to (x ∷ xs) zero d f = sym (ap (λ (b : Bool). if b then record x { place = to } ∷ xs else x ∷ move_first t to xs) f.passes)
moved_at t to (x ∷ xs) (suc i) d f =
    ap (λ (l : List Kept). x ∷ l) (moved_at t to xs i d (behind t x xs i d f))
    ∙ sym (ap (λ (b : Bool). if b then record x { place = to } ∷ xs else x ∷ move_first t to xs) (f.before 0 (omega arith)))

pub removed_at : (t : Kept → Bool) (xs : List Kept) (i : ℕ) (d : Kept) → IsFirstAt t xs i d → remove xs i ≡ without_first t xs
removed_at t [] i d f = absurd (let w = f.within in omega (arith, w))
removed_at t (x ∷ xs) zero d f = sym (ap (λ (b : Bool). if b then xs else x ∷ without_first t xs) f.passes)
removed_at t (x ∷ xs) (suc i) d f =
    ap (λ (l : List Kept). x ∷ l) (removed_at t xs i d (behind t x xs i d f))
    ∙ sym (ap (λ (b : Bool). if b then xs else x ∷ without_first t xs) (f.before 0 (omega arith)))

pub any_at : (t : Kept → Bool) (xs : List Kept) (i : ℕ) (d : Kept) → IsFirstAt t xs i d → list_any t xs ≡ true
any_at t [] i d f = absurd (let w = f.within in omega (arith, w))
any_at t (x ∷ xs) zero d f = ap (λ (b : Bool). b || list_any t xs) f.passes
any_at t (x ∷ xs) (suc i) d f =
    ap (λ (b : Bool). b || list_any t xs) (f.before 0 (omega arith)) ∙ any_at t xs i d (behind t x xs i d f)

found_from : (t : Kept → Bool) (j : ℕ) (xs : List Kept) → list_any t xs ≡ true → position_from t j xs ≡ None → ⊥
found_from t j [] h none = false≢true h
found_from t j (x ∷ xs) h none =
    let rest : list_any t xs ≡ true → position_from t (j + 1) xs ≡ None → ⊥ = found_from t (j + 1) xs in
    ⊎_elim
    (λ (e : t x ≡ true).
    let is : ◌≡◌ {A = Option ℕ} (Some j) None = sym (ap (λ (b : Bool). cond b (Some j) (position_from t (j + 1) xs)) e) ∙ none in
    absurd (search (rules, is)))
    (λ (e : t x ≡ false). rest (sym (ap (λ (b : Bool). b || list_any t xs) e) ∙ h) (sym (ap (λ (b : Bool). cond b (Some j) (position_from t (j + 1) xs)) e) ∙ none))
    (cases_Bool (t x))

-- none passes where none is found
pub none_passes : (t : Kept → Bool) (xs : List Kept) → position t xs ≡ None → list_any t xs ≡ false
none_passes t xs is = by_answer (list_any t xs) refl
  where
    by_answer : (b : Bool) → list_any t xs ≡ b → list_any t xs ≡ false
    by_answer false h = h
    by_answer true h = absurd (found_from t 0 xs h (sym (position_from-zero t xs) ∙ is))

pub map_removed : {X Y : Type 0} (f : X → Y) (xs : List X) (i : ℕ) → map f (remove xs i) ≡ remove (map f xs) i
map_removed f [] zero = refl
map_removed f [] (suc i) = refl
map_removed f (x ∷ xs) zero = refl
map_removed f (x ∷ xs) (suc i) = ap (λ l. f x ∷ l) (map_removed f xs i)

pub map_at : {X Y : Type 0} (f : X → Y) (xs : List X) (i : ℕ) (d : X) → get_or (map f xs) i (f d) ≡ f (get_or xs i d)
map_at f [] zero d = refl
map_at f [] (suc i) d = refl
map_at f (x ∷ xs) zero d = refl
map_at f (x ∷ xs) (suc i) d = map_at f xs i d

-- what is here stays here

pub changed_here : (xs : List Kept) (i : ℕ) (now : Kept) (to : BodyPlace) → now ≡ get_or xs i now → is_here now.place ≡ is_here to
    → map (λ (k : Kept). is_here k.place) (slice_set xs i (record { origin = now.origin; place = to })) ≡ map (λ (k : Kept). is_here k.place) xs
changed_here xs i now to at same = map-set_same (λ (k : Kept). is_here k.place) xs i (record { origin = now.origin; place = to }) now (sym same ∙ ap (λ (k : Kept). is_here k.place) at)

pub opened_place-here : (rows : List Row) (o : Origin) (at : BodyPlace) → is_here (opened_place rows o at) ≡ is_here at
opened_place-here rows (origin.Spec k) (placed.Home j) = refl
opened_place-here rows (origin.Spec k) placed.Waiting = refl
opened_place-here rows (origin.Spec k) placed.Free = cond_both (list_any (has_slot k) rows) (placed.Home k) placed.Free (λ (p : BodyPlace). is_here p ≡ true) (λ _. refl) (λ _. refl)
opened_place-here rows (origin.Spec k) (placed.Away j) = refl
opened_place-here rows (origin.Call c) at = refl
opened_place-here rows origin.Nobody at = refl

pub opened_here : (rows : List Row) (xs : List Kept) → map (λ (k : Kept). is_here k.place) (opened rows xs) ≡ map (λ (k : Kept). is_here k.place) xs
opened_here rows [] = refl
opened_here rows (x ∷ xs) =
    ap (λ (b : Bool). b ∷ map (λ (k : Kept). is_here k.place) (opened rows xs)) (opened_place-here rows x.origin x.place)
    ∙ ap (λ (l : List Bool). is_here x.place ∷ l) (opened_here rows xs)

pub place_among-here : (rows : List Row) (any : Bool) (at : BodyPlace) → is_here (place_among rows any at) ≡ is_here at
place_among-here rows any (placed.Home k) = cond_both (list_any (has_slot k) rows) (placed.Home k) placed.Free (λ (p : BodyPlace). is_here p ≡ true) (λ _. refl) (λ _. refl)
place_among-here rows any placed.Waiting = cond_both any placed.Waiting placed.Free (λ (p : BodyPlace). is_here p ≡ true) (λ _. refl) (λ _. refl)
place_among-here rows any placed.Free = refl
place_among-here rows any (placed.Away k) = refl

pub settled_here : (rows : List Row) (any : Bool) (xs : List Kept) → map (λ (k : Kept). is_here k.place) (settled rows any xs) ≡ map (λ (k : Kept). is_here k.place) xs
settled_here rows any [] = refl
settled_here rows any (x ∷ xs) =
    ap (λ (b : Bool). b ∷ map (λ (k : Kept). is_here k.place) (settled rows any xs)) (place_among-here rows any x.place)
    ∙ ap (λ (l : List Bool). is_here x.place ∷ l) (settled_here rows any xs)

-- a body at home is here, and so is one that waits

pub home_is_here : (slot : ℕ) (at : BodyPlace) → is_home_of slot at ≡ true → is_here at ≡ true
home_is_here slot (placed.Home k) h = refl
home_is_here slot placed.Waiting h = refl
home_is_here slot placed.Free h = refl
home_is_here slot (placed.Away k) h = absurd (false≢true h)

pub waiting_is_here : (o : Origin) (at : BodyPlace) → is_some (waiting_as o at) ≡ true → is_here at ≡ true
waiting_is_here (origin.Spec k) at h = absurd (false≢true h)
waiting_is_here origin.Nobody at h = absurd (false≢true h)
waiting_is_here (origin.Call c) (placed.Home k) h = refl
waiting_is_here (origin.Call c) placed.Waiting h = refl
waiting_is_here (origin.Call c) placed.Free h = refl
waiting_is_here (origin.Call c) (placed.Away k) h = absurd (false≢true h)

pub free_is_here : (b : Kept) → is_free_place b.place ≡ true → is_here b.place ≡ true
free_is_here b h = of b.place h
  where
    of : (at : BodyPlace) → is_free_place at ≡ true → is_here at ≡ true
    of (placed.Home k) f = refl
    of placed.Waiting f = refl
    of placed.Free f = refl
    of (placed.Away k) f = absurd (false≢true f)

-- a body that left comes back to its place: all is as it was

home_is : (slot : ℕ) (at : BodyPlace) → is_home_of slot at ≡ true → placed.Home slot ≡ at
home_is slot (placed.Home k) h = ap (λ (n : ℕ). placed.Home n) (sym (eqb-true k slot h))
home_is slot placed.Waiting h = absurd (false≢true h)
home_is slot placed.Free h = absurd (false≢true h)
home_is slot (placed.Away k) h = absurd (false≢true h)

pub put_home-behind : (i slot : ℕ) (x : Kept) (ys : List Kept) → put_home (suc i) slot (x ∷ ys) ≡ x ∷ put_home i slot ys
put_home-behind i slot x ys = by_found (slice_get ys i) refl
  where
    by_found : (found : Option Kept) → slice_get ys i ≡ found → put_home_at (suc i) slot (x ∷ ys) found ≡ x ∷ put_home_at i slot ys found
    by_found None at = refl
    by_found (Some b) at = refl

back_at : (xs : List Kept) (i slot : ℕ) (to : BodyPlace) (d : Kept) → IsFirstAt (is_at_home slot) xs i d → put_home i slot (slice_set xs i (record (get_or xs i d) { place = to })) ≡ xs
back_at [] i slot to d f = absurd (let w = f.within in omega (arith, w))
back_at (x ∷ xs) zero slot to d f = ap (λ (p : BodyPlace). record x { place = p } ∷ xs) (home_is slot x.place f.passes)
back_at (x ∷ xs) (suc i) slot to d f =
    put_home-behind i slot x (slice_set xs i (record (get_or xs i d) { place = to })) ∙ ap (λ (l : List Kept). x ∷ l) (back_at xs i slot to d (behind (is_at_home slot) x xs i d f))

pub put_back : (xs ys : List Kept) (i slot : ℕ) (to : BodyPlace) (d : Kept) → ys ≡ slice_set xs i (record (get_or xs i d) { place = to }) → IsFirstAt (is_at_home slot) xs i d → put_home i slot ys ≡ xs
put_back xs ys i slot to d is f = ap (λ (l : List Kept). put_home i slot l) is ∙ back_at xs i slot to d f

pub within_moved : (xs ys : List Kept) (i : ℕ) (b : Kept) → ys ≡ slice_set xs i b → i < length xs → i < length ys
within_moved xs ys i b is w = let l = ap (λ (l : List Kept). length l) is in let k = length-set xs i b in omega (arith, w)

-- a body that comes is here from then on
pub put_in : {B : Type 0} (xs : List Kept) (ys : List (Option B)) (i : ℕ) (o : Origin) (to : BodyPlace) (b : B) → is_here to ≡ true → map is_some ys ≡ map (λ (k : Kept). is_here k.place) xs
    → map is_some (slice_set ys i (Some b)) ≡ map (λ (k : Kept). is_here k.place) (slice_set xs i (record { origin = o; place = to }))
put_in xs ys i o to b here same =
    map-set is_some ys i (Some b) ∙ ap (λ (l : List Bool). slice_set l i true) same
    ∙ ap (λ (x : Bool). slice_set (map (λ (k : Kept). is_here k.place) xs) i x) (sym here)
    ∙ sym (map-set (λ (k : Kept). is_here k.place) xs i (record { origin = o; place = to }))

-- a body that goes is away from then on
pub put_out : {B : Type 0} (xs : List Kept) (ys : List (Option B)) (i : ℕ) (o : Origin) (to : BodyPlace) → is_here to ≡ false → map is_some ys ≡ map (λ (k : Kept). is_here k.place) xs
    → map is_some (slice_set ys i None) ≡ map (λ (k : Kept). is_here k.place) (slice_set xs i (record { origin = o; place = to }))
put_out xs ys i o to away same =
    map-set is_some ys i None ∙ ap (λ (l : List Bool). slice_set l i false) same
    ∙ ap (λ (x : Bool). slice_set (map (λ (k : Kept). is_here k.place) xs) i x) (sym away)
    ∙ sym (map-set (λ (k : Kept). is_here k.place) xs i (record { origin = o; place = to }))

-- the list has a body exactly where it is here
pub here_at : {B : Type 0} (xs : List Kept) (ys : List (Option B)) (i : ℕ) (y : Option B) (d : Kept) → map is_some ys ≡ map (λ (k : Kept). is_here k.place) xs → i < length xs → y ≡ get_or ys i y → is_some y ≡ is_here (get_or xs i d).place
here_at xs ys i y d same within at =
    let len : length (map (λ (k : Kept). is_here k.place) xs) ≡ length xs = length-map xs (λ (k : Kept). is_here k.place) in
    ap is_some at ∙ sym (map_at is_some ys i y) ∙ ap (λ (l : List Bool). get_or l i (is_some y)) same
    ∙ get_or_default (map (λ (k : Kept). is_here k.place) xs) i (is_some y) (is_here d.place) (omega (arith, within, len))
    ∙ map_at (λ (k : Kept). is_here k.place) xs i d
