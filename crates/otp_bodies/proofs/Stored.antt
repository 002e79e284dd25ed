-- What is stored of the bodies, once one of them was put, moved or taken out.
use Rattle.std.specs.Prelude.{◌≡◌, ℕ, ◌<◌, ◌≤◌, ◌==◌, ◌++◌, Bool, true, false, List, [], ◌∷◌, Option, None, Some, refl, get_or, is_some, length, map, remove, slice_set}
use Rattle.std.specs.List.{list_any, sum}
use Rattle.std.proofs.Common.{◌∙◌, ap, sym, subst, arith, cond}
use Rattle.std.proofs.lemmas.Bool.{eqb-true}
use Rattle.std.proofs.lemmas.List.{map-append}
use Rattle.std.proofs.lemmas.List.Sums.{sum-map, sum_by-cons, sum_by-remove}
use Rattle.std.proofs.Math.Seq.{map-set_same}
use Rattle.otp_table.specs.declared.row.Row.{Row}
use Rattle.otp_bodies.specs.declared.bodies.Kept.{Kept}
use Rattle.otp_bodies.specs.declared.bodies.Origin.{Origin}
use Rattle.otp_bodies.specs.declared.bodies.Origin.TheVariants as origin
use Rattle.otp_bodies.specs.declared.bodies.BodyPlace.{BodyPlace}
use Rattle.otp_bodies.specs.Bodies.{IsNew, IsStored, count_given, is_from, is_here, is_spec, opened, settled, stray}
use Rattle.otp_bodies.proofs.Keeping.{changed_here, map_removed, opened_here, or_false, put_in, put_out, settled_here}
use Rattle.otp_bodies.proofs.Once.{count_opened, count_put, count_settled}

pub none_given : (k : ℕ) (kept : List Kept) → list_any (is_from k) kept ≡ false → count_given k kept ≡ 0
none_given k [] h = refl
none_given k (b ∷ bs) h =
    let parts = or_false (is_from k b) (list_any (is_from k) bs) h in
    let none : ◌≡◌ {A = ℕ} (cond (is_from k b) 1 0) 0 = ap (λ (x : Bool). cond x 1 0) parts.0 in
    omega (arith, none, sum_by-cons (λ (x : Kept). cond (is_from k x) 1 0) b bs, none_given k bs parts.1)

at_most_one : (b : Bool) → cond b 1 0 ≤ 1
at_most_one true = omega arith
at_most_one false = omega arith

-- a new body is the first of its specification
put_once : (k : ℕ) (o : Origin) (to : BodyPlace) (kept : List Kept) → IsNew o kept → count_given k kept ≤ 1 → count_given k (kept ++ record { origin = o; place = to } ∷ []) ≤ 1
put_once k (origin.Spec j) to kept new few = by (j == k) refl
  where
    by : (b : Bool) → is_spec k (origin.Spec j) ≡ b → count_given k (kept ++ record { origin = origin.Spec j; place = to } ∷ []) ≤ 1
    by true e =
        let none : count_given k kept ≡ 0 = subst (λ (n : ℕ). count_given n kept ≡ 0) (eqb-true j k e) new in
        omega (arith, none, count_put k kept (record { origin = origin.Spec j; place = to }), at_most_one (is_spec k (origin.Spec j)))
    by false e =
        let no : ◌≡◌ {A = ℕ} (cond (is_spec k (origin.Spec j)) 1 0) 0 = ap (λ (x : Bool). cond x 1 0) e in
        omega (arith, few, no, count_put k kept (record { origin = origin.Spec j; place = to }))
put_once k (origin.Call c) to kept new few = omega (arith, few, count_put k kept (record { origin = origin.Call c; place = to }))
put_once k origin.Nobody to kept new few = omega (arith, few, count_put k kept (record { origin = origin.Nobody; place = to }))

pub stored_put : {B : Type 0} (kept : List Kept) (bodies : List (Option B)) (o : Origin) (to : BodyPlace) (b : B) → is_here to ≡ true → IsNew o kept → IsStored (map is_some bodies) kept
    → IsStored (map is_some (bodies ++ Some b ∷ [])) (kept ++ record { origin = o; place = to } ∷ [])
stored_put kept bodies o to b here new s =
    let one : Kept = record { origin = o; place = to } in
    record {
      here = map-append is_some bodies (Some b ∷ []) ∙ ap (λ (l : List Bool). l ++ true ∷ []) s.here
          ∙ ap (λ (x : Bool). map (λ (k : Kept). is_here k.place) kept ++ x ∷ []) (sym here)
          ∙ sym (map-append (λ (k : Kept). is_here k.place) kept (one ∷ []));
      once = λ k. put_once k o to kept new (s.once k);
    }

pub stored_removed : {B : Type 0} (kept : List Kept) (bodies : List (Option B)) (i : ℕ) → i < length kept → IsStored (map is_some bodies) kept → IsStored (map is_some (remove bodies i)) (remove kept i)
stored_removed kept bodies i within s = record {
  here = map_removed is_some bodies i ∙ ap (λ (l : List Bool). remove l i) s.here ∙ sym (map_removed (λ (k : Kept). is_here k.place) kept i);
  once = λ k. let few = s.once k in omega (arith, few, sum_by-remove (λ (x : Kept). cond (is_from k x) 1 0) kept i stray within);
}

-- a body that moves is whose it was
moved_once : (k : ℕ) (kept : List Kept) (i : ℕ) (now : Kept) (to : BodyPlace) → now ≡ get_or kept i now → count_given k (slice_set kept i (record { origin = now.origin; place = to })) ≡ count_given k kept
moved_once k kept i now to at =
    let whose : Kept → ℕ = λ b. cond (is_from k b) 1 0 in
    sym (sum-map whose (slice_set kept i (record { origin = now.origin; place = to })))
    ∙ ap (λ (l : List ℕ). sum l) (map-set_same whose kept i (record { origin = now.origin; place = to }) now (ap whose at))
    ∙ sum-map whose kept

pub stored_moved : (stored : List Bool) (kept : List Kept) (i : ℕ) (now : Kept) (to : BodyPlace) → now ≡ get_or kept i now → is_here now.place ≡ is_here to → IsStored stored kept → IsStored stored (slice_set kept i (record { origin = now.origin; place = to }))
stored_moved stored kept i now to at same s = record {
  here = s.here ∙ sym (changed_here kept i now to at same);
  once = λ k. let few = s.once k in omega (arith, few, moved_once k kept i now to at);
}

pub stored_in : {B : Type 0} (kept : List Kept) (bodies : List (Option B)) (i : ℕ) (now : Kept) (to : BodyPlace) (b : B) → now ≡ get_or kept i now → is_here to ≡ true → IsStored (map is_some bodies) kept
    → IsStored (map is_some (slice_set bodies i (Some b))) (slice_set kept i (record { origin = now.origin; place = to }))
stored_in kept bodies i now to b at here s = record {
  here = put_in kept bodies i now.origin to b here s.here;
  once = λ k. let few = s.once k in omega (arith, few, moved_once k kept i now to at);
}

pub stored_out : {B : Type 0} (kept : List Kept) (bodies : List (Option B)) (i : ℕ) (now : Kept) (to : BodyPlace) → now ≡ get_or kept i now → is_here to ≡ false → IsStored (map is_some bodies) kept
    → IsStored (map is_some (slice_set bodies i None)) (slice_set kept i (record { origin = now.origin; place = to }))
stored_out kept bodies i now to at away s = record {
  here = put_out kept bodies i now.origin to away s.here;
  once = λ k. let few = s.once k in omega (arith, few, moved_once k kept i now to at);
}

pub stored_settled : (stored : List Bool) (rows : List Row) (any : Bool) (kept : List Kept) → IsStored stored kept → IsStored stored (settled rows any kept)
stored_settled stored rows any kept s = record {
  here = s.here ∙ sym (settled_here rows any kept);
  once = λ k. let few = s.once k in omega (arith, few, count_settled k rows any kept);
}

pub stored_opened : (stored : List Bool) (rows : List Row) (kept : List Kept) → IsStored stored kept → IsStored stored (opened rows kept)
stored_opened stored rows kept s = record {
  here = s.here ∙ sym (opened_here rows kept);
  once = λ k. let few = s.once k in omega (arith, few, count_opened k rows kept);
}
