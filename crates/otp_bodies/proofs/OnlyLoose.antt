-- Where one body at most is at home or waits, a look at it tells of all.
use Rattle.std.proofs.Common.{◌≡◌, ℕ, zero, suc, ◌+◌, ◌<◌, ◌≤◌, ◌∙◌, List, [], ◌∷◌, ◌++◌, Option, None, Some, Bool, true, false, ap, arith, cond, drop, get_or, length, refl, subst, sym}
use Rattle.std.specs.Prelude.{IfSome, position, nat_lt, slice_set}
use Rattle.std.specs.List.{list_any, position_or_len}
use Rattle.std.proofs.lemmas.Bool.{false≢true, false_from_ne_true, lt-ltb}
use Rattle.std.proofs.lemmas.List.{get_or-set_same}
use Rattle.std.proofs.lemmas.List.Sums.{position_or_len_is, sum_by-set, sum_by_push}
use Rattle.std.proofs.Math.Seq.{get_or-append_seam}
use Rattle.otp_table.specs.declared.row.Row.{Row}
use Rattle.otp_bodies.specs.Bodies.{is_at_home, is_home_of, place_among, settled, stray}
use Rattle.otp_bodies.specs.Loose.{IsOnlyLoose, count_loose, is_loose, is_loose_place, loose_at}
use Rattle.otp_bodies.specs.declared.bodies.Kept.{Kept}
use Rattle.otp_bodies.specs.declared.bodies.BodyPlace.{BodyPlace}
use Rattle.otp_bodies.specs.declared.bodies.BodyPlace.TheVariants as placed
use Rattle.otp_bodies.proofs.Few.{at_least, counted, none_is, one, others}
use Rattle.otp_bodies.proofs.Keeping.{IsFirstAt, or_false}

-- past the end there is none
pub past : (xs : List Kept) (i : ℕ) → length xs ≤ i → is_loose (get_or xs i stray) ≡ false
past [] zero h = refl
past [] (suc i) h = refl
past (x ∷ xs) zero h = absurd (omega (arith, h))
past (x ∷ xs) (suc i) h = past xs i (omega (arith, h))

-- one that isn't loose stays where it is
stays : (rows : List Row) (any : Bool) (at : BodyPlace) → is_loose_place at ≡ false → place_among rows any at ≡ at
stays rows any (placed.Home k) h = absurd (false≢true (sym h))
stays rows any placed.Waiting h = absurd (false≢true (sym h))
stays rows any placed.Free h = refl
stays rows any (placed.Away k) h = refl

pub same_head : (rows : List Row) (any : Bool) (b : Kept) (bs : List Kept) → place_among rows any b.place ≡ b.place → settled rows any bs ≡ bs → settled rows any (b ∷ bs) ≡ b ∷ bs
same_head rows any b bs head tail =
    ap (λ (p : BodyPlace). record b { place = p } ∷ settled rows any bs) head ∙ ap (λ (l : List Kept). b ∷ l) tail

none_settled : (rows : List Row) (any : Bool) (xs : List Kept) → count_loose xs ≤ 0 → settled rows any xs ≡ xs
none_settled rows any [] few = refl
none_settled rows any (b ∷ bs) few =
    let e = counted is_loose b bs in
    same_head rows any b bs (stays rows any b.place (none_is (is_loose b) (omega (arith, few, e)))) (none_settled rows any bs (omega (arith, few, e)))

-- where the only loose one stays, all do
pub one_settled : (rows : List Row) (any : Bool) (xs : List Kept) (i : ℕ) (d : Kept) → i < length xs → count_loose xs ≤ one is_loose (get_or xs i d)
    → place_among rows any (get_or xs i d).place ≡ (get_or xs i d).place → settled rows any xs ≡ xs
one_settled rows any [] i d within few here = refl
one_settled rows any (b ∷ bs) zero d within few here =
    let e = counted is_loose b bs in same_head rows any b bs here (none_settled rows any bs (omega (arith, few, e)))
one_settled rows any (b ∷ bs) (suc i) d within few here =
    let e = counted is_loose b bs in
    let inner : i < length bs = omega (arith, within) in
    let least = at_least is_loose bs i d inner in
    same_head rows any b bs (stays rows any b.place (none_is (is_loose b) (omega (arith, few, e, least)))) (one_settled rows any bs i d inner (omega (arith, few, e)) here)

home_is_loose : (slot : ℕ) (at : BodyPlace) → is_home_of slot at ≡ true → is_loose_place at ≡ true
home_is_loose slot (placed.Home k) h = refl
home_is_loose slot placed.Waiting h = refl
home_is_loose slot placed.Free h = absurd (false≢true h)
home_is_loose slot (placed.Away k) h = absurd (false≢true h)

-- where the only loose one is at home in this slot, it is the first that is
pub found_home : (xs : List Kept) (i slot : ℕ) (d : Kept) → i < length xs → count_loose xs ≤ one is_loose (get_or xs i d) → is_at_home slot (get_or xs i d) ≡ true → position (is_at_home slot) xs ≡ Some i
found_home xs i slot d within few here =
    let test : Kept → Bool = is_at_home slot in
    let before : (k : ℕ) → k < i → test (get_or xs k d) ≡ false =
    λ k lt. false_from_ne_true _ (λ (e : test (get_or xs k d) ≡ true). false≢true (sym (others is_loose xs i k d within lt few) ∙ home_is_loose slot (get_or xs k d).place e)) in
    let first : position_or_len test xs ≡ i = position_or_len_is test xs i d (omega (arith, within)) before (λ _. here) in
    ap (λ (n : ℕ). cond (nat_lt n (length xs)) (Some n) None) first ∙ ap (λ (b : Bool). cond b (Some i) None) (lt-ltb i (length xs) within)

-- the only loose one is found

none_counted : (xs : List Kept) → list_any is_loose xs ≡ false → count_loose xs ≤ 0
none_counted [] none = omega arith
none_counted (b ∷ bs) none =
    let parts = or_false (is_loose b) (list_any is_loose bs) none in
    let not_here : ◌≡◌ {A = ℕ} (one is_loose b) 0 = ap (λ (x : Bool). cond x 1 0) parts.0 in
    let rest = none_counted bs parts.1 in
    let e = counted is_loose b bs in
    omega (arith, not_here, rest, e)

pub none_only : (xs : List Kept) → list_any is_loose xs ≡ false → IsOnlyLoose (Some 0) xs
none_only xs none = let few = none_counted xs none in omega (arith, few)

first_counted : (xs : List Kept) (i : ℕ) (d : Kept) → IsFirstAt is_loose xs i d → list_any is_loose (drop (suc i) xs) ≡ false → count_loose xs ≤ one is_loose (get_or xs i d)
first_counted [] i d f none = absurd (let w = f.within in omega (arith, w))
first_counted (b ∷ bs) zero d f none = let few = none_counted bs none in let e = counted is_loose b bs in omega (arith, few, e)
first_counted (b ∷ bs) (suc i) d f none =
    let w = f.within in
    let rest : IsFirstAt is_loose bs i d = record { within = omega (arith, w); passes = f.passes; before = λ k lt. f.before (suc k) (omega (arith, lt)) } in
    let not_here : ◌≡◌ {A = ℕ} (one is_loose b) 0 = ap (λ (x : Bool). cond x 1 0) (f.before 0 (omega arith)) in
    let few = first_counted bs i d rest none in
    let e = counted is_loose b bs in
    omega (arith, not_here, few, e)

pub first_only : (xs : List Kept) (i : ℕ) → IsFirstAt is_loose xs i stray → list_any is_loose (drop (i + 1) xs) ≡ false → IsOnlyLoose (Some i) xs
first_only xs i f none =
    let same : i + 1 ≡ suc i = omega arith in
    first_counted xs i stray f (subst (λ (n : ℕ). list_any is_loose (drop n xs) ≡ false) same none)

-- and its place stays known while one changes

abbrev pub IsOnlyAt : ℕ → List Kept → Option ℕ → Type 0
IsOnlyAt at xs only = IfSome only (λ place. (place ≡ at) × (count_loose xs ≤ loose_at at xs))

pub quiet_only : (xs : List Kept) (i at : ℕ) → IsOnlyLoose (Some i) xs → is_loose (get_or xs i stray) ≡ false → count_loose xs ≤ loose_at at xs
quiet_only xs i at only quiet =
    let none : ◌≡◌ {A = ℕ} (loose_at i xs) 0 = ap (λ (b : Bool). cond b 1 0) quiet in
    let few : count_loose xs ≤ loose_at i xs = only in
    omega (arith, none, few)

pub put_only : (only : Option ℕ) (xs : List Kept) (b : Kept) → IsOnlyAt (length xs) xs only → IsOnlyLoose only (xs ++ b ∷ [])
put_only None xs b is = tt
put_only (Some i) xs b (same, few) =
    let end : get_or (xs ++ b ∷ []) (length xs) stray ≡ b = get_or-append_seam xs b [] stray in
    let none : ◌≡◌ {A = ℕ} (loose_at (length xs) xs) 0 = ap (λ (x : Bool). cond x 1 0) (past xs (length xs) (omega arith)) in
    let more = sum_by_push (one is_loose) xs b in
    let last : ◌≡◌ {A = ℕ} (one is_loose b) (loose_at (length xs) (xs ++ b ∷ [])) = ap (one is_loose) (sym end) in
    let all : count_loose (xs ++ b ∷ []) ≤ loose_at (length xs) (xs ++ b ∷ []) = omega (arith, few, none, more, last) in
    subst (λ (n : ℕ). count_loose (xs ++ b ∷ []) ≤ loose_at n (xs ++ b ∷ [])) (sym same) all

pub set_only : (only : Option ℕ) (xs : List Kept) (at : ℕ) (b : Kept) → at < length xs → IsOnlyAt at xs only → IsOnlyLoose only (slice_set xs at b)
set_only None xs at b within is = tt
set_only (Some i) xs at b within (same, few) =
    let here : get_or (slice_set xs at b) at stray ≡ b = get_or-set_same xs at b stray within in
    let moved = sum_by-set (one is_loose) xs at b stray within in
    let now : ◌≡◌ {A = ℕ} (one is_loose b) (loose_at at (slice_set xs at b)) = ap (one is_loose) (sym here) in
    let all : count_loose (slice_set xs at b) ≤ loose_at at (slice_set xs at b) = omega (arith, few, moved, now) in
    subst (λ (n : ℕ). count_loose (slice_set xs at b) ≤ loose_at n (slice_set xs at b)) (sym same) all
