-- Where one body at most passes a test, the one that is seen to pass is the first.
use Rattle.std.proofs.Common.{◌≡◌, ℕ, zero, suc, ◌+◌, ◌<◌, ◌≤◌, List, [], ◌∷◌, ◌∙◌, Bool, true, false, ap, arith, cond, get_or, length, refl}
use Rattle.std.specs.Prelude.{count_by, slice_set}
use Rattle.std.proofs.lemmas.List.Sums.{sum_by-cons, sum_by-remove}
use Rattle.otp_bodies.specs.Bodies.{put_home}
use Rattle.otp_bodies.specs.declared.bodies.Kept.{Kept}
use Rattle.otp_bodies.specs.declared.bodies.BodyPlace.TheVariants as placed
use Rattle.otp_bodies.proofs.Keeping.{IsFirstAt, put_home-behind}

-- 1 where the body passes, else 0
abbrev pub one : (Kept → Bool) → Kept → ℕ
one t b = cond (t b) 1 0

pub counted : (t : Kept → Bool) (b : Kept) (bs : List Kept) → count_by t (b ∷ bs) ≡ one t b + count_by t bs
counted t b bs = sum_by-cons (one t) b bs

pub none_is : (b : Bool) → cond b 1 0 ≤ 0 → b ≡ false
none_is true h = absurd (omega (arith, h))
none_is false h = refl

pub at_least : (t : Kept → Bool) (xs : List Kept) (i : ℕ) (d : Kept) → i < length xs → one t (get_or xs i d) ≤ count_by t xs
at_least t xs i d within = let e = sum_by-remove (one t) xs i d within in omega (arith, e)

-- none before it passes
pub others : (t : Kept → Bool) (xs : List Kept) (i k : ℕ) (d : Kept) → i < length xs → k < i → count_by t xs ≤ one t (get_or xs i d) → t (get_or xs k d) ≡ false
others t [] i k d within before few = absurd (omega (arith, within))
others t (b ∷ bs) zero k d within before few = absurd (omega (arith, before))
others t (b ∷ bs) (suc i) zero d within before few =
    let e = counted t b bs in let least = at_least t bs i d (omega (arith, within)) in none_is (t b) (omega (arith, few, e, least))
others t (b ∷ bs) (suc i) (suc k) d within before few =
    let e = counted t b bs in others t bs i k d (omega (arith, within)) (omega (arith, before)) (omega (arith, few, e))

pub first_of_few : (t : Kept → Bool) (xs : List Kept) (i : ℕ) (d : Kept) → i < length xs → t (get_or xs i d) ≡ true → count_by t xs ≤ 1 → IsFirstAt t xs i d
first_of_few t xs i d within passes few =
    let here : ◌≡◌ {A = ℕ} (one t (get_or xs i d)) 1 = ap (λ (b : Bool). cond b 1 0) passes in
    record { within = within; passes = passes; before = λ k lt. others t xs i k d within lt (omega (arith, few, here)) }

pub put_is : (xs : List Kept) (i slot : ℕ) (d : Kept) → i < length xs → put_home i slot xs ≡ slice_set xs i (record (get_or xs i d) { place = placed.Home slot })
put_is [] i slot d within = absurd (omega (arith, within))
put_is (x ∷ xs) zero slot d within = refl
put_is (x ∷ xs) (suc i) slot d within = put_home-behind i slot x xs ∙ ap (λ (l : List Kept). x ∷ l) (put_is xs i slot d (omega (arith, within)))
