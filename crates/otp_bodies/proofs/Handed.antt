-- Bodies that were handed in one after the other, for the specifications at their places.
use Rattle.std.proofs.Common.{◌≡◌, ℕ, zero, suc, ◌+◌, ◌≤◌, [], ◌∷◌, ◌++◌, Bool, ap, arith, cond, refl}
use Rattle.std.specs.Prelude.{◌==◌, false}
use Rattle.std.proofs.lemmas.Bool.{ne_eqb}
use Rattle.otp_bodies.specs.Bodies.{count_given, handed_in, is_spec}
use Rattle.otp_bodies.specs.declared.bodies.Origin.TheVariants as origin
use Rattle.otp_bodies.specs.declared.bodies.BodyPlace.TheVariants as place
use Rattle.otp_bodies.proofs.Once.{count_put}

pub handed_more : (n : ℕ) → handed_in (n + 1) ≡ handed_in n ++ record { origin = origin.Spec n; place = place.Free } ∷ []
handed_more n = let e : n + 1 ≡ suc n = omega arith in ap handed_in e

-- none of them is that of a later specification
pub none_later : (k n : ℕ) → n ≤ k → count_given k (handed_in n) ≡ 0
none_later k zero less = refl
none_later k (suc n) less =
    let apart : (n == k) ≡ false = ne_eqb n k (λ e. absurd (omega (arith, less, e))) in
    let none : ◌≡◌ {A = ℕ} (cond (is_spec k (origin.Spec n)) 1 0) 0 = ap (λ (b : Bool). cond b 1 0) apart in
    omega (arith, none, count_put k (handed_in n) (record { origin = origin.Spec n; place = place.Free }), none_later k n (omega (arith, less)))
