-- Bodies that were handed in one by one, for the specifications at their places.
use Rattle.std.proofs.Common.{◌≡◌, ℕ, zero, suc, ◌+◌, ◌<◌, ◌≤◌, List, [], ◌∷◌, ◌++◌, Bool, true, false, ap, arith, refl, sym, ◌∙◌, ⊎_elim}
use Rattle.std.specs.Prelude.{not, ◌==◌, ◌&&◌, ◌||◌}
use Rattle.std.specs.List.{list_any}
use Rattle.std.proofs.Math.Arith.{lt_of_le-ne}
use Rattle.std.proofs.lemmas.Bool.{and_parts, eqb-false, eqb-true, false≢true, ne_eqb}
use Rattle.std.proofs.lemmas.Bool.Decides.{leb_tells}
use Rattle.std.proofs.lemmas.List.Folds.{list_any-append}
use Rattle.otp_bodies.specs.Bodies.{are_given, are_ready, handed_in, is_given, is_out}
use Rattle.otp_bodies.specs.declared.bodies.Origin.TheVariants.{Spec}
use Rattle.otp_bodies.specs.declared.bodies.BodyPlace.TheVariants.{Free}
use Rattle.otp_bodies.proofs.Placed.{any_before, any_last}

-- none of them is with a process
none_out : (n : ℕ) → list_any is_out (handed_in n) ≡ false
none_out zero = refl
none_out (suc n) = list_any-append is_out (handed_in n) (record { origin = Spec n; place = Free } ∷ []) ∙ ap (λ (b : Bool). b || false) (none_out n)

-- each of the first so many specifications has one
given_one : (k n : ℕ) → k < n → list_any (is_given k) (handed_in n) ≡ true
given_one k zero less = absurd (omega (arith, less))
given_one k (suc n) less = by (n == k) refl (λ below. given_one k n below)
  where
    by : (b : Bool) → (n == k) ≡ b → (k < n → list_any (is_given k) (handed_in n) ≡ true) → list_any (is_given k) (handed_in (suc n)) ≡ true
    by true is before = any_last (is_given k) (handed_in n) (record { origin = Spec n; place = Free }) (ap (λ (b : Bool). b && true) is)
    by false is before = any_before (is_given k) (handed_in n) (record { origin = Spec n; place = Free } ∷ []) (before (lt_of_le-ne (omega (arith, less)) (λ e. eqb-false n k is (sym e))))

-- and no other has
given_none : (k n : ℕ) → n ≤ k → list_any (is_given k) (handed_in n) ≡ false
given_none k zero less = refl
given_none k (suc n) less =
    let apart : (n == k) ≡ false = ne_eqb n k (λ e. absurd (omega (arith, less, e))) in
    list_any-append (is_given k) (handed_in n) (record { origin = Spec n; place = Free } ∷ [])
    ∙ ap (λ (b : Bool). b || (((n == k) && true) || false)) (given_none k n (omega (arith, less)))
    ∙ ap (λ (b : Bool). (b && true) || false) apart

given_all : (k n : ℕ) → k ≤ n → are_given k (handed_in n) ≡ true
given_all zero n less = refl
given_all (suc k) n less = ap (λ (b : Bool). b && list_any (is_given k) (handed_in n)) (given_all k n (omega (arith, less))) ∙ given_one k n (omega (arith, less))

-- so they are ready exactly where there are enough
pub enough_ready : (k n : ℕ) → k ≤ n → are_ready k (handed_in n) ≡ true
enough_ready k n less = ap (λ (b : Bool). b && not (list_any is_out (handed_in n))) (given_all k n less) ∙ ap not (none_out n)

lacking_unready : (k n : ℕ) → n < k → are_ready k (handed_in n) ≡ true → ⊥
lacking_unready zero n less ready = omega (arith, less)
lacking_unready (suc k) n less ready =
    let given = (and_parts _ _ ready).0 in
    false≢true (sym (given_none k n (omega (arith, less))) ∙ (and_parts _ _ given).1)

pub ready_enough : (k n : ℕ) → are_ready k (handed_in n) ≡ true → k ≤ n
ready_enough k n ready = ⊎_elim (λ h. h.1) (λ h. absurd (lacking_unready k n h.1 ready)) (leb_tells k n)

pub unready_lacks : (k n : ℕ) → are_ready k (handed_in n) ≡ false → n < k
unready_lacks k n unready = ⊎_elim (λ h. absurd (false≢true (sym unready ∙ enough_ready k n h.1))) (λ h. h.1) (leb_tells k n)
