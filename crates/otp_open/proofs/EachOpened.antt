-- What is so of each plan, one after the other.
use Rattle.std.proofs.Common.{◌≡◌, ℕ, ◌+◌, ◌<◌, List, Option, Some, None, Bool, true, false, arith, length, refl, subst, sym}
use Rattle.std.specs.Prelude.{IfSome, MatchOption, slice_get}
use Rattle.std.proofs.Math.Arith.{lt_of_le-ne}
use Rattle.std.proofs.Math.Dec.{eqb}
use Rattle.std.proofs.lemmas.Bool.{eqb-false, eqb-true}
use Rattle.std.proofs.lemmas.Option.{slice_get_within}
use Rattle.otp_run.specs.Lists.{AllAt}
use Rattle.otp_open.specs.declared.opening.SystemFault.{SystemFault}
use Rattle.otp_open.specs.declared.opening.SystemFault.TheVariants as fault
use Rattle.otp_open.specs.declared.plan.TablePlan.{TablePlan}
use Rattle.otp_open.specs.Plans.{HasBodies, HaveBodies, IsNotBare, IsOpenFault, LacksBody}

module _ {A : Type 0} (P : A → Type 0) (xs : List A) where
  -- what is so of the first ones and of the next is so of one more
  pub one_more : (n : ℕ) (x : A) → ((k : ℕ) → k < n → IfSome (slice_get xs k) P) → slice_get xs n ≡ Some x → P x → (k : ℕ) → k < n + 1 → IfSome (slice_get xs k) P
  one_more n x so_far at p k less = by (eqb k n) refl
    where
      by : (b : Bool) → eqb k n ≡ b → IfSome (slice_get xs k) P
      by true is = subst (λ (m : ℕ). IfSome (slice_get xs m) P) (sym (eqb-true k n is)) (subst (λ (o : Option A). IfSome o P) (sym at) p)
      by false is = so_far k (lt_of_le-ne (omega (arith, less)) (eqb-false k n is))

  -- and in the end of all
  pub all_so_far : (n : ℕ) → ((k : ℕ) → k < n → IfSome (slice_get xs k) P) → length xs ≡ n → AllAt (λ _ x. P x) xs
  all_so_far n so_far long k = by (slice_get xs k) refl
    where
      by : (o : Option A) → slice_get xs k ≡ o → IfSome o P
      by (Some x) is = let within = slice_get_within xs k x is in subst (λ (o : Option A). IfSome o P) is (so_far k (omega (arith, within, long)))
      by None is = tt

-- where each plan has its bodies, none is said to lack one
pub none_lacks : {J S : Type 0} (plans : List (TablePlan J S)) (why : SystemFault) → HaveBodies plans → IsOpenFault plans why → IsNotBare why
none_lacks plans fault.OutOfMemory all is = tt
none_lacks plans (fault.NoBody table) all is =
    elim (slice_get plans table) as (λ plan. IfSome plan HasBodies → MatchOption plan ⊥ LacksBody → ⊥) [ Some plan ↦ (λ has lacks. omega (arith, has, lacks)) | None ↦ (λ has lacks. lacks) ] (all table) is
