-- Supervisors that are added: the memory for their bodies, and the first of those that are left.
use Rattle.std.proofs.Common.{◌≡◌, suc, ◌+◌, ◌<◌, List, [], ◌∷◌, ◌++◌, arith, length, subst}
use Rattle.otp_bodies.specs.Bodies.{BodiesView}
use Rattle.otp_run.specs.Lists.{AllAt}
use Rattle.otp_open.specs.Adds.{Fit, IsSpaceFor}
use Rattle.otp_open.specs.declared.plan.TablePlan.{TablePlan}

module _ {J S : Type 0} where
  pub fit_more : (plans : List (TablePlan J S)) (spaces : List BodiesView) (plan : TablePlan J S) (space : BodiesView) → Fit plans spaces → IsSpaceFor plan space → Fit (plans ++ plan ∷ []) (spaces ++ space ∷ [])
  fit_more [] [] plan space fit is = (is, tt)
  fit_more [] (t ∷ spaces) plan space fit is = absurd fit
  fit_more (p ∷ plans) [] plan space fit is = absurd fit
  fit_more (p ∷ plans) (t ∷ spaces) plan space fit is = (fit.0, fit_more plans spaces plan space fit.1 is)

  pub some_space : (plan : TablePlan J S) (plans : List (TablePlan J S)) (spaces : List BodiesView) → Fit (plan ∷ plans) spaces → 0 < length spaces
  some_space plan plans [] fit = absurd fit
  some_space plan plans (space ∷ spaces) fit = omega arith

  pub fit_next : (rest : List (TablePlan J S)) (left : List BodiesView) (plan : TablePlan J S) (plans : List (TablePlan J S)) (space : BodiesView) (spaces : List BodiesView)
      → rest ≡ plan ∷ plans → left ≡ space ∷ spaces → Fit rest left → IsSpaceFor plan space × Fit plans spaces
  fit_next rest left plan plans space spaces next also fit = subst (λ l. Fit (plan ∷ plans) l) also (subst (λ l. Fit l left) next fit)

module _ {A : Type 0} (P : A → Type 0) where
  -- what is so of each of those that are left is so of the next, and of those behind it
  pub of_next : (rest : List A) (x : A) (xs : List A) → rest ≡ x ∷ xs → AllAt (λ _ y. P y) rest → P x
  of_next rest x xs next all = subst (λ l. AllAt (λ _ y. P y) l) next all 0

  pub of_others : (rest : List A) (x : A) (xs : List A) → rest ≡ x ∷ xs → AllAt (λ _ y. P y) rest → AllAt (λ _ y. P y) xs
  of_others rest x xs next all k = subst (λ l. AllAt (λ _ y. P y) l) next all (suc k)
