-- Places that are ready for plans: one more, and the first of those that are left.
use Rattle.std.proofs.Common.{◌≡◌, ℕ, suc, ◌+◌, ◌<◌, List, [], ◌∷◌, ◌++◌, add-zero, arith, length, subst, sym}
use Rattle.otp_open.specs.Readies.{AreReadyFor, IsReadyFor}
use Rattle.otp_open.specs.declared.plan.TablePlan.{TablePlan}
use Rattle.otp_open.specs.declared.ready.ReadyPlace.{ReadyPlace}

module _ {N J S : Type 0} where
  pub ready_more : (number : ℕ) (plans : List (TablePlan J S)) (places : List (ReadyPlace N J S)) (plan : TablePlan J S) (place : ReadyPlace N J S)
      → AreReadyFor number plans places → IsReadyFor (number + length places) plan place → AreReadyFor number (plans ++ plan ∷ []) (places ++ place ∷ [])
  ready_more number [] [] plan place ready is = (subst (λ n. IsReadyFor n plan place) (add-zero number) is, tt)
  ready_more number [] (t ∷ places) plan place ready is = absurd ready
  ready_more number (p ∷ plans) [] plan place ready is = absurd ready
  ready_more number (p ∷ plans) (t ∷ places) plan place ready is =
      let same : number + suc (length places) ≡ number + 1 + length places = omega arith in
      (ready.0, ready_more (number + 1) plans places plan place ready.1 (subst (λ n. IsReadyFor n plan place) same is))

  pub some_place : (number : ℕ) (plan : TablePlan J S) (plans : List (TablePlan J S)) (places : List (ReadyPlace N J S)) → AreReadyFor number (plan ∷ plans) places → 0 < length places
  some_place number plan plans [] ready = absurd ready
  some_place number plan plans (place ∷ places) ready = omega arith

  pub ready_next : (number : ℕ) (rest : List (TablePlan J S)) (left : List (ReadyPlace N J S)) (plan : TablePlan J S) (plans : List (TablePlan J S)) (place : ReadyPlace N J S) (places : List (ReadyPlace N J S))
      → rest ≡ plan ∷ plans → left ≡ place ∷ places → AreReadyFor number rest left → IsReadyFor number plan place × AreReadyFor (number + 1) plans places
  ready_next number rest left plan plans place places next also ready = subst (λ l. AreReadyFor number (plan ∷ plans) l) also (subst (λ l. AreReadyFor number l left) next ready)
