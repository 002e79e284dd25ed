-- What is said of each item of a list, once one is put behind.
use Rattle.std.specs.Prelude.{List, [], ◌∷◌, ◌++◌, All}
use Rattle.std.proofs.Common.{zero, suc, arith}

pub each_push : {X : Type 0} (P : X → Type 0) (xs : List X) (x : X) → P x → All P xs → All P (xs ++ x ∷ [])
each_push P [] x here all zero d inside = here
each_push P [] x here all (suc k) d inside = absurd (omega (arith, inside))
each_push P (y ∷ ys) x here all zero d inside = all zero d (omega arith)
each_push P (y ∷ ys) x here all (suc k) d inside = each_push P ys x here (λ m e b. all (suc m) e (omega (arith, b))) k d (omega (arith, inside))
