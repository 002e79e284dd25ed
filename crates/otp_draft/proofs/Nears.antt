-- The items from a place on, once the one there was put anew.
use Rattle.std.proofs.Common.{◌≡◌, ℕ, suc, ◌+◌, ◌<◌, List, [], ◌∷◌, ◌++◌, All, arith, sym, subst, ap, ◌∙◌, append_assoc, take, drop, get_or, length, map}
use Rattle.std.specs.Prelude.{slice_set}
use Rattle.std.proofs.lemmas.List.{drop-set-lt, drop_more, take_more_set}

-- what is said of each from a place on is still so behind it
pub near_after : {X : Type 0} (P : X → Type 0) (xs : List X) (i : ℕ) (d x : X) → i < length xs → All P (drop i xs) → All P (drop (i + 1) (slice_set xs i x))
near_after P xs i d x inside near =
    let both : All P (get_or xs i d ∷ drop (i + 1) xs) = subst (All P) (drop_more xs i d inside) near in
    let rest : All P (drop (i + 1) xs) = λ k e b. both (suc k) e (omega (arith, b)) in
    subst (All P) (sym (drop-set-lt (i + 1) xs i x (omega arith))) rest

-- one more is what the function gives of it
pub mapped_after : {X : Type 0} (f : X → X) (xs all : List X) (i : ℕ) (d x : X) → i < length xs → x ≡ f (get_or xs i d) →
    take i xs ++ map f (drop i xs) ≡ all → take (i + 1) (slice_set xs i x) ++ map f (drop (i + 1) (slice_set xs i x)) ≡ all
mapped_after f xs all i d x inside new before =
    ap (λ front. front ++ map f (drop (i + 1) (slice_set xs i x))) (take_more_set xs i x inside)
    ∙ ap (λ rest. (take i xs ++ x ∷ []) ++ map f rest) (drop-set-lt (i + 1) xs i x (omega arith))
    ∙ append_assoc (take i xs) (x ∷ []) (map f (drop (i + 1) xs))
    ∙ ap (λ one. take i xs ++ one ∷ map f (drop (i + 1) xs)) new
    ∙ ap (λ rest. take i xs ++ map f rest) (sym (drop_more xs i d inside))
    ∙ before
