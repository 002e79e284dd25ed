use Rattle.std.proofs.Common.{◌≡◌, ℕ, ◌+◌, ◌<◌, List, [], ◌∷◌, ◌++◌, ◌∙◌, Some, add-one, ap, arith, drop, drop-cons, length, map, sym, take, suc, append_assoc}
use Rattle.std.specs.Prelude.{slice_get, slice_set}
use Rattle.std.proofs.lemmas.List.{take_more_set, drop-set-lt}
use Rattle.std.proofs.lemmas.Option.{slice_get_within, get_or_from_slice_get}

-- f was done to the item at the place: done up to there is done one further
pub mapped_further : {X : Type 0} (f : X → X) (xs ys : List X) (i : ℕ) (x : X) → slice_get xs i ≡ Some x → ys ≡ slice_set xs i (f x) →
    take (i + 1) ys ++ map f (drop (i + 1) ys) ≡ take i xs ++ map f (drop i xs)
mapped_further f xs ys i x found is =
    let within : i < length xs = slice_get_within xs i x found in
    let head : drop i xs ≡ x ∷ drop (i + 1) xs = drop-cons xs i x within ∙ ap (λ y. y ∷ drop (suc i) xs) (get_or_from_slice_get xs i x x found) ∙ ap (λ n. x ∷ drop n xs) (sym (add-one i)) in
    let rest : drop (i + 1) ys ≡ drop (i + 1) xs = ap (drop (i + 1)) is ∙ drop-set-lt (i + 1) xs i (f x) (omega arith) in
    let front : take (i + 1) ys ≡ take i xs ++ f x ∷ [] = ap (take (i + 1)) is ∙ take_more_set xs i (f x) within in
    ap (λ t. t ++ map f (drop (i + 1) ys)) front ∙ ap (λ d. (take i xs ++ f x ∷ []) ++ map f d) rest
    ∙ append_assoc (take i xs) (f x ∷ []) (map f (drop (i + 1) xs)) ∙ ap (λ d. take i xs ++ map f d) (sym head)
