-- Steps that are made one after another.
use Rattle.std.specs.Prelude.{◌≡◌, ℕ, ◌+◌, List, [], ◌∷◌, ◌++◌, length, refl}
use Rattle.std.proofs.Common.{arith, subst}
use Rattle.std.proofs.lemmas.List.{length-append}
use Rattle.otp_driver.specs.Driven.{Driven, GoesIn, Step, Through}

through-append : (a b c : Driven) (xs ys : List Driven) → Through a xs b → Through b ys c → Through a (xs ++ ys) c
through-append a b c [] ys first second = subst (λ (t : Driven). Through t ys c) first second
through-append a b c (x ∷ xs) ys (step, rest) second = (step, through-append x b c xs ys rest second)

pub goes_then : (count : ℕ) (a b c : Driven) → GoesIn count a b → Step b c → GoesIn (count + 1) a c
goes_then count a b c (xs, first, many) step =
    let all : length (xs ++ c ∷ []) ≡ length xs + 1 = length-append xs (c ∷ []) in
    (xs ++ c ∷ [], through-append a b c xs (c ∷ []) first (step, refl), omega (arith, all, many))
