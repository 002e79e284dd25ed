-- Of the supervisors that help none grows by less than the best.
use Rattle.std.specs.Prelude.{◌≡◌, ℕ, ◌≤◌, All, Bool, true, false, List, [], ◌∷◌, Option, Some, None, get_or, if◌then◌else◌, refl}
use Rattle.std.proofs.Common.{arith, subst}
use Rattle.std.proofs.lemmas.Bool.{leb-false, leb-true}
use Rattle.std.proofs.lemmas.List.Elements.{All-cons, All-nil}
use Rattle.otp_suggest.specs.Levers.{BestIsLeast, IsNoMore, best_of, better, growth_of, is_no_more}
use Rattle.otp_suggest.specs.declared.lever.Lever.{Lever}

abbrev IsYes : Bool → Type 0
IsYes true = Unit {0}
IsYes false = ⊥

abbrev IsNo : Bool → Type 0
IsNo true = ⊥
IsNo false = Unit {0}

same : (one : Option ℕ) → IsNoMore one one
unfolding IsNoMore
same None = tt
same (Some one) = omega arith

through : (one mid other : Option ℕ) → IsNoMore one mid → IsNoMore mid other → IsNoMore one other
unfolding IsNoMore
through one mid None first second = tt
through one None (Some other) first second = absurd second
through None (Some mid) (Some other) first second = absurd first
through (Some one) (Some mid) (Some other) first second = omega (arith, first, second)

where_yes : (one other : Option ℕ) → is_no_more one other ≡ true → IsNoMore one other
unfolding IsNoMore is_no_more
where_yes one None is = tt
where_yes None (Some other) is = subst (λ (b : Bool). IsNo b) is tt
where_yes (Some one) (Some other) is = leb-true one other is

where_no : (one other : Option ℕ) → is_no_more one other ≡ false → IsNoMore other one
unfolding IsNoMore is_no_more
where_no None other is = tt
where_no (Some one) None is = subst (λ (b : Bool). IsYes b) is tt
where_no (Some one) (Some other) is = omega (arith, leb-false one other is)

-- the better of two grows by no more than either
of_two : (lever : Lever) (other : Option Lever) (first : Bool) → is_no_more (growth_of (Some lever)) (growth_of other) ≡ first
    → IsNoMore (growth_of (if first then Some lever else other)) (growth_of (Some lever))
    × IsNoMore (growth_of (if first then Some lever else other)) (growth_of other)
of_two lever other true is = (same (growth_of (Some lever)), where_yes (growth_of (Some lever)) (growth_of other) is)
of_two lever other false is = (where_no (growth_of (Some lever)) (growth_of other) is, same (growth_of other))

of_better : (lever : Lever) (other : Option Lever)
    → IsNoMore (growth_of (better lever other)) (growth_of (Some lever)) × IsNoMore (growth_of (better lever other)) (growth_of other)
unfolding better
of_better lever other = of_two lever other (is_no_more (growth_of (Some lever)) (growth_of other)) refl

pub best_law : BestIsLeast
best_law [] = All-nil (λ (lever : Lever). IsNoMore (growth_of (best_of [])) (growth_of (Some lever)))
best_law (lever ∷ levers) =
    All-cons (λ (each : Lever). IsNoMore (growth_of (better lever (best_of levers))) (growth_of (Some each))) lever levers
    (of_better lever (best_of levers)).0
    (λ k d inside. through (growth_of (better lever (best_of levers))) (growth_of (best_of levers)) (growth_of (Some (get_or levers k d)))
    (of_better lever (best_of levers)).1 (best_law levers k d inside))
