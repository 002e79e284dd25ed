use Rattle.std.proofs.Common.{rules, ◌+◌, ◌<◌, ◌≤◌, IsTrue, ℕ, List, Bool, true, false, arith, get_or, length}
use Rattle.std.specs.Prelude.{MatchBool}
use Rattle.std.specs.List.Sorted.{IsNonDecreasing}
use Rattle.std.proofs.lemmas.List.Sorted.{non_decreasing_from_is_sorted}
use Rattle.otp_base.proofs.lawful.are_ordered.Goals as goal

-- one is below the one before it
abbrev Falls : List ℕ → Type 0
Falls xs = (k : ℕ) × (k + 1 < length xs) × ((d : ℕ) → get_or xs (k + 1) d < get_or xs k d)

falls_not : (xs : List ℕ) → Falls xs → IsNonDecreasing xs → ⊥
falls_not xs f ordered =
    let rises : get_or xs f.0 0 ≤ get_or xs (f.0 + 1) 0 = ordered f.0 (f.0 + 1) 0 (omega arith) f.1 in
    absurd (omega (arith, rises, f.2 0))

both : (xs : List ℕ) (r : Bool) → MatchBool r (IsNonDecreasing xs) (Falls xs) → (IsTrue r → IsNonDecreasing xs) × (IsNonDecreasing xs → IsTrue r)
both xs true h = (λ _. h, λ _. search rules)
both xs false h = (λ t. absurd (search (rules, t)), λ ordered. absurd (falls_not xs h ordered))

pub returns : goal.returns
returns c = both c.args.stamps.now c.is_sorted.result (non_decreasing_from_is_sorted c.args.stamps.now c.is_sorted.result c.is_sorted.ensures.cases)
