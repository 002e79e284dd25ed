-- What single tests say, as they are counted and joined.
use Rattle.std.specs.Prelude.{◌≡◌, ◌≤◌, ◌||◌, ℕ, Bool, true, false, refl}
use Rattle.std.proofs.Common.{arith, cond}

-- a test counts one at most
pub at_most_1 : (b : Bool) → cond b 1 0 ≤ 1
at_most_1 true = omega arith
at_most_1 false = omega arith

-- one that counts nothing is false
pub counts_none : (b : Bool) → ◌≡◌ {A = ℕ} (cond b 1 0) 0 → b ≡ false
counts_none true h = absurd (omega (arith, h))
counts_none false h = refl

pub or_false : (b : Bool) → (b || false) ≡ b
or_false true = refl
or_false false = refl
