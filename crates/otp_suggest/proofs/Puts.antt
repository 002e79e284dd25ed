-- Texts that are put one behind another.
use Rattle.std.proofs.Common.{◌≡◌, ◌∙◌, ℕ, List, ◌++◌, Result, Ok, Err, OnOk, ap, append_assoc, if◌then◌else◌, is_ok}

pub join : (x a b y z : List ℕ) → y ≡ x ++ a → z ≡ y ++ b → z ≡ x ++ (a ++ b)
join x a b y z first second = second ∙ ap (λ (t : List ℕ). t ++ b) first ∙ append_assoc x a b

pub put_one : {T E : Type 0} (r : Result T E) (x a z : List ℕ) → z ≡ (if is_ok r then x ++ a else x) → OnOk r (z ≡ x ++ a)
put_one (Ok _) x a z put = put
put_one (Err _) x a z put = tt

pub put_three : {T E : Type 0} (r : Result T E) (x a b c y z w : List ℕ)
    → y ≡ x ++ a → z ≡ y ++ b → w ≡ (if is_ok r then z ++ c else z) → OnOk r (w ≡ x ++ (a ++ (b ++ c)))
put_three (Ok _) x a b c y z w first second third = join x a (b ++ c) y w first (join y b c z w second third)
put_three (Err _) x a b c y z w first second third = tt
