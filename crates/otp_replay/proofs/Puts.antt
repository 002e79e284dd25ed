-- Texts that are put one behind another.
use Rattle.std.proofs.Common.{◌≡◌, ◌∙◌, ℕ, List, ◌++◌, Result, Ok, Err, OnOk, ap, append_assoc, if◌then◌else◌, is_ok}

pub join : (x a b y z : List ℕ) → y ≡ x ++ a → z ≡ y ++ b → z ≡ x ++ (a ++ b)
join x a b y z first second = second ∙ ap (λ (t : List ℕ). t ++ b) first ∙ append_assoc x a b

pub put_last : {T E : Type 0} (r : Result T E) (x a b y z : List ℕ) → y ≡ x ++ a → z ≡ (if is_ok r then y ++ b else y) → OnOk r (z ≡ x ++ (a ++ b))
put_last (Ok _) x a b y z first second = join x a b y z first second
put_last (Err _) x a b y z first second = tt
