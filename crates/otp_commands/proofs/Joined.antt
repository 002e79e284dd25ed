-- Texts that were written one behind the other.
use Rattle.std.proofs.Common.{◌≡◌, ◌++◌, ◌∙◌, ℕ, List, ap, append_assoc}

pub two_joined : (old a b x y : List ℕ) → x ≡ old ++ a → y ≡ x ++ b → y ≡ old ++ (a ++ b)
two_joined old a b x y first second = second ∙ (ap (λ (s : List ℕ). s ++ b) first ∙ append_assoc old a b)

pub three_joined : (old a b c x y z : List ℕ) → x ≡ old ++ a → y ≡ x ++ b → z ≡ y ++ c → z ≡ old ++ (a ++ (b ++ c))
three_joined old a b c x y z first second third =
    third
    ∙ (ap (λ (s : List ℕ). s ++ c) (second ∙ ap (λ (s : List ℕ). s ++ b) first)
    ∙ (append_assoc (old ++ a) b c ∙ append_assoc old a (b ++ c)))
