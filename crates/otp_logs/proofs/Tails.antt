-- A text from the first place on from which something is so.
use Rattle.std.proofs.Common.{◌≡◌, ◌∙◌, ℕ, ◌+◌, ◌<◌, Bool, true, false, cond, List, ◌∷◌, add-one, ap, drop, drop-cons, get_or, length, subst, sym}
use Rattle.otp_logs.specs.Words.{first_tail}

at_first : (p : List ℕ → Bool) (byte : ℕ) (text : List ℕ) → p (byte ∷ text) ≡ true → first_tail p (byte ∷ text) ≡ byte ∷ text
at_first p byte text is = ap (λ (b : Bool). cond b (byte ∷ text) (first_tail p text)) is

behind_first : (p : List ℕ → Bool) (byte : ℕ) (text : List ℕ) → p (byte ∷ text) ≡ false → first_tail p (byte ∷ text) ≡ first_tail p text
behind_first p byte text is = ap (λ (b : Bool). cond b (byte ∷ text) (first_tail p text)) is

cut_at : (text : List ℕ) (place : ℕ) → place < length text → drop place text ≡ get_or text place 0 ∷ drop (place + 1) text
cut_at text place inside = drop-cons text place 0 inside ∙ ap (λ (n : ℕ). get_or text place 0 ∷ drop n text) (sym (add-one place))

-- from this place it is so
pub here : (p : List ℕ → Bool) (text : List ℕ) (place : ℕ) → place < length text → p (drop place text) ≡ true
    → first_tail p (drop place text) ≡ drop place text
here p text place inside is =
    let at : List ℕ → Type 0 = λ rest. p rest ≡ true → first_tail p rest ≡ rest in
    subst at (sym (cut_at text place inside)) (at_first p (get_or text place 0) (drop (place + 1) text)) is

-- from this one it isn't
pub later : (p : List ℕ → Bool) (text : List ℕ) (place : ℕ) → place < length text → p (drop place text) ≡ false
    → first_tail p (drop (place + 1) text) ≡ first_tail p (drop place text)
later p text place inside is =
    let next : List ℕ = drop (place + 1) text in
    let at : List ℕ → Type 0 = λ rest. p rest ≡ false → first_tail p next ≡ first_tail p rest in
    subst at (sym (cut_at text place inside)) (λ no. sym (behind_first p (get_or text place 0) next no)) is
