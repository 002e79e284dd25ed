-- Passes that read, one after the other.
use Rattle.std.proofs.Common.{◌≡◌, ℕ, ◌<◌, List, [], ◌∷◌, ◌++◌, sym, ap, ◌∙◌, drop, get_or, length}
use Rattle.std.proofs.lemmas.List.{drop_more}
use Rattle.otp_signals.specs.Counts.{IsRead, Reading}
use Rattle.otp_rules.specs.declared.call.CountsNow.{CountsNow}
use Rattle.otp_hand.specs.Readings.{AreRead}

-- one more, behind those that were read
pub read_more : (all : List CountsNow) (old new : List Reading) (now : CountsNow) (p q : Reading) → AreRead all old new → IsRead p q now
    → AreRead (all ++ now ∷ []) (old ++ p ∷ []) (new ++ q ∷ [])
read_more [] [] [] now p q before one = (one, tt)
read_more [] [] (_ ∷ _) now p q before one = absurd before
read_more [] (_ ∷ _) new now p q before one = absurd before
read_more (_ ∷ _) [] new now p q before one = absurd before
read_more (_ ∷ _) (_ ∷ _) [] now p q before one = absurd before
read_more (a ∷ all) (x ∷ old) (y ∷ new) now p q before one = (before.0, read_more all old new now p q before.1 one)

abbrev head_of : {X : Type 0} → X → List X → X
head_of d [] = d
head_of d (x ∷ xs) = x

-- where two lists go on alike, they have the same at that place
pub same_at : {X : Type 0} (xs ys : List X) (i : ℕ) (d : X) → i < length xs → i < length ys → drop i xs ≡ drop i ys → get_or xs i d ≡ get_or ys i d
same_at xs ys i d inside within same =
    ap (head_of d) (sym (drop_more xs i d inside) ∙ same ∙ drop_more ys i d within)
