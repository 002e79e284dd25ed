-- Known bytes that grow in steps.
use Rattle.std.proofs.Common.{◌≡◌, ℕ, List, [], ◌++◌, Option, Some, None, take, drop, ap, sym, ◌∙◌, append_assoc}
use Rattle.std.specs.Io.KnownBytes.{Appends}
use Rattle.std.proofs.lemmas.List.{append-nil, take-append-drop}

-- some of the bytes were written, and these are left
pub record Halfway (before now : Option (List ℕ)) (bytes rest : List ℕ) : Type 0 where
  pub front : List ℕ
  pub appended : Appends before now front
  pub whole : bytes ≡ front ++ rest

pub appends_none : (known : Option (List ℕ)) → Appends known known []
appends_none None = tt
appends_none (Some xs) = sym (append-nil xs)

pub appends_more : (a b c : Option (List ℕ)) (x y : List ℕ) → Appends a b x → Appends b c y → Appends a c (x ++ y)
appends_more None b c x y first second = tt
appends_more (Some xs) None c x y first second = absurd first
appends_more (Some xs) (Some ys) None x y first second = absurd second
appends_more (Some xs) (Some ys) (Some zs) x y first second = second ∙ ap (λ bytes. bytes ++ y) first ∙ append_assoc xs x y

pub halfway_more : (a b c : Option (List ℕ)) (bytes rest : List ℕ) (n : ℕ) → Halfway a b bytes rest → Appends b c (take n rest)
    → Halfway a c bytes (drop n rest)
halfway_more a b c bytes rest n so_far more =
    record {
      front = so_far.front ++ take n rest;
      appended = appends_more a b c so_far.front (take n rest) so_far.appended more;
      whole = so_far.whole ∙ ap (λ xs. so_far.front ++ xs) (sym (take-append-drop n rest))
          ∙ sym (append_assoc so_far.front (take n rest) (drop n rest));
    }
