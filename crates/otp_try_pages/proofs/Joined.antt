-- What is appended piece by piece is appended as a whole.
use Rattle.std.proofs.Common.{◌≡◌, ◌++◌, ◌∙◌, List, OnOk, Result, Ok, Err, ℕ, ap, append_assoc}
use Rattle.std.specs.Prelude.{if◌then◌else◌}
use Rattle.std.specs.Result.{is_ok}

-- one piece more behind those that were appended
pub more : (out so_far mid piece next : List ℕ) → mid ≡ out ++ so_far → next ≡ mid ++ piece → next ≡ out ++ (so_far ++ piece)
more out so_far mid piece next before is = is ∙ ap (λ (xs : List ℕ). xs ++ piece) before ∙ append_assoc out so_far piece

-- the same as an equation of what is to be appended last
pub whole : (out so_far mid last : List ℕ) → mid ≡ out ++ so_far → mid ++ last ≡ out ++ (so_far ++ last)
whole out so_far mid last before = ap (λ (xs : List ℕ). xs ++ last) before ∙ append_assoc out so_far last

-- what a call appends where it ends well
pub on_ok : {T E : Type 0} (result : Result T E) (next longer same : List ℕ) → next ≡ (if is_ok result then longer else same) → OnOk result (next ≡ longer)
on_ok (Ok value) next longer same is = is
on_ok (Err why) next longer same is = tt
