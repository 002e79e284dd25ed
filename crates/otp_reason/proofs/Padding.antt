use Rattle.std.proofs.Common.{◌≡◌, ℕ, ◌+◌, ◌-◌, take, List, ◌++◌, ◌∙◌, length, drop, replicate, ap, sym, arith, zero-add, append_assoc, length-append}
use Rattle.std.proofs.Math.Seq.{drop-append-add, take-append_seam}
use Rattle.std.proofs.lemmas.List.{drop-replicate}
use Rattle.otp_reason.specs.Padded.{padded_to}

-- bytes that were copied over a buffer of zeros
pub copied : (size : ℕ) (bytes kept : List ℕ) → kept ≡ bytes → kept ++ drop (length bytes) (replicate size 0) ≡ padded_to size bytes
copied size bytes kept same = rw drop-replicate (ap (λ k. k ++ replicate (size - length bytes) 0) same)

-- bytes that were written over a buffer of zeros, and bytes that were written after them
pub written : (size : ℕ) (front back first second : List ℕ) →
    first ≡ take 0 (replicate size 0) ++ (front ++ drop (0 + length front) (replicate size 0)) →
    second ≡ take (length front) first ++ (back ++ drop (length front + length back) first) →
    second ≡ padded_to size (front ++ back)
written size front back first second e k =
    let zeros : List ℕ = replicate (size - length front) 0 in
    let rest : drop (0 + length front) (replicate size 0) ≡ zeros =
    ap (λ n. drop n (replicate size 0)) (zero-add (length front)) ∙ drop-replicate (length front) size 0 in
    let front_is : first ≡ front ++ zeros = e ∙ ap (λ x. front ++ x) rest in
    let tail : drop (length front + length back) first ≡ replicate (size - length (front ++ back)) 0 =
    ap (drop (length front + length back)) front_is ∙ drop-append-add front zeros (length back) ∙ drop-replicate (length back) (size - length front) 0
    ∙ ap (λ n. replicate n 0) (omega (arith, length-append front back)) in
    let head : take (length front) first ≡ front = ap (take (length front)) front_is ∙ take-append_seam front zeros in
    k ∙ ap (λ x. x ++ (back ++ drop (length front + length back) first)) head ∙ ap (λ x. front ++ (back ++ x)) tail
    ∙ sym (append_assoc front back (replicate (size - length (front ++ back)) 0))
