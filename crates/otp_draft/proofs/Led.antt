-- The paths of a tree's supervisors lead to them in the drawing.
use Rattle.std.proofs.Common.{◌≡◌, ℕ, zero, suc, ◌+◌, ◌-◌, List, [], ◌∷◌, ◌++◌, Option, Some, length, arith, refl, ap, sym, ◌∙◌, append_assoc, length-append, rules}
use Rattle.std.specs.Prelude.{slice_get}
use Rattle.otp_draft.proofs.Walks.{size-is}
use Rattle.otp_draft.specs.Drawings.{Drawing, Alone, Worker, Bridge, Above, Template, count, tree_of}
use Rattle.otp_draft.specs.Paths.{next_prefix, or_none, prefix_below, prefixes, prefixes_behind}
use Rattle.otp_draft.specs.Trees.{size}
use Rattle.otp_draft.specs.declared.paths.Nested.{Nested}

behind-append : (before : List (List ℕ)) (xs ys : List Nested) → prefixes_behind before (xs ++ ys) ≡ prefixes_behind (prefixes_behind before xs) ys
behind-append before [] ys = refl
behind-append before (x ∷ xs) ys = behind-append (before ++ next_prefix before x ∷ []) xs ys

module _ {X : Type 0} where
  -- the first behind others, and one among the first
  at_end : (xs ys : List X) (y : X) → slice_get (xs ++ y ∷ ys) (length xs) ≡ Some y
  at_end [] ys y = refl
  at_end (x ∷ xs) ys y = at_end xs ys y

  at_front : (xs ys : List X) (k : ℕ) (x : X) → slice_get xs k ≡ Some x → slice_get (xs ++ ys) k ≡ Some x
  at_front [] ys k x is = search rules
  at_front (z ∷ xs) ys zero x is = is
  at_front (z ∷ xs) ys (suc k) x is = at_front xs ys k x is

module _ {J S : Type 0} where
  many : (prefix : List ℕ) (d : Drawing J S) → length (prefixes prefix d) ≡ count d
  many prefix (Alone flags) = refl
  many prefix (Worker d spec job) = many prefix d
  many prefix (Bridge d spec subsystem) = many prefix d
  many prefix (Template d spec) = many prefix d
  many prefix (Above d spec sub) =
      let here = many prefix d in
      let there = many (prefix_below prefix spec.id) sub in
      let both = length-append (prefixes prefix d) (prefixes (prefix_below prefix spec.id) sub) in
      omega (arith, here, there, both)

  -- the top's stands first
  top_at : (before : List (List ℕ)) (prefix : List ℕ) (d : Drawing J S) → slice_get (before ++ prefixes prefix d) (length before) ≡ Some prefix
  top_at before prefix (Alone flags) = at_end before [] prefix
  top_at before prefix (Worker d spec job) = top_at before prefix d
  top_at before prefix (Bridge d spec subsystem) = top_at before prefix d
  top_at before prefix (Template d spec) = top_at before prefix d
  top_at before prefix (Above d spec sub) =
      let more = prefixes (prefix_below prefix spec.id) sub in
      ap (λ (all : List (List ℕ)). slice_get all (length before)) (sym (append_assoc before (prefixes prefix d) more))
      ∙ at_front (before ++ prefixes prefix d) more (length before) prefix (top_at before prefix d)

  pub led : (d : Drawing J S) (before : List (List ℕ)) (prefix : List ℕ) → prefixes_behind (before ++ prefix ∷ []) (tree_of d).nested ≡ before ++ prefixes prefix d
  led (Alone flags) before prefix = refl
  led (Worker d spec job) before prefix = led d before prefix
  led (Bridge d spec subsystem) before prefix = led d before prefix
  led (Template d spec) before prefix = led d before prefix
  led (Above d spec sub) before prefix =
      let one : Nested = record { id = spec.id; behind = size (tree_of d) } in
      let here = before ++ prefixes prefix d in
      let below = prefix_below prefix spec.id in
      let long : length here ≡ length before + length (prefixes prefix d) = length-append before (prefixes prefix d) in
      let counted = many prefix d in
      let sized = size-is d in
      let place : length here - size (tree_of d) ≡ length before = omega (arith, long, counted, sized) in
      let parent : slice_get here (length here - size (tree_of d)) ≡ Some prefix = ap (slice_get here) place ∙ top_at before prefix d in
      let next : next_prefix here one ≡ below = ap (λ (p : Option (List ℕ)). prefix_below (or_none p) spec.id) parent in
      behind-append (before ++ prefix ∷ []) (tree_of d).nested (one ∷ (tree_of sub).nested)
      ∙ ap (λ (all : List (List ℕ)). prefixes_behind all (one ∷ (tree_of sub).nested)) (led d before prefix)
      ∙ ap (λ (p : List ℕ). prefixes_behind (here ++ p ∷ []) (tree_of sub).nested) next
      ∙ led sub here below
      ∙ append_assoc before (prefixes prefix d) (prefixes below sub)
