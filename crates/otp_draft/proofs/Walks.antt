-- The plan of a tree has its supervisors in the order of the walk.
use Rattle.std.proofs.Common.{◌≡◌, ℕ, ◌+◌, List, [], ◌∷◌, ◌++◌, map, length, arith, refl, ap, ◌∙◌, length-append}
use Rattle.std.proofs.lemmas.List.{map-append}
use Rattle.otp_job.specs.declared.bridge.bridge.BridgePhase.TheVariants.{New}
use Rattle.otp_job.specs.declared.body.Body.{Body}
use Rattle.otp_job.specs.declared.body.Body.TheVariants as body
use Rattle.otp_draft.specs.Drawings.{Drawing, Alone, Worker, Bridge, Above, Template, bodies_of, below, count, flags_of, specs_of, top, tree_of, walk}
use Rattle.otp_draft.specs.Plans.{Planned, body_at, numbered, numbered_one}
use Rattle.otp_draft.specs.Trees.{plans_of, size}

module _ {J S : Type 0} where
  -- supervisors behind others are numbered on from these
  pub numbered-append : (number : ℕ) (xs ys : List (Planned J S)) → numbered number (xs ++ ys) ≡ numbered number xs ++ numbered (number + length xs) ys
  numbered-append number [] ys = let same : number ≡ number + 0 = omega arith in ap (λ n. numbered n ys) same
  numbered-append number (x ∷ xs) ys =
      let more : number + 1 + length xs ≡ number + length (x ∷ xs) = omega arith in
      ap (λ rest. numbered_one number x ∷ rest) (numbered-append (number + 1) xs ys ∙ ap (λ n. numbered (number + 1) xs ++ numbered n ys) more)

  pub size-is : (d : Drawing J S) → size (tree_of d) ≡ count d
  size-is (Alone flags) = refl
  size-is (Worker d spec job) = size-is d
  size-is (Bridge d spec subsystem) = size-is d
  size-is (Template d spec) = size-is d
  size-is (Above d spec sub) =
      let here = size-is d in
      let there = size-is sub in
      let both : length ((tree_of d).below ++ plans_of (tree_of sub)) ≡ length (tree_of d).below + length (plans_of (tree_of sub)) = length-append (tree_of d).below (plans_of (tree_of sub)) in
      omega (arith, here, there, both)

  pub flags-are : (d : Drawing J S) → (tree_of d).flags ≡ flags_of d
  flags-are (Alone flags) = refl
  flags-are (Worker d spec job) = flags-are d
  flags-are (Bridge d spec subsystem) = flags-are d
  flags-are (Above d spec sub) = flags-are d
  flags-are (Template d spec) = flags-are d

  pub specs-are : (d : Drawing J S) → (tree_of d).specs ≡ specs_of d
  specs-are (Alone flags) = refl
  specs-are (Worker d spec job) = ap (λ specs. specs ++ spec ∷ []) (specs-are d)
  specs-are (Bridge d spec subsystem) = ap (λ specs. specs ++ spec ∷ []) (specs-are d)
  specs-are (Above d spec sub) = ap (λ specs. specs ++ spec ∷ []) (specs-are d)
  specs-are (Template d spec) = ap (λ specs. specs ++ spec ∷ []) (specs-are d)

  -- one body more, under its number
  pub one-more : (number : ℕ) (bodies wanted : List (Body J S)) (b : Body J S) → map (body_at number) bodies ≡ wanted → map (body_at number) (bodies ++ b ∷ []) ≡ wanted ++ body_at number b ∷ []
  one-more number bodies wanted b so_far = map-append (body_at number) bodies (b ∷ []) ∙ ap (λ front. front ++ body_at number b ∷ []) so_far

  pub bodies-are : (number : ℕ) (d : Drawing J S) → map (body_at number) (tree_of d).bodies ≡ bodies_of number d
  bodies-are number (Alone flags) = refl
  bodies-are number (Worker d spec job) = one-more number (tree_of d).bodies (bodies_of number d) (body.Worker job) (bodies-are number d)
  bodies-are number (Bridge d spec subsystem) =
      one-more number (tree_of d).bodies (bodies_of number d) (body.Bridge (record { subsystem = subsystem; phase = New })) (bodies-are number d)
  bodies-are number (Above d spec sub) =
      one-more number (tree_of d).bodies (bodies_of number d) (body.Sup (size (tree_of d))) (bodies-are number d)
      ∙ ap (λ n. bodies_of number d ++ body.Sup (number + n) ∷ []) (size-is d)
  bodies-are number (Template d spec) = bodies-are number d

  pub top-is : (number : ℕ) (d : Drawing J S) →
      numbered_one number (record { supervisor = record { flags = (tree_of d).flags; specs = (tree_of d).specs }; bodies = (tree_of d).bodies }) ≡ top number d
  top-is number d =
      ap (λ flags. record { supervisor = record { flags = flags; specs = (tree_of d).specs }; bodies = map (body_at number) (tree_of d).bodies }) (flags-are d)
      ∙ ap (λ specs. record { supervisor = record { flags = flags_of d; specs = specs }; bodies = map (body_at number) (tree_of d).bodies }) (specs-are d)
      ∙ ap (λ bodies. record { supervisor = record { flags = flags_of d; specs = specs_of d }; bodies = bodies }) (bodies-are number d)

  pub below-is : (number : ℕ) (d : Drawing J S) → numbered (number + 1) (tree_of d).below ≡ below number d
  below-is number (Alone flags) = refl
  below-is number (Worker d spec job) = below-is number d
  below-is number (Bridge d spec subsystem) = below-is number d
  below-is number (Template d spec) = below-is number d
  below-is number (Above d spec sub) =
      let here = size-is d in
      let place : number + 1 + length (tree_of d).below ≡ number + count d = omega (arith, here) in
      numbered-append (number + 1) (tree_of d).below (plans_of (tree_of sub))
      ∙ ap (λ front. front ++ numbered (number + 1 + length (tree_of d).below) (plans_of (tree_of sub))) (below-is number d)
      ∙ ap (λ n. below number d ++ numbered n (plans_of (tree_of sub))) place
      ∙ ap (λ one. below number d ++ one ∷ numbered (number + count d + 1) (tree_of sub).below) (top-is (number + count d) sub)
      ∙ ap (λ rest. below number d ++ top (number + count d) sub ∷ rest) (below-is (number + count d) sub)

  pub walked : (number : ℕ) (d : Drawing J S) → numbered number (plans_of (tree_of d)) ≡ walk number d
  walked number d =
      ap (λ one. one ∷ numbered (number + 1) (tree_of d).below) (top-is number d)
      ∙ ap (λ rest. top number d ∷ rest) (below-is number d)
