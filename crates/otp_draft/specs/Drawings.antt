-- How a tree is drawn up, and its supervisors as a walk over it meets them: each before those below its own children, and
-- those below an earlier child before those below a later one. (own)
use Rattle.std.specs.Prelude.{◌≡◌, ◌+◌, ℕ, List, [], ◌∷◌, ◌++◌}
use Rattle.otp_job.specs.declared.bridge.bridge.BridgePhase.TheVariants.{New}
use Rattle.otp_job.specs.declared.body.Body.{Body}
use Rattle.otp_job.specs.declared.body.Body.TheVariants as body
use Rattle.otp_spec.specs.declared.child.ChildSpec.{ChildSpec}
use Rattle.otp_spec.specs.declared.flags.SupFlags.{SupFlags}
use Rattle.otp_draft.specs.Plans.{Planned, numbered}
use Rattle.otp_draft.specs.Trees.{Tree, alone, plans_of, with_body, with_template, with_tree}

-- a supervisor without children; and a drawing with one more child: a worker, a bridge, the top of another drawing, or the
-- specification of dynamic children
pub data Drawing (J S : Type 0) : Type 0 where
  Alone : SupFlags → Drawing J S
  Worker : Drawing J S → ChildSpec → J → Drawing J S
  Bridge : Drawing J S → ChildSpec → S → Drawing J S
  Above : Drawing J S → ChildSpec → Drawing J S → Drawing J S
  Template : Drawing J S → ChildSpec → Drawing J S

module _ {J S : Type 0} where
  -- how many supervisors it has
  abbrev pub count : Drawing J S → ℕ
  count (Alone flags) = 1
  count (Worker d spec job) = count d
  count (Bridge d spec subsystem) = count d
  count (Above d spec sub) = count d + count sub
  count (Template d spec) = count d

  abbrev pub flags_of : Drawing J S → SupFlags
  flags_of (Alone flags) = flags
  flags_of (Worker d spec job) = flags_of d
  flags_of (Bridge d spec subsystem) = flags_of d
  flags_of (Above d spec sub) = flags_of d
  flags_of (Template d spec) = flags_of d

  -- the specifications of the top's children
  abbrev pub specs_of : Drawing J S → List ChildSpec
  specs_of (Alone flags) = []
  specs_of (Worker d spec job) = specs_of d ++ spec ∷ []
  specs_of (Bridge d spec subsystem) = specs_of d ++ spec ∷ []
  specs_of (Above d spec sub) = specs_of d ++ spec ∷ []
  specs_of (Template d spec) = specs_of d ++ spec ∷ []

  -- what they run, where the top has this number: a child that is a supervisor has the number that follows those of all
  -- supervisors that were there before it was added
  abbrev pub bodies_of : ℕ → Drawing J S → List (Body J S)
  bodies_of number (Alone flags) = []
  bodies_of number (Worker d spec job) = bodies_of number d ++ body.Worker job ∷ []
  bodies_of number (Bridge d spec subsystem) = bodies_of number d ++ body.Bridge (record { subsystem = subsystem; phase = New }) ∷ []
  bodies_of number (Above d spec sub) = bodies_of number d ++ body.Sup (number + count d) ∷ []
  bodies_of number (Template d spec) = bodies_of number d

  -- the top, where it has this number
  abbrev pub top : ℕ → Drawing J S → Planned J S
  top number d = record { supervisor = record { flags = flags_of d; specs = specs_of d }; bodies = bodies_of number d }

  -- the supervisors below the top, where that has this number
  abbrev pub below : ℕ → Drawing J S → List (Planned J S)
  below number (Alone flags) = []
  below number (Worker d spec job) = below number d
  below number (Bridge d spec subsystem) = below number d
  below number (Above d spec sub) = below number d ++ top (number + count d) sub ∷ below (number + count d) sub
  below number (Template d spec) = below number d

  -- all its supervisors in the order of their numbers, where the top has this one
  abbrev pub walk : ℕ → Drawing J S → List (Planned J S)
  walk number d = top number d ∷ below number d

  -- the tree that is drawn up so
  abbrev pub tree_of : Drawing J S → Tree J S
  tree_of (Alone flags) = alone flags
  tree_of (Worker d spec job) = with_body spec (body.Worker job) (tree_of d)
  tree_of (Bridge d spec subsystem) = with_body spec (body.Bridge (record { subsystem = subsystem; phase = New })) (tree_of d)
  tree_of (Above d spec sub) = with_tree spec (tree_of sub) (tree_of d)
  tree_of (Template d spec) = with_template spec (tree_of d)

-- the plan of each tree has its supervisors in the order of the walk, each under its number there, with its flags,
-- specifications and bodies
abbrev pub TreesAreWalked : Type 0 → Type 0 → Type 0
TreesAreWalked J S = (number : ℕ) (d : Drawing J S) → numbered number (plans_of (tree_of d)) ≡ walk number d
