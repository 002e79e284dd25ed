-- A tree that is drawn up by value: a supervisor, its children, and the supervisors below it. (own)
use Rattle.std.specs.Prelude.{ℕ, ◌+◌, List, [], ◌∷◌, ◌++◌, length, max}
use Rattle.otp_job.specs.declared.body.Body.{Body}
use Rattle.otp_job.specs.declared.body.Body.TheVariants as body
use Rattle.otp_spec.specs.declared.child.ChildSpec.{ChildSpec}
use Rattle.otp_spec.specs.declared.flags.SupFlags.{SupFlags}
use Rattle.otp_draft.specs.Plans.{Planned}
use Rattle.otp_draft.specs.declared.paths.Nested.{Nested}

-- its flags, the specifications of its children in start order, and what they run; then all supervisors below it, each
-- before those below its own children. A child that is a supervisor is known by how many places that stands behind its
-- parent. Then which child of which parent each of those below is, and how many levels of supervisors there are
pub record Tree (J S : Type 0) : Type 0 where
  pub flags : SupFlags
  pub specs : List ChildSpec
  pub bodies : List (Body J S)
  pub below : List (Planned J S)
  pub nested : List Nested
  pub depth : ℕ

module _ {J S : Type 0} where
  -- a supervisor without children
  abbrev pub alone : SupFlags → Tree J S
  alone flags = record { flags = flags; specs = []; bodies = []; below = []; nested = []; depth = 1 }

  -- how many supervisors there are
  abbrev pub size : Tree J S → ℕ
  size t = length t.below + 1

  -- its supervisors: itself, and then those below it
  abbrev pub plans_of : Tree J S → List (Planned J S)
  plans_of t = record { supervisor = record { flags = t.flags; specs = t.specs }; bodies = t.bodies } ∷ t.below

  -- one more child that runs this
  abbrev pub with_body : ChildSpec → Body J S → Tree J S → Tree J S
  with_body spec runs t = record {
    flags = t.flags;
    specs = t.specs ++ spec ∷ [];
    bodies = t.bodies ++ runs ∷ [];
    below = t.below;
    nested = t.nested;
    depth = t.depth;
  }

  -- the specification of dynamic children
  abbrev pub with_template : ChildSpec → Tree J S → Tree J S
  with_template spec t = record {
    flags = t.flags;
    specs = t.specs ++ spec ∷ [];
    bodies = t.bodies;
    below = t.below;
    nested = t.nested;
    depth = t.depth;
  }

  -- one more child that is the top of another tree, whose supervisors stand behind all that were there
  abbrev pub with_tree : ChildSpec → Tree J S → Tree J S → Tree J S
  with_tree spec sub t = record {
    flags = t.flags;
    specs = t.specs ++ spec ∷ [];
    bodies = t.bodies ++ body.Sup (size t) ∷ [];
    below = t.below ++ plans_of sub;
    nested = t.nested ++ record { id = spec.id; behind = size t } ∷ sub.nested;
    depth = max t.depth (sub.depth + 1);
  }
