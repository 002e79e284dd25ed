-- A child of each kind, with the manual's default for every key.
use Rattle.std.specs.Prelude.{ℕ, List}
use Rattle.otp_spec.specs.declared.child.ChildType.TheVariants as kind
use Rattle.otp_draft.specs.Children.{default_keys, named}
use Rattle.otp_draft.specs.Trees.{Tree}
use Rattle.otp_draft.specs.declared.child.Child.{Child}
use Rattle.otp_draft.specs.declared.child.Runs.TheVariants as runs

module _ {J S : Type 0} where
  -- a worker with this id that runs this job
  abbrev pub worker_of : List ℕ → J → Child J S
  worker_of id job = record { keys = default_keys (named id) kind.Worker; runs = runs.Worker job }

  -- a bridge to this subsystem
  abbrev pub bridge_of : List ℕ → S → Child J S
  bridge_of id subsystem = record { keys = default_keys (named id) kind.Worker; runs = runs.Bridge subsystem }

  -- a supervisor with all that is below it
  abbrev pub supervisor_of : List ℕ → Tree J S → Child J S
  supervisor_of id tree = record { keys = default_keys (named id) kind.Supervisor; runs = runs.Supervisor tree }

  -- the specification of dynamic children
  abbrev pub template_of : List ℕ → Child J S
  template_of id = record { keys = default_keys (named id) kind.Worker; runs = runs.Template }
