-- One supervisor of a tree that is planned. (own)
use Rattle.std.specs.Prelude.{◌≡◌, ℕ, ◌+◌, ◌<◌, ⊤, List, [], ◌∷◌, length, map, if◌then◌else◌}
use Rattle.otp_job.specs.declared.body.Body.{Body}
use Rattle.otp_job.specs.declared.body.Body.TheVariants as body
use Rattle.otp_spec.specs.Flags.{is_simple}
use Rattle.otp_spec.specs.Supervisor.{Supervisor}
use Rattle.otp_spec.specs.declared.child.ChildSpec.{ChildSpec}
use Rattle.otp_spec.specs.declared.flags.SupFlags.{SupFlags}
use Rattle.otp_spec.specs.declared.limits.TheConstants.{MAX_TABLES}
use Rattle.otp_draft.specs.declared.plan.DraftedTable.{DraftedTable}

-- how many children are handed a body: none where they are dynamic
-- (Supervisor Behaviour, Simplified one_for_one Supervisors)
abbrev pub wanted : SupFlags → List ChildSpec → ℕ
wanted flags specs = if is_simple flags.strategy then 0 else length specs

-- a supervisor, and what its children run, in their order. A child that is a supervisor is known by a number
pub record Planned (J S : Type 0) : Type 0 where
  pub supervisor : Supervisor
  pub bodies : List (Body J S)

module _ {J S : Type 0} where
  -- where the body is a supervisor, its number is below 64
  abbrev pub IsNear : Body J S → Type 0
  IsNear (body.Sup number) = number < MAX_TABLES
  IsNear _ = ⊤

  -- what a child of the supervisor with this number runs: before, the number of a nested supervisor says how many places
  -- it stands behind its parent; then, which it is
  abbrev pub body_at : ℕ → Body J S → Body J S
  body_at number (body.Sup ahead) = body.Sup (number + ahead)
  body_at number (body.Worker job) = body.Worker job
  body_at number (body.Bridge bridge) = body.Bridge bridge

  -- the supervisor with this number
  abbrev pub numbered_one : ℕ → Planned J S → Planned J S
  numbered_one number plan = record { supervisor = plan.supervisor; bodies = map (body_at number) plan.bodies }

  -- supervisors that are numbered from this number on
  abbrev pub numbered : ℕ → List (Planned J S) → List (Planned J S)
  numbered number [] = []
  numbered number (plan ∷ plans) = numbered_one number plan ∷ numbered (number + 1) plans

  -- the plan has a body for each child that its supervisor starts
  abbrev pub HasAllBodies : DraftedTable J S → Type 0
  HasAllBodies plan = length plan.bodies.items ≡ wanted plan.supervisor.flags plan.supervisor.specs

  -- what a plan says
  abbrev pub seen : DraftedTable J S → Planned J S
  seen plan = record { supervisor = plan.supervisor; bodies = plan.bodies.items }
