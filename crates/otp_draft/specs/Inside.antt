-- What is true of each tree that is drawn up. (own)
use Rattle.std.specs.Prelude.{◌≡◌, ◌<◌, ◌≤◌, ℕ, List, All, length}
use Rattle.otp_job.specs.declared.body.Body.{Body}
use Rattle.otp_spec.specs.declared.child.ChildSpec.{ChildSpec}
use Rattle.otp_spec.specs.declared.flags.SupFlags.{SupFlags}
use Rattle.otp_spec.specs.declared.limits.TheConstants.{MAX_CHILDREN, MAX_TABLES}
use Rattle.otp_draft.specs.Plans.{IsNear, Planned, wanted}
use Rattle.otp_draft.specs.declared.limits.TheConstants.{MAX_DEPTH}
use Rattle.otp_draft.specs.declared.paths.Nested.{Nested}

pub record IsDraft {J S : Type 0} (flags : SupFlags) (specs : List ChildSpec) (bodies : List (Body J S)) (below : List (Planned J S)) (nested : List Nested) (depth : ℕ) : Type 0 where
  -- with itself there are at most 64 supervisors
  pub tables : length below < MAX_TABLES
  -- of each below it is known whose child it is
  pub nested_all : length nested ≡ length below
  pub levels : depth ≤ MAX_DEPTH
  pub children : length specs ≤ MAX_CHILDREN
  pub count : length bodies ≡ wanted flags specs
  pub near : All IsNear bodies
