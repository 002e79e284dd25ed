-- A supervisor that is drawn up child by child. (own)
use Rattle.std.specs.Prelude.{List}
use Rattle.otp_job.specs.declared.body.Body.{Body}
use Rattle.otp_reason.specs.declared.name.Name.{Name}
use Rattle.otp_spec.specs.Children.{default_spec_of}
use Rattle.otp_spec.specs.declared.child.ChildSpec.{ChildSpec}
use Rattle.otp_spec.specs.declared.child.ChildType.TheVariants.{Supervisor}

-- the specifications of its children in start order, and what each runs
pub record Draft (J S : Type 0) : Type 0 where
  pub specs : List ChildSpec
  pub bodies : List (Body J S)

-- the specification of a child that is a supervisor (supervisor, child specification: type, shutdown)
abbrev pub nested_spec : Name → ChildSpec
nested_spec id = default_spec_of Supervisor id id
