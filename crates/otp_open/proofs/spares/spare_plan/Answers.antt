use Rattle.std.proofs.Common.{List, subst, sym}
use Rattle.otp_spec.specs.Flags.{default_flags}
use Rattle.otp_spec.specs.Supervisor.{IsLawful}
use Rattle.otp_spec.specs.declared.child.ChildSpec.{ChildSpec}
use Rattle.otp_spec.specs.declared.flags.SupFlags.{SupFlags}
use Rattle.otp_open.proofs.SparePlaces.{spare_lawful}
use Rattle.otp_open.proofs.spares.spare_plan.Goals as goal

pub new-requires-2 : goal.new-requires-2
new-requires-2 g c =
    subst (λ (flags : SupFlags). IsLawful flags c.new.result.items) (sym c.default.ensures)
    (subst (λ (specs : List ChildSpec). IsLawful default_flags specs) (sym c.new.ensures.items) spare_lawful)
