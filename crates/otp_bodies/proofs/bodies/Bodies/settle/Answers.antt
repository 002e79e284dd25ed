use Rattle.std.proofs.Common.{List, sym, subst, map}
use Rattle.std.specs.Prelude.{is_some}
use Rattle.otp_bodies.specs.declared.bodies.Kept.{Kept}
use Rattle.otp_bodies.specs.Bodies.{IsStored}
use Rattle.otp_bodies.specs.Loose.{IsOnlyLoose}
use Rattle.otp_bodies.proofs.Stored.{stored_settled}
use Rattle.otp_bodies.proofs.bodies.Bodies.settle.Goals as goal

pub invariant_of-self : goal.invariant_of-self
invariant_of-self g c =
    let Of : List Kept → Type 0 = λ l. IsStored (map is_some c.self.inside.bodies.items) l in (
      subst Of (sym c.settle_items.ensures) (stored_settled (map is_some c.self.inside.bodies.items) c.args.rows.now c.args.is_any_waiting c.self.inside.kept.items c.self.invariant.0),
      subst (λ (l : List Kept). IsOnlyLoose c.only_loose-self-inside.result l) c.deref.ensures.value c.only_loose-self-inside.ensures,
    )
