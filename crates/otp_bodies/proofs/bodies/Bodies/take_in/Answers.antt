use Rattle.std.proofs.Common.{List, ap, arith, length, subst}
use Rattle.otp_bodies.specs.Bodies.{BodiesView}
use Rattle.otp_bodies.specs.declared.bodies.Kept.{Kept}
use Rattle.otp_bodies.proofs.OnlyLoose.{IsOnlyAt, set_only}
use Rattle.otp_bodies.proofs.Stored.{stored_in}
use Rattle.otp_bodies.proofs.bodies.Bodies.take_in.Goals as goal

pub invariant_of-self : goal.invariant_of-self
invariant_of-self g c =
    let len = ap (λ (v : BodiesView). length v.kept) c.self.view_is in (
      stored_in c.self.inside.kept.items c.self.inside.bodies.items c.args.at c.index_mut.result.now c.args.to c.args.body c.index_mut.ensures.value c.requires.here c.self.invariant.0,
      set_only c.only_at-self-inside.result c.self.inside.kept.items c.args.at _ (omega (arith, c.requires.within, len)) (subst (λ (l : List Kept). IsOnlyAt c.args.at l c.only_at-self-inside.result) c.deref.ensures.value c.only_at-self-inside.ensures),
    )
