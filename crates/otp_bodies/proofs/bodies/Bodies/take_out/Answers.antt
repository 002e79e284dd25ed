use Rattle.std.proofs.Common.{List, Bool, ap, sym, subst, ◌∙◌, arith, get_or, map, length}
use Rattle.std.specs.Prelude.{is_some, slice_set}
use Rattle.otp_bodies.specs.Bodies.{BodiesView, IsStored, is_here}
use Rattle.otp_bodies.proofs.Keeping.{here_at}
use Rattle.otp_bodies.specs.declared.bodies.Kept.{Kept}
use Rattle.otp_bodies.proofs.OnlyLoose.{IsOnlyAt, set_only}
use Rattle.otp_bodies.proofs.Stored.{stored_out}
use Rattle.otp_bodies.proofs.bodies.Bodies.take_out.Goals as goal

pub invariant_of-self : goal.invariant_of-self
invariant_of-self g c =
    let Stored : List Bool → Type 0 = λ l. IsStored l (slice_set c.self.inside.kept.items c.args.at (record { origin = c.index_mut.result.now.origin; place = c.args.to })) in
    let len = ap (λ (v : BodiesView). length v.kept) c.self.view_is in (
      subst Stored (sym (ap (λ b. map is_some (slice_set c.self.inside.bodies.items c.args.at b)) c.take.ensures.after))
          (stored_out c.self.inside.kept.items c.self.inside.bodies.items c.args.at c.index_mut.result.now c.args.to c.index_mut.ensures.value c.requires.away c.self.invariant.0),
      set_only c.only_at-self-inside.result c.self.inside.kept.items c.args.at _ (omega (arith, c.requires.within, len)) (subst (λ (l : List Kept). IsOnlyAt c.args.at l c.only_at-self-inside.result) c.deref.ensures.value c.only_at-self-inside.ensures),
    )

pub returns-clause-body : goal.returns-clause-body
returns-clause-body g c = λ d.
    let len = ap (λ (v : BodiesView). length v.kept) c.self.view_is in
    ap is_some c.take.ensures.value
    ∙ here_at c.self.inside.kept.items c.self.inside.bodies.items c.args.at c.index_mut-2.result.now d c.self.invariant.0.here (omega (arith, c.requires.within, len)) c.index_mut-2.ensures.value
    ∙ ap (λ (v : BodiesView). is_here (get_or v.kept c.args.at d).place) c.self.view_is
