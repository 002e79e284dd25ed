use Rattle.std.proofs.Common.{List, Bool, ap, sym, subst, ◌∙◌, arith, get_or, map, length}
use Rattle.std.specs.Prelude.{is_some, remove}
use Rattle.otp_bodies.specs.declared.bodies.Kept.{Kept}
use Rattle.otp_bodies.specs.Bodies.{BodiesView, IsStored, is_here}
use Rattle.otp_bodies.proofs.Keeping.{here_at}
use Rattle.otp_bodies.proofs.Stored.{stored_removed}
use Rattle.otp_bodies.proofs.bodies.Bodies.take.Goals as goal

pub invariant_of-self : goal.invariant_of-self
invariant_of-self g c =
    let len = ap (λ (v : BodiesView). length v.kept) c.self.view_is in
    let Of : List Kept → Type 0 = λ l. IsStored (map is_some (remove c.self.inside.bodies.items c.args.at)) l in
    let Stored : List Bool → Type 0 = λ l. IsStored l c.remove.new.self.items in (
      subst Stored (sym (ap (λ l. map is_some l) c.remove-2.ensures.items))
          (subst Of (sym c.remove.ensures.items)
          (stored_removed c.self.inside.kept.items c.self.inside.bodies.items c.args.at (omega (arith, c.requires, len)) c.self.invariant.0)),
      tt,
    )

pub returns-clause-body : goal.returns-clause-body
returns-clause-body g c = λ d.
    let len = ap (λ (v : BodiesView). length v.kept) c.self.view_is in
    here_at c.self.inside.kept.items c.self.inside.bodies.items c.args.at c.remove-2.result d c.self.invariant.0.here (omega (arith, c.requires, len)) c.remove-2.ensures.value
    ∙ ap (λ (v : BodiesView). is_here (get_or v.kept c.args.at d).place) c.self.view_is
