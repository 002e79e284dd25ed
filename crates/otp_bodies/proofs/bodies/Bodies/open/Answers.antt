use Rattle.std.proofs.Common.{List, sym, subst, map}
use Rattle.std.specs.Prelude.{is_some}
use Rattle.otp_bodies.specs.declared.bodies.Kept.{Kept}
use Rattle.otp_bodies.specs.Bodies.{IsStored}
use Rattle.otp_bodies.proofs.Stored.{stored_opened}
use Rattle.otp_bodies.proofs.bodies.Bodies.open.Goals as goal

pub invariant_of-self : goal.invariant_of-self
invariant_of-self g c =
    let Of : List Kept → Type 0 = λ l. IsStored (map is_some c.self.inside.bodies.items) l in
    (subst Of (sym c.open_items.ensures) (stored_opened (map is_some c.self.inside.bodies.items) c.args.rows.now c.self.inside.kept.items c.self.invariant.0), tt)
