use Rattle.std.proofs.Common.{List, Bool, ap, sym, subst, map}
use Rattle.std.specs.Prelude.{is_some}
use Rattle.otp_bodies.specs.declared.bodies.Kept.{Kept}
use Rattle.otp_bodies.specs.Bodies.{IsStored}
use Rattle.otp_bodies.specs.Loose.{IsOnlyLoose}
use Rattle.otp_bodies.proofs.bodies.Bodies.prepare.Goals as goal

pub invariant_of-self : goal.invariant_of-self
invariant_of-self g c =
    let Of : List Kept → Type 0 = λ l. IsStored (map is_some c.self.inside.bodies.items) l in
    let Only : List Kept → Type 0 = λ l. IsOnlyLoose c.self.inside.only l in
    (subst Of (sym c.reserve.ensures.items) c.self.invariant.0, subst Only (sym c.reserve.ensures.items) c.self.invariant.1)

pub invariant_of-self-2 : goal.invariant_of-self-2
invariant_of-self-2 g c =
    let Of : List Kept → Type 0 = λ l. IsStored (map is_some c.self.inside.bodies.items) l in
    let Stored : List Bool → Type 0 = λ l. IsStored l c.reserve.new.self.items in
    let Only : List Kept → Type 0 = λ l. IsOnlyLoose c.self.inside.only l in (
      subst Stored (sym (ap (λ l. map is_some l) c.reserve-2.ensures.items)) (subst Of (sym c.reserve.ensures.items) c.self.invariant.0),
      subst Only (sym c.reserve.ensures.items) c.self.invariant.1,
    )
