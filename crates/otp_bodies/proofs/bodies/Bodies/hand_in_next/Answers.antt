use Rattle.std.proofs.Common.{◌≡◌, List, Bool, ap, arith, refl, sym, subst, map, ◌++◌, ◌∷◌, ◌∙◌, [], Some}
use Rattle.std.specs.Prelude.{is_some}
use Rattle.otp_bodies.specs.declared.bodies.Kept.{Kept}
use Rattle.otp_bodies.specs.declared.bodies.Origin.TheVariants as origin
use Rattle.otp_bodies.specs.declared.bodies.BodyPlace.TheVariants as place
use Rattle.otp_bodies.specs.Bodies.{BodiesView, IsStored, count_given}
use Rattle.otp_bodies.proofs.Handed.{none_later}
use Rattle.otp_bodies.proofs.Stored.{stored_put}
use Rattle.otp_bodies.proofs.bodies.Bodies.hand_in_next.Goals as goal

pub invariant_of-self : goal.invariant_of-self
invariant_of-self g c =
    let Of : List Kept → Type 0 = λ l. IsStored (map is_some (c.self.inside.bodies.items ++ Some c.args.body ∷ [])) l in
    let Stored : List Bool → Type 0 = λ l. IsStored l c.push_reserved.new.self.items in
    let kept : c.self.inside.kept.items ≡ c.args.self.now.kept = ap (λ (v : BodiesView). v.kept) c.self.view_is in
    let new : count_given c.args.count c.self.inside.kept.items ≡ 0 = ap (λ (l : List Kept). count_given c.args.count l) (kept ∙ c.requires.handed) ∙ none_later c.args.count c.args.count (omega arith) in (
      subst Stored (sym (ap (λ l. map is_some l) c.push_reserved-2.ensures.items))
          (subst Of (sym c.push_reserved.ensures.items)
          (stored_put c.self.inside.kept.items c.self.inside.bodies.items (origin.Spec c.args.count) place.Free c.args.body refl new c.self.invariant.0)),
      tt,
    )
