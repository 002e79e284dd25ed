use Rattle.std.proofs.Common.{◌≡◌, List, ap, ◌∙◌, get_or, map}
use Rattle.std.specs.Prelude.{is_some}
use Rattle.otp_bodies.specs.declared.bodies.Kept.{Kept}
use Rattle.otp_bodies.specs.Bodies.{BodiesView, is_here}
use Rattle.otp_bodies.proofs.Stored.{stored_moved}
use Rattle.otp_bodies.proofs.bodies.Bodies.move_to.Goals as goal

pub invariant_of-self : goal.invariant_of-self
invariant_of-self g c =
    let xs : List Kept = c.self.inside.kept.items in
    let now : Kept = c.index_mut.result.now in
    let here : is_here now.place ≡ is_here c.args.to = ap (λ (k : Kept). is_here k.place) c.index_mut.ensures.value
    ∙ ap (λ (v : BodiesView). is_here (get_or v.kept c.args.at now).place) c.self.view_is ∙ c.requires.here now in
    (stored_moved (map is_some c.self.inside.bodies.items) xs c.args.at now c.args.to c.index_mut.ensures.value here c.self.invariant.0, tt)
