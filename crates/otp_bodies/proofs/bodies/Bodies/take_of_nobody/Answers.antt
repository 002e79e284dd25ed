use Rattle.std.proofs.Common.{List, ap, ◌∙◌}
use Rattle.std.specs.Prelude.{position}
use Rattle.std.proofs.lemmas.Bool.{and_parts}
use Rattle.otp_bodies.specs.declared.bodies.Kept.{Kept}
use Rattle.otp_bodies.specs.Bodies.{is_stray, BodiesView}
use Rattle.otp_bodies.proofs.Keeping.{free_is_here}
use Rattle.otp_bodies.proofs.bodies.Bodies.take_of_nobody.Goals as goal

pub returns-clause-kept : goal.returns-clause-kept
returns-clause-kept g c =
    c.take_first.ensures.kept (is_stray)
    (c.find_stray-at.ensures ∙ ap (λ (l : List Kept). position (is_stray) l) (c.deref.ensures.value ∙ ap (λ (v : BodiesView). v.kept) c.self.view_is))

pub returns-clause-body : goal.returns-clause-body
returns-clause-body g c =
    c.take_first.ensures.body (is_stray)
    (c.find_stray-at.ensures ∙ ap (λ (l : List Kept). position (is_stray) l) (c.deref.ensures.value ∙ ap (λ (v : BodiesView). v.kept) c.self.view_is))
    (λ b is. free_is_here b (and_parts _ _ is).1)
