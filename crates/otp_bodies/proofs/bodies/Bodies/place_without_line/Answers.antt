use Rattle.std.proofs.Common.{◌≡◌, List, Some, None, Bool, ap, sym, ◌∙◌}
use Rattle.std.specs.Prelude.{position, if◌then◌else◌}
use Rattle.otp_bodies.specs.declared.bodies.Kept.{Kept}
use Rattle.otp_bodies.specs.declared.bodies.BodyPlace.TheVariants as placed
use Rattle.otp_bodies.specs.Bodies.{BodiesView, is_at_home, stray}
use Rattle.otp_bodies.proofs.Keeping.{any_at, first_at, none_passes}
use Rattle.otp_bodies.proofs.bodies.Bodies.place_without_line.Goals as goal

pub returns-in-Some-clause-place : goal.returns-in-Some-clause-place
returns-in-Some-clause-place g c =
    let xs : List Kept = c.args.self.now.kept in
    let t : Kept → Bool = is_at_home c.args.slot in
    let same = c.deref.ensures.value ∙ ap (λ (v : BodiesView). v.kept) c.self.view_is in
    let at : position t xs ≡ Some c.in-Some.field-0 = ap (λ (l : List Kept). position t l) (sym same) ∙ sym c.find_home.ensures ∙ c.in-Some.is in
    sym (ap (λ (b : Bool). if b then placed.Free else placed.Home c.args.slot) (any_at t xs c.in-Some.field-0 stray (first_at t xs c.in-Some.field-0 stray at)))

pub returns-in-None-clause-place : goal.returns-in-None-clause-place
returns-in-None-clause-place g c =
    let xs : List Kept = c.args.self.now.kept in
    let t : Kept → Bool = is_at_home c.args.slot in
    let same = c.deref.ensures.value ∙ ap (λ (v : BodiesView). v.kept) c.self.view_is in
    let at : position t xs ≡ None = ap (λ (l : List Kept). position t l) (sym same) ∙ sym c.find_home.ensures ∙ c.in-None.is in
    sym (ap (λ (b : Bool). if b then placed.Free else placed.Home c.args.slot) (none_passes t xs at))
