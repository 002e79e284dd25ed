use Rattle.std.proofs.Common.{◌≡◌, ◌++◌, ◌∷◌, [], List, Some, None, Bool, ap, sym, ◌∙◌}
use Rattle.std.specs.Prelude.{position, if◌then◌else◌}
use Rattle.otp_bodies.specs.declared.bodies.Kept.{Kept}
use Rattle.otp_bodies.specs.declared.bodies.BodyPlace.TheVariants as placed
use Rattle.otp_bodies.specs.Bodies.{BodiesView, is_away, move_first, place_without_line, stray}
use Rattle.otp_bodies.specs.declared.bodies.BodyPlace.{BodyPlace}
use Rattle.otp_bodies.specs.declared.bodies.Origin.TheVariants as origin
use Rattle.otp_bodies.proofs.Keeping.{IsFirstAt, any_at, first_at, moved_at, none_passes}
use Rattle.otp_bodies.proofs.bodies.Bodies.come_home.Goals as goal

pub returns-in-Some : goal.returns-in-Some
returns-in-Some g c =
    let xs : List Kept = c.args.self.now.kept in
    let t : Kept → Bool = is_away c.args.slot in
    let same : c.deref.result.now ≡ xs = c.deref.ensures.value ∙ ap (λ (v : BodiesView). v.kept) c.self.view_is in
    let at : position t xs ≡ Some c.in-Some.at = ap (λ (l : List Kept). position t l) (sym same) ∙ sym c.find_away.ensures ∙ c.in-Some.is in
    let first : IsFirstAt t xs c.in-Some.at stray = first_at t xs c.in-Some.at stray at in
    c.take_in.ensures stray ∙ moved_at t (placed.Home c.args.slot) xs c.in-Some.at stray first
    ∙ sym (ap (λ (b : Bool). if b then move_first t (placed.Home c.args.slot) xs else xs ++ record { origin = origin.Nobody; place = place_without_line c.args.slot xs } ∷ []) (any_at t xs c.in-Some.at stray first))

pub returns-in-None : goal.returns-in-None
returns-in-None g c =
    let xs : List Kept = c.args.self.now.kept in
    let t : Kept → Bool = is_away c.args.slot in
    let same : c.deref.result.now ≡ xs = c.deref.ensures.value ∙ ap (λ (v : BodiesView). v.kept) c.self.view_is in
    let at : position t xs ≡ None = ap (λ (l : List Kept). position t l) (sym same) ∙ sym c.find_away.ensures ∙ c.in-None.is in
    c.put.ensures ∙ ap (λ (p : BodyPlace). xs ++ record { origin = origin.Nobody; place = p } ∷ []) c.place_without_line-place.ensures.place
    ∙ sym (ap (λ (b : Bool). if b then move_first t (placed.Home c.args.slot) xs else xs ++ record { origin = origin.Nobody; place = place_without_line c.args.slot xs } ∷ []) (none_passes t xs at))
