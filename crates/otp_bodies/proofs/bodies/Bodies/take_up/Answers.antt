use Rattle.std.proofs.Common.{◌≡◌, List, Some, None, Bool, ap, sym, ◌∙◌, get_or}
use Rattle.std.specs.Prelude.{position}
use Rattle.otp_bodies.specs.declared.bodies.Kept.{Kept}
use Rattle.otp_bodies.specs.declared.bodies.BodyPlace.{BodyPlace}
use Rattle.otp_bodies.specs.Bodies.{BodiesView, home_or_free, is_waiting, move_first, stray}
use Rattle.otp_bodies.proofs.Keeping.{IsFirstAt, first_at, move_none, moved_at, none_passes, waiting_is_here}
use Rattle.otp_bodies.proofs.bodies.Bodies.take_up.Goals as goal

pub returns-in_default : goal.returns-in_default
returns-in_default g c =
    let xs : List Kept = c.args.self.now.kept in
    let t : Kept → Bool = is_waiting in
    let same : c.deref.result.now ≡ xs = c.deref.ensures.value ∙ ap (λ (v : BodiesView). v.kept) c.self.view_is in
    let at : position t xs ≡ None = ap (λ (l : List Kept). position t l) (sym same) ∙ sym c.find_waiting.ensures ∙ c.in_default.is in
    sym (move_none t (home_or_free c.args.slot) xs (none_passes t xs at))

pub move_to-requires-clause-here : goal.move_to-requires-clause-here
move_to-requires-clause-here g c = λ d.
    let xs : List Kept = c.args.self.now.kept in
    let t : Kept → Bool = is_waiting in
    let same : c.deref.result.now ≡ xs = c.deref.ensures.value ∙ ap (λ (v : BodiesView). v.kept) c.self.view_is in
    let at : position t xs ≡ Some c.in-Some.at = ap (λ (l : List Kept). position t l) (sym same) ∙ sym c.find_waiting.ensures ∙ c.in-Some.is in
    let first : IsFirstAt t xs c.in-Some.at d = first_at t xs c.in-Some.at d at in
    waiting_is_here (get_or xs c.in-Some.at d).origin (get_or xs c.in-Some.at d).place first.passes ∙ sym c.home_or_free.ensures.here

pub returns : goal.returns
returns g c =
    let xs : List Kept = c.args.self.now.kept in
    let t : Kept → Bool = is_waiting in
    let to : BodyPlace = c.home_or_free.result in
    let same : c.deref.result.now ≡ xs = c.deref.ensures.value ∙ ap (λ (v : BodiesView). v.kept) c.self.view_is in
    let at : position t xs ≡ Some c.in-Some.at = ap (λ (l : List Kept). position t l) (sym same) ∙ sym c.find_waiting.ensures ∙ c.in-Some.is in
    let first : IsFirstAt t xs c.in-Some.at stray = first_at t xs c.in-Some.at stray at in
    c.move_to.ensures stray ∙ moved_at t to xs c.in-Some.at stray first ∙ ap (λ (p : BodyPlace). move_first t p xs) c.home_or_free.ensures.place
