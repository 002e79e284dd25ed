use Rattle.std.proofs.Common.{◌≡◌, ◌<◌, ◌≤◌, ◌++◌, ◌∷◌, [], ℕ, Bool, List, Option, ap, arith, get_or, length, subst, sym, true, ◌∙◌}
use Rattle.std.specs.Prelude.{if◌then◌else◌, is_some}
use Rattle.otp_bodies.specs.Bodies.{came_for, count_away, is_away, move_first, place_without_line, stray}
use Rattle.otp_bodies.specs.declared.bodies.Kept.{Kept}
use Rattle.otp_bodies.specs.declared.bodies.Origin.TheVariants as origin
use Rattle.otp_bodies.specs.declared.bodies.BodyPlace.{BodyPlace}
use Rattle.otp_bodies.specs.declared.bodies.BodyPlace.TheVariants as placed
use Rattle.otp_bodies.proofs.Few.{first_of_few, put_is}
use Rattle.otp_bodies.proofs.Keeping.{IsFirstAt, any_at, moved_at}
use Rattle.otp_reason.specs.declared.note.Note.{Note}
use Rattle.otp_rules.specs.State.{State}
use Rattle.otp_rules.specs.declared.event.Item.TheVariants as item
use Rattle.otp_rules.specs.declared.event.Kind.{Kind}
use Rattle.otp_rules.specs.declared.event.Kind.TheVariants as kind
use Rattle.otp_sup.specs.Moves.{brings_body, home_by, home_of, moved}
use Rattle.otp_table.specs.declared.row.Row.{Row}
use Rattle.otp_sup.proofs.moves.move_bodies.Goals as goal

-- a note that brings a body is that of an end
moved_by_end : (s : State) (rows : List Row) (k : Kind) (x : Note) (kept : List Kept) → k ≡ kind.Took (item.Note x) → brings_body k ≡ true → moved s rows k kept ≡ came_for (home_by s k) kept
moved_by_end s rows k x kept is =
    subst (λ j. brings_body j ≡ true → moved s rows j kept ≡ came_for (home_by s j) kept) (sym is)
    (λ brings. ap (λ (b : Bool). if b then came_for (home_of s x) kept else kept) brings)

pub returns-in-Some-home : goal.returns-in-Some-home
returns-in-Some-home g c = λ s rows plan slot_is.
    let kept : List Kept = c.args.bodies.now.kept in
    let slot : ℕ = c.in-Some-home.slot in
    let t : Kept → Bool = is_away slot in
    let home : BodyPlace = placed.Home slot in
    let within : slot < length kept = c.is_away_at.ensures.within c.if-is_away_at.true in
    let here : t (get_or kept slot stray) ≡ true = c.is_away_at.ensures.away c.if-is_away_at.true stray in
    let few : count_away slot kept ≤ 1 = let one = c.requires.one_body slot in omega (arith, one) in
    let first : IsFirstAt t kept slot stray = first_of_few t kept slot stray within here few in
    let there : List Kept = move_first t home kept in
    let put : List Kept = kept ++ record { origin = origin.Nobody; place = place_without_line slot kept } ∷ [] in
    c.come_back.ensures ∙ put_is kept slot slot stray within ∙ moved_at t home kept slot stray first
    ∙ sym (ap (λ (b : Bool). if b then there else put) (any_at t kept slot stray first))
    ∙ ap (λ (h : Option ℕ). came_for h kept) (sym c.in-Some-home.is ∙ plan.home)
    ∙ sym (moved_by_end s rows c.args.kind.now c.in-Took-Note.field-0-0 kept (c.in-Took-Note.is ∙ ap kind.Took (rw c.in-Took-Note.is at c.in-Took-Note.field-0-is))
    (sym c.requires.carries ∙ ap is_some c.in-Some.is))
