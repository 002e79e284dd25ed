-- After an event a specification's body is no child's but that one's in the slot of its place.
use Rattle.std.specs.Prelude.{◌++◌, List, [], ◌∷◌, refl}
use Rattle.std.proofs.lemmas.Bool.{cond_both}
use Rattle.otp_rules.specs.declared.event.Item.TheVariants as item
use Rattle.otp_rules.specs.declared.event.Kind.{Kind}
use Rattle.otp_rules.specs.declared.event.Kind.TheVariants as kind
use Rattle.otp_rules.specs.Homes.{is_start_call}
use Rattle.otp_rules.specs.State.{State}
use Rattle.otp_bodies.specs.declared.bodies.Kept.{Kept}
use Rattle.otp_bodies.specs.declared.bodies.Origin.TheVariants as origin
use Rattle.otp_bodies.specs.Letters.{is_end_note}
use Rattle.otp_sup.specs.Moves.{bodies_after, home_of, is_taken_up, is_waited_for, received, slot_given}
use Rattle.otp_bodies.specs.Bodies.{came_for, opened_place, place_of_call, settled, taken_up}
use Rattle.otp_bodies.specs.Events.{is_any_waiting}
use Rattle.otp_bodies.proofs.Owned.{AreOwn, came_own, mapped_own, opened_own, put_own, settled_own, up_own}
use Rattle.otp_bodies.specs.declared.bodies.Origin.TheVariants as origin

-- and so after each event
pub own_after : (s later : State) (k : Kind) (kept : List Kept) → AreOwn kept → AreOwn (bodies_after s later k kept)
own_after s later (kind.Opened own) kept h =
    mapped_own (λ (b : Kept). record b { place = opened_place later.rows b.origin b.place }) (settled [] (is_any_waiting later) kept) (λ b is. opened_own later.rows b.origin b.place is) (settled_own [] (is_any_waiting later) kept h)
own_after s later (kind.Took (item.Note x)) kept h =
    settled_own later.rows (is_any_waiting later) (received s later.rows (item.Note x) kept) (cond_both (is_end_note x) (came_for (home_of s x) kept) kept AreOwn (λ _. came_own (home_of s x) kept h) (λ _. h))
own_after s later (kind.Took (item.Call c x)) kept h =
    let b : Kept = record { origin = origin.Call c; place = place_of_call (is_waited_for s) (slot_given s.rows later.rows) } in
    settled_own later.rows (is_any_waiting later) (received s later.rows (item.Call c x) kept) (cond_both (is_start_call x) (kept ++ b ∷ []) kept AreOwn (λ _. put_own kept b refl h) (λ _. h))
own_after s later kind.Resumed kept h =
    settled_own later.rows (is_any_waiting later) (taken_up (is_taken_up s) (slot_given s.rows later.rows) kept) (up_own (is_taken_up s) (slot_given s.rows later.rows) kept h)
own_after s later kind.Ticked kept h = settled_own later.rows (is_any_waiting later) kept h
own_after s later kind.Stopped kept h = settled_own later.rows (is_any_waiting later) kept h
