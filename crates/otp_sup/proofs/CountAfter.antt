-- How many bodies a supervisor has after an event.
use Rattle.std.specs.Prelude.{◌≡◌, ℕ, ◌+◌, ◌++◌, Bool, List, [], ◌∷◌}
use Rattle.std.proofs.Common.{◌∙◌, ap, arith}
use Rattle.std.proofs.lemmas.Bool.{cond_both}
use Rattle.otp_rules.specs.declared.event.Item.TheVariants as item
use Rattle.otp_rules.specs.declared.event.Kind.{Kind}
use Rattle.otp_rules.specs.declared.event.Kind.TheVariants as kind
use Rattle.otp_rules.specs.Homes.{is_start_call}
use Rattle.otp_rules.specs.State.{State}
use Rattle.otp_table.specs.declared.row.Row.{Row}
use Rattle.otp_bodies.specs.declared.bodies.Kept.{Kept}
use Rattle.otp_bodies.specs.declared.bodies.Origin.TheVariants as origin
use Rattle.otp_bodies.specs.Letters.{is_end_note, one_if}
use Rattle.otp_sup.specs.Moves.{bodies_after, brings_body, home_of, is_taken_up, is_waited_for, let_go, moved, slot_given}
use Rattle.otp_bodies.specs.Bodies.{bodies_in, came_for, place_of_call, settled}
use Rattle.otp_bodies.specs.Events.{is_any_waiting}
use Rattle.otp_bodies.proofs.CountBodies.{call_here, came_count, opened_count, put_count, settled_count, taken_count}
use Rattle.otp_bodies.specs.declared.bodies.Origin.TheVariants as origin

moved_bodies : (s : State) (rows : List Row) (k : Kind) (kept : List Kept) → bodies_in (moved s rows k kept) ≡ bodies_in kept + one_if (brings_body k)
moved_bodies s rows (kind.Opened own) kept = omega arith
moved_bodies s rows (kind.Took (item.Note x)) kept =
    cond_both (is_end_note x) (came_for (home_of s x) kept) kept (λ (l : List Kept). bodies_in l ≡ bodies_in kept + one_if (is_end_note x))
    (λ e. let n : ◌≡◌ {A = ℕ} (one_if (is_end_note x)) 1 = ap (λ (b : Bool). one_if b) e in omega (arith, n, came_count (home_of s x) kept))
    (λ e. let n : ◌≡◌ {A = ℕ} (one_if (is_end_note x)) 0 = ap (λ (b : Bool). one_if b) e in omega (arith, n))
moved_bodies s rows (kind.Took (item.Call c call)) kept =
    let b : Kept = record { origin = origin.Call c; place = place_of_call (is_waited_for s) (slot_given s.rows rows) } in
    cond_both (is_start_call call) (kept ++ b ∷ []) kept (λ (l : List Kept). bodies_in l ≡ bodies_in kept + one_if (is_start_call call))
    (λ e. let n : ◌≡◌ {A = ℕ} (one_if (is_start_call call)) 1 = ap (λ (b : Bool). one_if b) e in omega (arith, n, put_count kept b (call_here (is_waited_for s) (slot_given s.rows rows))))
    (λ e. let n : ◌≡◌ {A = ℕ} (one_if (is_start_call call)) 0 = ap (λ (b : Bool). one_if b) e in omega (arith, n))
moved_bodies s rows kind.Resumed kept = omega (arith, taken_count (is_taken_up s) (slot_given s.rows rows) kept)
moved_bodies s rows kind.Ticked kept = omega arith
moved_bodies s rows kind.Stopped kept = omega arith

let_go_count : (later : State) (k : Kind) (kept : List Kept) → bodies_in (let_go later k kept) ≡ bodies_in kept
let_go_count later (kind.Opened own) kept = opened_count later.rows (settled [] (is_any_waiting later) kept) ∙ settled_count [] (is_any_waiting later) kept
let_go_count later (kind.Took x) kept = settled_count later.rows (is_any_waiting later) kept
let_go_count later kind.Resumed kept = settled_count later.rows (is_any_waiting later) kept
let_go_count later kind.Ticked kept = settled_count later.rows (is_any_waiting later) kept
let_go_count later kind.Stopped kept = settled_count later.rows (is_any_waiting later) kept

-- exactly the body that the event brings is more
pub count_after : (s later : State) (k : Kind) (kept : List Kept) → bodies_in (bodies_after s later k kept) ≡ bodies_in kept + one_if (brings_body k)
count_after s later k kept = let_go_count later k (moved s later.rows k kept) ∙ moved_bodies s later.rows k kept
