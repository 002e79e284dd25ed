use Rattle.std.proofs.Common.{◌≡◌, List, ap, false, sym, subst, ◌∙◌}
use Rattle.std.specs.List.{list_any}
use Rattle.otp_core.specs.View.{state_of}
use Rattle.otp_bodies.specs.Bodies.{bodies_in, calls_waiting}
use Rattle.otp_sup.specs.Moves.{let_go}
use Rattle.otp_bodies.specs.declared.bodies.Kept.{Kept}
use Rattle.otp_sup.specs.Facts.{HasBodies}
use Rattle.otp_sup.proofs.Calls.{calls_happened}
use Rattle.otp_sup.proofs.Homes.{Laws, bodies_happened}
use Rattle.otp_sup.proofs.CountAfter.{count_after}
use Rattle.otp_sup.proofs.Staying.{still_there, still_without}
use Rattle.otp_bodies.specs.Loose.{is_with_call}
use Rattle.otp_bodies.specs.Bodies.{AreThere}
use Rattle.otp_sup.proofs.moves.happen.Goals as goal

-- bodies are let go
pub returns-then-not-lets_none_go-clause-bodies : goal.returns-then-not-lets_none_go-clause-bodies
returns-then-not-lets_none_go-clause-bodies g c =
    let s = state_of c.args.office.now.core in
    let later = state_of c.happen.new.self.core in
    c.let_go.ensures ∙ ap (λ (l : List Kept). let_go later c.args.kind l) (c.move_bodies.ensures s later.rows c.plan_of-plan.ensures c.slot_given-slot.ensures)

pub returns-then-not-lets_none_go-clause-count : goal.returns-then-not-lets_none_go-clause-count
returns-then-not-lets_none_go-clause-count g c =
    let s = state_of c.args.office.now.core in
    let later = state_of c.happen.new.self.core in
    ap (λ (l : List Kept). bodies_in l) (c.let_go.ensures ∙ ap (λ (l : List Kept). let_go later c.args.kind l) (c.move_bodies.ensures s later.rows c.plan_of-plan.ensures c.slot_given-slot.ensures))
    ∙ count_after s later c.args.kind c.args.bodies.now.kept

pub returns-then-not-lets_none_go-clause-calls : goal.returns-then-not-lets_none_go-clause-calls
returns-then-not-lets_none_go-clause-calls g c = λ same.
    let s = state_of c.args.office.now.core in
    let later = state_of c.happen.new.self.core in
    ap (λ (l : List Kept). calls_waiting l) (c.let_go.ensures ∙ ap (λ (l : List Kept). let_go later c.args.kind l) (c.move_bodies.ensures s later.rows c.plan_of-plan.ensures c.slot_given-slot.ensures))
    ∙ calls_happened c.args.office.now c.happen.new.self c.args.reading c.args.kind c.args.bodies.now.kept c.runs_are_joined.ensures.one_more c.start_calls_wait.ensures c.happen.ensures same

pub returns-then-not-lets_none_go-clause-homes : goal.returns-then-not-lets_none_go-clause-homes
returns-then-not-lets_none_go-clause-homes g c = λ same has.
    let s = state_of c.args.office.now.core in
    let later = state_of c.happen.new.self.core in
    let is = c.let_go.ensures ∙ ap (λ (l : List Kept). let_go later c.args.kind l) (c.move_bodies.ensures s later.rows c.plan_of-plan.ensures c.slot_given-slot.ensures) in
    let laws : Laws = record {
      goes_on = c.runs_are_joined.ensures.one_more;
      homes = c.homes_are_kept.ensures.from_any;
      stay = c.processes_stay.ensures.stay;
      heard = c.ends_tell_started.ensures.heard;
      started = c.ends_tell_started.ensures.started;
      bare = c.ended_has_no_rows.ensures.from_empty;
      named = c.orders_name_rows.ensures.from_empty;
      owned = c.processes_are_owned.ensures.from_empty;
      works = c.number_starts_work.ensures;
      plan = c.step_keeps_plan.ensures;
      lived = c.processes_lived.ensures.from_empty;
    } in
    let Has : List Kept → Type 0 = λ l. HasBodies c.happen.new.self l in
    subst Has (sym is) (bodies_happened laws c.args.office.now c.happen.new.self c.args.reading c.args.kind c.args.bodies.now.kept c.keeps_rules.ensures c.happen.ensures c.requires.outbox c.requires.over same has)

-- none is, so they are as if they had been
pub returns-else-not-lets_none_go-clause-bodies : goal.returns-else-not-lets_none_go-clause-bodies
returns-else-not-lets_none_go-clause-bodies g c =
    let s = state_of c.args.office.now.core in
    let later = state_of c.happen.new.self.core in
    sym (c.lets_none_go.ensures c.if-not-lets_none_go.false) ∙ ap (λ (l : List Kept). let_go later c.args.kind l) (c.move_bodies.ensures s later.rows c.plan_of-plan.ensures c.slot_given-slot.ensures)

pub returns-else-not-lets_none_go-clause-count : goal.returns-else-not-lets_none_go-clause-count
returns-else-not-lets_none_go-clause-count g c =
    let s = state_of c.args.office.now.core in
    let later = state_of c.happen.new.self.core in
    ap (λ (l : List Kept). bodies_in l) (sym (c.lets_none_go.ensures c.if-not-lets_none_go.false) ∙ ap (λ (l : List Kept). let_go later c.args.kind l) (c.move_bodies.ensures s later.rows c.plan_of-plan.ensures c.slot_given-slot.ensures))
    ∙ count_after s later c.args.kind c.args.bodies.now.kept

pub returns-else-not-lets_none_go-clause-calls : goal.returns-else-not-lets_none_go-clause-calls
returns-else-not-lets_none_go-clause-calls g c = λ same.
    let s = state_of c.args.office.now.core in
    let later = state_of c.happen.new.self.core in
    ap (λ (l : List Kept). calls_waiting l) (sym (c.lets_none_go.ensures c.if-not-lets_none_go.false) ∙ ap (λ (l : List Kept). let_go later c.args.kind l) (c.move_bodies.ensures s later.rows c.plan_of-plan.ensures c.slot_given-slot.ensures))
    ∙ calls_happened c.args.office.now c.happen.new.self c.args.reading c.args.kind c.args.bodies.now.kept c.runs_are_joined.ensures.one_more c.start_calls_wait.ensures c.happen.ensures same

pub returns-else-not-lets_none_go-clause-homes : goal.returns-else-not-lets_none_go-clause-homes
returns-else-not-lets_none_go-clause-homes g c = λ same has.
    let s = state_of c.args.office.now.core in
    let later = state_of c.happen.new.self.core in
    let is = sym (c.lets_none_go.ensures c.if-not-lets_none_go.false) ∙ ap (λ (l : List Kept). let_go later c.args.kind l) (c.move_bodies.ensures s later.rows c.plan_of-plan.ensures c.slot_given-slot.ensures) in
    let laws : Laws = record {
      goes_on = c.runs_are_joined.ensures.one_more;
      homes = c.homes_are_kept.ensures.from_any;
      stay = c.processes_stay.ensures.stay;
      heard = c.ends_tell_started.ensures.heard;
      started = c.ends_tell_started.ensures.started;
      bare = c.ended_has_no_rows.ensures.from_empty;
      named = c.orders_name_rows.ensures.from_empty;
      owned = c.processes_are_owned.ensures.from_empty;
      works = c.number_starts_work.ensures;
      plan = c.step_keeps_plan.ensures;
      lived = c.processes_lived.ensures.from_empty;
    } in
    let Has : List Kept → Type 0 = λ l. HasBodies c.happen.new.self l in
    subst Has (sym is) (bodies_happened laws c.args.office.now c.happen.new.self c.args.reading c.args.kind c.args.bodies.now.kept c.keeps_rules.ensures c.happen.ensures c.requires.outbox c.requires.over same has)

pub lets_none_go-requires : goal.lets_none_go-requires
lets_none_go-requires g c =
    let s = state_of c.args.office.now.core in
    let later = state_of c.happen.new.self.core in
    record {
      there = λ keeps runs.
          subst (λ (l : List Kept). AreThere later.rows l) (sym (c.move_bodies.ensures s later.rows c.plan_of-plan.ensures c.slot_given-slot.ensures))
          (still_there c.runs_are_joined.ensures.one_more c.up_keeps_children.ensures c.stop_keeps_children.ensures c.args.office.now c.happen.new.self c.args.reading c.args.kind c.args.bodies.now.kept c.happen.ensures (sym c.plan_of-plan.ensures.stays ∙ keeps) runs c.requires.there);
      calls = λ keeps.
          subst (λ (l : List Kept). list_any is_with_call l ≡ false) (sym (c.move_bodies.ensures s later.rows c.plan_of-plan.ensures c.slot_given-slot.ensures))
          (still_without s later.rows c.args.kind c.args.bodies.now.kept (sym c.plan_of-plan.ensures.stays ∙ keeps) c.requires.waits);
    }
