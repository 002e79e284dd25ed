use Rattle.std.proofs.Common.{◌≡◌, ℕ, ◌+◌, ◌-◌, ◌<◌, ◌≤◌, ◌++◌, ◌==◌, false, List, [], ◌∷◌, ◌∙◌, Option, Some, ap, arith, length, length-append, sym}
use Rattle.std.specs.Prelude.{OnOk, Ok, Err, unwrap_or}
use Rattle.otp_rules.specs.Needs.{last_number, needs_number}
use Rattle.otp_rules.specs.declared.event.Event.{Event}
use Rattle.otp_rules.specs.declared.event.Effect.{Effect}
use Rattle.otp_rules.specs.State.{State}
use Rattle.otp_rules.specs.Step.{step}
use Rattle.otp_spec.specs.declared.limits.TheConstants.{MAX_EVENTS}
use Rattle.otp_core.specs.Happened.{HappenedAfter, number_after}
use Rattle.otp_core.specs.View.{View, state_of, stored_state}
use Rattle.otp_sim.specs.declared.driven.LinesEnd.TheVariants as stop
use Rattle.otp_sim.specs.Sim.{Sim, event_of, happen, orders_text}
use Rattle.otp_sim.specs.Runs.{with_text}
use Rattle.otp_sim.specs.PlayerInside.{sim_of_player}
use Rattle.otp_sim.proofs.Played.{at_most_next, few_left, happened, last_pushed, spent, texts_same}
use Rattle.otp_sim.proofs.Settled.{happen_full, is_zero}
use Rattle.otp_sim.proofs.player.Player.happen.Goals as goal

pub returns-in-Err-HistoryFull-clause-ok : goal.returns-in-Err-HistoryFull-clause-ok
returns-in-Err-HistoryFull-clause-ok c =
    let before : Sim = with_text c.args.out.now.items (sim_of_player c.self.inside) in
    let many : 4611686018427387904 ≤ length c.self.inside.core.history =
    spent c.self.inside.core c.in-Err-HistoryFull.field-0 c.in-Err-HistoryFull.field-0-is (c.in-Err-HistoryFull.ensures {u = tt}).why in
    let none : 4611686018427387904 - length c.self.inside.core.history ≡ 0 = omega (arith, many) in
    let Over : View → Sim = λ core. with_text c.args.out.now.items (sim_of_player (record c.self.inside { core = core; end = Some stop.HistoryFull })) in
    ap Over (c.in-Err-HistoryFull.ensures {u = tt}).err
    ∙ sym (happen_full c.args.kind.now before (is_zero before.room none)) ∙ ap (λ (v : Sim). happen c.args.kind.now (with_text c.args.out.now.items v)) c.self.view_is

pub invariant_of-self-2 : goal.invariant_of-self-2
invariant_of-self-2 c =
    let old : View = c.self.inside.core in
    let now : View = c.clear_effects.new.self in
    let is : HappenedAfter MAX_EVENTS c.last_number-last.result c.self.inside.reading c.args.kind.now old c.happen_after.new.self c.in-Ok.field-0 = (c.in-Ok.ensures {u = tt}).ok in
    let event : Event = record { reading = c.self.inside.reading; number = is.number; kind = c.args.kind.now } in
    let longer : now.history ≡ old.history ++ event ∷ [] = ap (λ (v : View). v.history) c.clear_effects.ensures ∙ is.happened.history in
    let count : length now.history ≡ length old.history + 1 = ap (λ (h : List Event). length h) longer ∙ length-append old.history (event ∷ []) in
    let few : length old.history < 4611686018427387904 = (c.in-Ok.ensures {u = tt}).events in
    let greatest : unwrap_or is.number (last_number old.history) ≤ last_number old.history + 1 =
    at_most_next is.number (needs_number (state_of old) c.self.inside.reading c.args.kind.now) (last_number old.history)
    (is.number_is ∙ ap (λ (l : ℕ). number_after l (needs_number (state_of old) c.self.inside.reading c.args.kind.now)) c.last_number-last.ensures.last) in
    let drawn : last_number now.history ≡ unwrap_or is.number (last_number old.history) = last_pushed old.history now.history event longer in
    record {
      effects = ap (λ (v : View). v.effects) c.clear_effects.ensures;
      reading = c.self.invariant.reading;
      history = omega (arith, count, few);
      processes = omega (arith, count, greatest, drawn, c.self.invariant.processes);
      calls = c.self.invariant.calls;
    }

pub returns-clause-ok : goal.returns-clause-ok
unfolding event_of
returns-clause-ok c =
    let old : View = c.self.inside.core in
    let next : View = c.happen_after.new.self in
    let after : View = c.clear_effects.new.self in
    let before : Sim = with_text c.args.out.now.items (sim_of_player c.self.inside) in
    let is : HappenedAfter MAX_EVENTS c.last_number-last.result c.self.inside.reading c.args.kind.now old next c.in-Ok.field-0 = (c.in-Ok.ensures {u = tt}).ok in
    let event : Event = record { reading = c.self.inside.reading; number = is.number; kind = c.args.kind.now } in
    let some : (before.room == 0) ≡ false = few_left (length old.history) (c.in-Ok.ensures {u = tt}).events in
    let is_event : event ≡ event_of c.args.kind.now before =
    ap (λ (o : Option ℕ). record { reading = c.self.inside.reading; number = o; kind = c.args.kind.now }) (is.number_is
    ∙ ap (λ (l : ℕ). number_after l (needs_number (state_of old) c.self.inside.reading c.args.kind.now)) c.last_number-last.ensures.last) in
    let is_state : state_of after ≡ (step (state_of old) event).state = ap state_of c.clear_effects.ensures ∙ is.happened.state in
    let longer : after.history ≡ old.history ++ event ∷ [] = ap (λ (v : View). v.history) c.clear_effects.ensures ∙ is.happened.history in
    let count : length after.history ≡ length old.history + 1 = ap (λ (h : List Event). length h) longer ∙ length-append old.history (event ∷ []) in
    let fresh : List Effect = (step (state_of old) event).orders in
    let orders : next.effects ≡ fresh = is.happened.effects ∙ ap (λ (xs : List Effect). xs ++ fresh) c.self.invariant.effects in
    let printed : orders_text (stored_state next).replies next.effects ≡ orders_text (state_of after).replies fresh =
    ap (orders_text (stored_state next).replies) orders
    ∙ texts_same (state_of next).replies (stored_state next).replies fresh is.happened.answers
    ∙ ap (λ (s : State). orders_text s.replies fresh) (sym (ap state_of c.clear_effects.ensures)) in
    (elim c.print_orders-printed.result as (λ r.
    OnOk r (c.print_orders-printed.new.out.items ≡ c.args.out.now.items ++ orders_text (stored_state next).replies next.effects) →
    OnOk r (record before { state = state_of after; processes = last_number after.history; room = 4611686018427387904 - length after.history; text = c.print_orders-printed.new.out.items } ≡ happen c.args.kind.now (with_text c.args.out.now.items c.args.self.now))) [
      | Ok _ ↦ λ text.
          happened c.args.kind.now before event (state_of after) (last_number after.history) (4611686018427387904 - length after.history) c.print_orders-printed.new.out.items
          some is_event is_state (last_pushed old.history after.history event longer) (omega (arith, count))
          (text ∙ ap (λ (t : List ℕ). c.args.out.now.items ++ t) printed)
          ∙ ap (λ (v : Sim). happen c.args.kind.now (with_text c.args.out.now.items v)) c.self.view_is
      | Err _ ↦ λ x. x
    ]) c.print_orders-printed.ensures.ok
