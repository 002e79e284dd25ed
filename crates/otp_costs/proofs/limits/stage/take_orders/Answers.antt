use Rattle.std.proofs.Common.{◌≤◌, ◌∙◌, arith, length, sym}
use Rattle.std.specs.Prelude.{not}
use Rattle.otp_driver.specs.Members.{Member}
use Rattle.otp_rules.specs.Effects.{is_reply}
use Rattle.otp_costs.specs.Scene.{note_of}
use Rattle.otp_costs.proofs.Takings.{Passes, all_taken, notes_done, notes_moved, orders_done, orders_moved, passes, stays_on}
use Rattle.otp_costs.proofs.limits.stage.take_orders.Goals as goal

pub loop-order-smaller : goal.loop-order-smaller
loop-order-smaller c = (passes c.loop-order.supervisor c.pass.new.self c.in-Some.order.now (sym c.in-Some.ensures) c.pass.ensures).less

pub loop-order-preserved : goal.loop-order-preserved
loop-order-preserved c =
    let m : Member = c.loop-order.supervisor in
    let p : Passes m c.pass.new.self c.in-Some.order.now = passes m c.pass.new.self c.in-Some.order.now (sym c.in-Some.ensures) c.pass.ensures in
    record {
      within = p.within;
      stays = stays_on c.args.supervisor.now m c.pass.new.self c.loop-order.invariant.stays p.stays;
      notes = λ whole. notes_moved note_of c.loop-order.notes.items c.put_if-is_whole.new.notes.items c.in-Some.order.now m c.pass.new.self
          (c.put_if-is_whole.ensures.notes whole) p.rest
          ∙ c.loop-order.invariant.notes (c.put_if-is_whole.ensures.whole whole);
      orders = λ whole. orders_moved (λ order. not (is_reply order)) c.loop-order.orders.items c.put_if-is_whole.new.orders.items c.in-Some.order.now m c.pass.new.self
          (c.put_if-is_whole.ensures.orders whole) p.rest
          ∙ c.loop-order.invariant.orders (c.put_if-is_whole.ensures.whole whole);
    }

pub returns-then-is_whole-clause-notes : goal.returns-then-is_whole-clause-notes
returns-then-is_whole-clause-notes c =
    notes_done note_of c.args.notes.now.items c.loop-order.notes.items c.args.supervisor.now c.loop-order.supervisor
    (c.loop-order.invariant.notes c.if-is_whole.true) (sym c.in_default.ensures)

pub returns-then-is_whole-clause-orders : goal.returns-then-is_whole-clause-orders
returns-then-is_whole-clause-orders c =
    orders_done (λ order. not (is_reply order)) c.args.orders.now.items c.loop-order.orders.items c.args.supervisor.now c.loop-order.supervisor
    (c.loop-order.invariant.orders c.if-is_whole.true) (sym c.in_default.ensures)

pub returns-then-is_whole-clause-all : goal.returns-then-is_whole-clause-all
returns-then-is_whole-clause-all c =
    let most : length c.loop-order.supervisor.effects ≤ c.loop-order.supervisor.taken =
    all_taken c.loop-order.supervisor.effects c.loop-order.supervisor.taken (sym c.in_default.ensures) in
    let within : c.loop-order.supervisor.taken ≤ length c.loop-order.supervisor.effects = c.loop-order.invariant.within in
    omega (arith, most, within)

pub returns-else-is_whole-clause-all : goal.returns-else-is_whole-clause-all
returns-else-is_whole-clause-all c =
    let most : length c.loop-order.supervisor.effects ≤ c.loop-order.supervisor.taken =
    all_taken c.loop-order.supervisor.effects c.loop-order.supervisor.taken (sym c.in_default.ensures) in
    let within : c.loop-order.supervisor.taken ≤ length c.loop-order.supervisor.effects = c.loop-order.invariant.within in
    omega (arith, most, within)
