use Rattle.std.proofs.Common.{List, ap, sym, subst, ◌∙◌}
use Rattle.otp_core.specs.View.{state_of}
use Rattle.otp_bodies.specs.declared.bodies.Kept.{Kept}
use Rattle.otp_sup.specs.Facts.{HasBodies}
use Rattle.otp_bodies.specs.Orders.{starts_in}
use Rattle.otp_sup.proofs.Flushing.{left_bodies}
use Rattle.std.proofs.lemmas.Bool.{and_parts}
use Rattle.otp_bodies.specs.Bodies.{calls_waiting, is_left_of}
use Rattle.otp_sup.proofs.Calls.{without_calls}
use Rattle.otp_sup.proofs.table.Table.take_box.Goals as goal

pub invariant_of-self : goal.invariant_of-self
invariant_of-self g c =
    let Has : List Kept → Type 0 = λ l. HasBodies c.self.inside.office l in
    record {
      plan = c.self.invariant.plan;
      taken = c.self.invariant.taken;
      calls = ap calls_waiting c.take_of_call.ensures.kept ∙ without_calls (is_left_of c.args.call) c.self.inside.bodies.kept (λ b t. (and_parts _ _ t).1) ∙ c.self.invariant.calls;
      bodies = subst Has (sym c.take_of_call.ensures.kept) (left_bodies c.args.call (state_of c.self.inside.office.core) (starts_in c.self.inside.office.outbox) c.self.inside.bodies.kept c.self.invariant.bodies);
      counts = c.self.invariant.counts;
      told = c.self.invariant.told;
      ends = c.self.invariant.ends;
      starts = c.self.invariant.starts;
      turns = c.self.invariant.turns;
    }
