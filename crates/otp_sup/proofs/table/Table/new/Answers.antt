use Rattle.std.proofs.Common.{List, [], ap, arith, length, refl, sym, subst, ◌∙◌, false}
use Rattle.otp_bodies.specs.declared.bodies.Kept.{Kept}
use Rattle.otp_sup.proofs.Flushing.{first_bodies}
use Rattle.otp_bodies.specs.Bodies.{calls_waiting}
use Rattle.otp_sup.specs.Facts.{HasBodies}
use Rattle.otp_bodies.specs.Messages.{items_in}
use Rattle.otp_bodies.specs.Events.{items_of}
use Rattle.otp_sup.proofs.Published.{all_counted, counts_first}
use Rattle.otp_sup.proofs.Told.{told_first}
use Rattle.otp_sup.proofs.Calls.{nothing_waits, settled_calls}
use Rattle.otp_bodies.proofs.Telling.{none_told, told_same}
use Rattle.otp_bodies.proofs.Shared.{none_sent}
use Rattle.otp_inbox.specs.declared.rule.Shares.{Shares}
use Rattle.otp_core.specs.View.{stored_of}
use Rattle.otp_rules.specs.declared.event.Event.{Event}
use Rattle.otp_sup.proofs.table.Table.new.Goals as goal

pub invariant_of-result : goal.invariant_of-result
invariant_of-result g c =
    let Has : List Kept → Type 0 = λ l. HasBodies c.args.office l in
    record {
      plan = c.requires.plan;
      taken = ap items_in c.requires.taken ∙ sym (ap items_of c.requires.history);
      calls = ap calls_waiting c.settle.ensures ∙ settled_calls [] false c.args.bodies.kept ∙ sym (nothing_waits c.args.office c.keeps_rules.ensures.begins c.requires.history);
      bodies = subst Has (sym c.settle.ensures) (first_bodies c.args.office c.args.bodies.kept c.keeps_rules.ensures c.requires.history c.requires.bodies c.has_one_each.ensures);
      counts = all_counted (g.N.PlanNaming.plan c.args.taker.inbox) _ _ (counts_first c.args.office.core _ c.requires.history c.requires.counts);
      told = told_same _ _ [] _ refl c.new.ensures.items (none_told (stored_of c.args.office.core));
      ends = c.new.ensures.items ∙ sym (told_first c.args.office.core c.args.taker.taken c.requires.history);
      starts = ap (λ (s : Shares). s.starts) c.requires.unused.1 ∙ sym (none_sent c.args.office c.requires.history);
      turns =
          let given = ap (λ (s : Shares). s.turns) c.requires.unused.1 in
          let finds = c.requires.unused.0 in
          let events = ap (λ (l : List Event). length l) c.requires.history in
          omega (arith, given, finds, events);
    }
