use Rattle.std.proofs.Common.{ℕ, ◌++◌, List, length, map, length-append, sym, ap, arith, ◌∙◌, subst}
use Rattle.std.proofs.lemmas.List.Elements.{filter_map-append}
use Rattle.otp_inbox.specs.declared.rule.Shares.{Shares}
use Rattle.otp_inbox.specs.Lists.{EachInOrder}
use Rattle.otp_inbox.specs.Tokens.{all_sent, sent_lists}
use Rattle.otp_rules.specs.declared.event.Effect.{Effect}
use Rattle.otp_bodies.specs.Orders.{started_by}
use Rattle.std.specs.Prelude.{sum_by}
use Rattle.otp_rules.specs.Needs.{numbers_of}
use Rattle.otp_signals.specs.Lists.{AllIn, NoneInBoth}
use Rattle.otp_core.specs.View.{View, stored_of}
use Rattle.otp_bodies.specs.Ends.{AreTold}
use Rattle.otp_bodies.specs.Messages.{items_in}
use Rattle.otp_sup.specs.Told.{ends_told_in}
use Rattle.otp_bodies.specs.Events.{items_of}
use Rattle.otp_bodies.specs.Offices.{sent_of}
use Rattle.otp_bodies.specs.Orders.{starts_in}
use Rattle.otp_sup.proofs.Planned.{planned}
use Rattle.otp_close.specs.Leavings.{IsLeft}
use Rattle.otp_close.proofs.closing.take_apart.Goals as goal

pub returns-clause-left : goal.returns-clause-left
returns-clause-left g c =
    let parts = c.into_parts-inbox.ensures in
    let taken = ap (λ t. items_in t.taken) parts.taker ∙ c.keeps_rules.ensures.taken ∙ ap (λ core. items_of core.history) (sym parts.core) in
    λ weight. c.settle-left.ensures.left weight ∙ ap (λ l. sum_by weight (l ++ c.settle-left.result.items)) taken

pub returns-clause-apart : goal.returns-clause-apart
returns-clause-apart g c =
    let parts = c.into_parts-inbox.ensures in
    let numbers = ap (λ o. o.drawn) parts.owner ∙ c.keeps_rules.ensures.office.numbers ∙ ap (λ core. numbers_of core.history) (sym parts.core) in
    subst (NoneInBoth c.args.owner.now.drawn) numbers c.join.ensures.apart

pub returns-clause-gained : goal.returns-clause-gained
returns-clause-gained g c =
    let parts = c.into_parts-inbox.ensures in
    let numbers = ap (λ o. o.drawn) parts.owner ∙ c.keeps_rules.ensures.office.numbers ∙ ap (λ core. numbers_of core.history) (sym parts.core) in
    subst (λ l. AllIn l c.join.new.owner.drawn) numbers c.join.ensures.gained

pub returns-clause-shown : goal.returns-clause-shown
returns-clause-shown g c =
    let parts = c.into_parts-inbox.ensures in
    let ends = c.into_parts-inbox.result.ends_told.items in
    subst (λ core. AreTold (stored_of core) ends) (sym parts.core) (subst (λ told. AreTold (stored_of c.args.sup.table.office.core) told) (sym parts.ends) c.keeps_rules.ensures.told)

pub returns-clause-starts : goal.returns-clause-starts
returns-clause-starts g c =
    let parts = c.into_parts-inbox.ensures in
    let office = c.args.sup.table.office in
    let rules = c.keeps_rules.ensures in
    let given = ap (λ (s : Shares). s.starts) c.settle-left.ensures.shares ∙ ap (λ t. t.given.starts) parts.taker ∙ rules.starts in
    let all = ap (λ (l : List Effect). length (starts_in l)) rules.office.orders ∙ ap (λ (l : List ℕ). length l) rules.office.starts in
    let cut = ap (λ (l : List ℕ). length l) (filter_map-append started_by (sent_of office) office.outbox) ∙ length-append (starts_in (sent_of office)) (starts_in office.outbox) in
    let unsent = c.unsent_starts-unsent.ensures.value in
    let same = ap (λ core. length (numbers_of core.history)) parts.core in
    omega (arith, given, all, cut, unsent, same)

pub returns-clause-plan : goal.returns-clause-plan
returns-clause-plan g c =
    let parts = c.into_parts-inbox.ensures in
    planned g.N.PlanNaming.plan _ _ _ _ (ap (λ (core : View). core.base) parts.core) (sym c.requires.takes) c.keeps_rules.ensures.plan

pub returns-clause-order : goal.returns-clause-order
returns-clause-order g c =
    let parts = c.into_parts-inbox.ensures in
    let taken = ap (λ t. items_in t.taken) parts.taker ∙ c.keeps_rules.ensures.taken ∙ ap (λ core. items_of core.history) (sym parts.core) in
    subst (λ l. EachInOrder (map items_in (sent_lists c.args.sender)) (l ++ c.settle-left.result.items)) taken c.settle-left.ensures.order

pub returns-clause-come : goal.returns-clause-come
returns-clause-come g c =
    let parts = c.into_parts-inbox.ensures in
    let rules = c.keeps_rules.ensures in
    record {
      taken = c.into_parts-inbox.result.taker.taken;
      items = ap (λ t. items_in t.taken) parts.taker ∙ rules.taken ∙ ap (λ core. items_of core.history) (sym parts.core);
      told = parts.ends ∙ rules.ends
          ∙ ap (λ core. ends_told_in core c.args.sup.table.taker.taken) (sym parts.core)
          ∙ ap (λ t. ends_told_in c.into_parts-inbox.result.core t.taken) (sym parts.taker);
      left = c.settle-left.ensures.messages;
    }

pub returns-clause-unsent : goal.returns-clause-unsent
returns-clause-unsent g c =
    let unsent = c.unsent_starts-unsent.ensures in
    record {
      office = c.args.sup.table.office;
      keeps = c.keeps_rules.ensures.office;
      core = c.into_parts-inbox.ensures.core;
      orders = c.unsent_orders-unsent_orders.ensures;
      starts = unsent.value;
      few = unsent.few;
    }

pub returns-clause-table : goal.returns-clause-table
returns-clause-table g c =
    let parts = c.into_parts-inbox.ensures in
    record {
      table = c.args.sup.table;
      own = c.requires.takes;
      rules = c.keeps_rules.ensures;
      core = parts.core;
      ends = parts.ends;
      unsent_orders = c.unsent_orders-unsent_orders.ensures;
      unsent = c.unsent_starts-unsent.ensures.value;
      left = subst (λ taker. IsLeft (all_sent c.args.sender) taker.taken c.settle-left.result.items) parts.taker c.settle-left.ensures.messages;
      given = c.settle-left.ensures.shares ∙ ap (λ t. t.given) parts.taker;
    }
