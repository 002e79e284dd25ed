use Rattle.std.proofs.Common.{◌≡◌, ◌+◌, ◌<◌, ◌∙◌, List, Option, ap, arith, position, remove, subst}
use Rattle.std.specs.Prelude.{OnSome}
use Rattle.std.specs.VecDeque.{deque_len}
use Rattle.otp_rules.specs.Stops.{is_exit}
use Rattle.otp_machine.specs.declared.stores.waits.ShortItem.{ShortItem}
use Rattle.otp_machine.specs.declared.stores.waits.ShortItem.TheVariants as short
use Rattle.otp_machine.specs.Queued.{Queued}
use Rattle.otp_machine.specs.WaitsInside.{whole_items}
use Rattle.otp_machine.proofs.Queues.{count_calls, exit_taken}
use Rattle.otp_machine.proofs.stores.waits.Waits.remove_exit.Goals as goal

pub invariant_of-self : goal.invariant_of-self
invariant_of-self c =
    let taken = exit_taken c.args.number c.self.inside.items.items c.self.inside.calls.items c.args.place (ap (λ (q : Queued). position (is_exit c.args.number) q.items) c.self.view_is ∙ c.requires) in
    let within : c.args.place < deque_len c.self.inside.items = omega (arith, c, taken.0) in
    let at = c.remove.ensures.succeeds (short.Retry 0) within in
    let items : c.remove.new.self.items ≡ remove c.self.inside.items.items c.args.place =
    subst (λ (o : Option ShortItem). OnSome o (c.remove.new.self.items ≡ remove c.self.inside.items.items c.args.place)) at c.remove.ensures.items in
    let len : deque_len c.remove.new.self + 1 ≡ deque_len c.self.inside.items =
    subst (λ (o : Option ShortItem). OnSome o (deque_len c.remove.new.self + 1 ≡ deque_len c.self.inside.items)) at c.remove.ensures.len in
    record {
      calls = ap (λ (xs : List ShortItem). count_calls xs) items ∙ taken.1 ∙ c.self.invariant.calls;
      items_room = omega (arith, len, c);
      calls_room = c.self.invariant.calls_room;
    }

pub returns-clause-items : goal.returns-clause-items
returns-clause-items c =
    let taken = exit_taken c.args.number c.self.inside.items.items c.self.inside.calls.items c.args.place (ap (λ (q : Queued). position (is_exit c.args.number) q.items) c.self.view_is ∙ c.requires) in
    let within : c.args.place < deque_len c.self.inside.items = omega (arith, c, taken.0) in
    let items : c.remove.new.self.items ≡ remove c.self.inside.items.items c.args.place =
    subst (λ (o : Option ShortItem). OnSome o (c.remove.new.self.items ≡ remove c.self.inside.items.items c.args.place)) (c.remove.ensures.succeeds (short.Retry 0) within) c.remove.ensures.items in
    ap (λ (xs : List ShortItem). whole_items xs c.self.inside.calls.items) items ∙ taken.2 ∙ ap (λ (q : Queued). remove q.items c.args.place) c.self.view_is
