use Rattle.std.proofs.Common.{◌++◌, ◌∙◌, [], ap, sym}
use Rattle.std.specs.List.{filter_map}
use Rattle.otp_rules.specs.Ends.{refusal, refused}
use Rattle.otp_machine.specs.Queued.{Queued}
use Rattle.otp_machine.specs.WaitsInside.{whole_item}
use Rattle.otp_machine.proofs.Halves.{joined}
use Rattle.otp_machine.proofs.Queues.{given, refusal_seen, refused_seen}
use Rattle.otp_machine.proofs.stores.waits.Waits.refuse_calls.Goals as goal

pub returns-clause-replies : goal.returns-clause-replies
returns-clause-replies c =
    joined (λ x. refused (whole_item x [])) c.args.replies.now.answers c.refuse_items.new.replies.answers c.refuse_items-2.new.replies.answers
    c.as_slices.result.0.now c.as_slices.result.1.now c.self.inside.items.items
    c.refuse_items.ensures.replies c.refuse_items-2.ensures.replies c.as_slices.ensures.items
    ∙ ap (λ answers. c.args.replies.now.answers ++ answers) (sym (given refused c.self.inside.items.items c.self.inside.calls.items refused_seen))
    ∙ ap (λ (q : Queued). c.args.replies.now.answers ++ filter_map refused q.items) c.self.view_is

pub returns-clause-orders : goal.returns-clause-orders
returns-clause-orders c =
    joined (λ x. refusal (whole_item x [])) c.args.orders.now.items c.refuse_items.new.orders.items c.refuse_items-2.new.orders.items
    c.as_slices.result.0.now c.as_slices.result.1.now c.self.inside.items.items
    c.refuse_items.ensures.orders c.refuse_items-2.ensures.orders c.as_slices.ensures.items
    ∙ ap (λ orders. c.args.orders.now.items ++ orders) (sym (given refusal c.self.inside.items.items c.self.inside.calls.items refusal_seen))
    ∙ ap (λ (q : Queued). c.args.orders.now.items ++ filter_map refusal q.items) c.self.view_is
