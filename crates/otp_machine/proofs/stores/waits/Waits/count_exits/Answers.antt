use Rattle.std.proofs.Common.{◌∙◌, ap, count_by, sym}
use Rattle.otp_rules.specs.Stops.{is_exit}
use Rattle.otp_machine.specs.Queued.{Queued}
use Rattle.otp_machine.proofs.Queues.{exits_counted}
use Rattle.otp_machine.proofs.stores.waits.Waits.count_exits.Goals as goal

pub returns-clause-count : goal.returns-clause-count
returns-clause-count c =
    c.count_short_exits.ensures.count
    ∙ sym (exits_counted c.args.number c.self.inside.items.items c.self.inside.calls.items)
    ∙ ap (λ (q : Queued). count_by (is_exit c.args.number) q.items) c.self.view_is
