use Rattle.std.proofs.Common.{◌∙◌, ap, position, sym}
use Rattle.otp_rules.specs.Stops.{is_exit}
use Rattle.otp_machine.specs.Queued.{Queued}
use Rattle.otp_machine.proofs.Queues.{exit_found}
use Rattle.otp_machine.proofs.stores.waits.Waits.find_exit.Goals as goal

pub returns : goal.returns
returns c =
    c.find_short_exit.ensures
    ∙ sym (exit_found c.args.number c.self.inside.items.items c.self.inside.calls.items)
    ∙ ap (λ (q : Queued). position (is_exit c.args.number) q.items) c.self.view_is
