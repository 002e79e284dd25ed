use Rattle.std.proofs.Common.{◌∙◌, ap, sym}
use Rattle.std.specs.List.{list_any}
use Rattle.otp_rules.specs.Cuts.{is_call_of}
use Rattle.otp_machine.specs.Queued.{Queued}
use Rattle.otp_machine.proofs.Queues.{calls_found}
use Rattle.otp_machine.proofs.stores.waits.Waits.has_call.Goals as goal

pub returns : goal.returns
returns c =
    c.has_short_call.ensures
    ∙ sym (calls_found c.args.number c.self.inside.items.items c.self.inside.calls.items)
    ∙ ap (λ (q : Queued). list_any (is_call_of c.args.number) q.items) c.self.view_is
