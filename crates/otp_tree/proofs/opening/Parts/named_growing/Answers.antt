use Rattle.std.proofs.Common.{subst, sym}
use Rattle.std.specs.Prelude.{◌<◌, length}
use Rattle.otp_close.specs.Closes.{IsReached, all_senders}
use Rattle.otp_close.specs.Partings.{schedulers_of}
use Rattle.otp_hand.specs.Hands.{SystemView}
use Rattle.otp_run.specs.Gathers.{IsAll}
use Rattle.otp_tree.proofs.opening.Parts.named_growing.Goals as goal

pub returns-in-Ok-named-clause-complete : goal.returns-in-Ok-named-clause-complete
returns-in-Ok-named-clause-complete g c =
    let all = c.in-Ok-named.all in
    subst (λ (s : SystemView). 0 < length c.args.self.queue → IsAll (schedulers_of all.hands.items) × IsReached s.tables all.client (all_senders all.client all.hands.items))
    (sym c.growing.ensures) (c.in-Ok-named.ensures {u = tt}).complete
