use Rattle.std.proofs.Common.{◌∙◌, not, sym}
use Rattle.std.proofs.lemmas.List.Sums.{length-filter}
use Rattle.otp_rules.specs.Effects.{is_reply}
use Rattle.otp_machine.proofs.decisions.effects.count_orders.Goals as goal

pub returns : goal.returns
returns c = c.count_no_replies.ensures ∙ sym (length-filter (λ effect. not (is_reply effect)) c.args.effects.now)
