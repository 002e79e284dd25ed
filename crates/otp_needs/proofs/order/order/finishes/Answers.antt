use Rattle.std.proofs.Common.{◌≡◌, true, sym, ◌∙◌}
use Rattle.otp_rules.specs.Progress.{is_end}
use Rattle.otp_needs.proofs.order.order.finishes.Goals as goal

pub returns-else-not-is_end : goal.returns-else-not-is_end
returns-else-not-is_end c =
    let ends : is_end c.args.base.now.follows ≡ true = sym c.is_end.ensures ∙ c.if-not-is_end.false in
    (λ t. λ _. c.is_stopping.ensures.0 t, λ h. c.is_stopping.ensures.1 (h ends))
