use Rattle.std.proofs.Common.{◌≡◌, arith}
use Rattle.otp_close.proofs.report.evidence.is_end.Goals as goal

pub returns-else-own-number : goal.returns-else-own-number
returns-else-own-number c =
    let same : c.args.own ≡ c.args.number = omega (arith, c.if-own-number.false) in
    (λ yes _. c.is_told.ensures.0 yes, λ then. c.is_told.ensures.1 (then same))
