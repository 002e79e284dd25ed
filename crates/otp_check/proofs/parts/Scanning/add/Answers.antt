use Rattle.std.proofs.lemmas.Result.{on_ok_weaker}
use Rattle.otp_check.proofs.parts.Scanning.add.Goals as goal

pub returns : goal.returns
returns c =
    on_ok_weaker c.hold.result (λ put. (c.on_line.result, c.on_line.ensures.fault, c.on_line.ensures.text, put)) c.hold.ensures
