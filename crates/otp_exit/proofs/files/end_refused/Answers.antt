use Rattle.std.proofs.Common.{inl, inr, refl}
use Rattle.otp_exit.proofs.files.end_refused.Goals as goal

pub returns : goal.returns
returns c = inl (c.args.why, inr refl)
