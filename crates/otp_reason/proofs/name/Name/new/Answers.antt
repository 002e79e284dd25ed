use Rattle.std.proofs.Common.{List, ℕ, length, ap}
use Rattle.otp_reason.specs.declared.name.Name.{Name}
use Rattle.otp_reason.specs.declared.name.TheConstants.{NAME_SIZE}
use Rattle.otp_reason.proofs.Padding.{copied}
use Rattle.otp_reason.proofs.name.Name.new.Goals as goal

pub returns : goal.returns
returns c =
    let with_bytes : List ℕ → Name = λ bytes. record { bytes = bytes; len = length c.args.bytes.now } in
    (c.if-bytes-gt-NAME_SIZE.false, ap with_bytes (copied NAME_SIZE c.args.bytes.now _ c.copy_from_slice.ensures.after))
