use Rattle.std.proofs.Common.{List, ℕ, length, ap, sym, ◌∙◌}
use Rattle.otp_reason.specs.declared.text.Text.{Text}
use Rattle.otp_reason.specs.declared.text.TheConstants.{TEXT_SIZE}
use Rattle.otp_reason.proofs.Padding.{copied}
use Rattle.otp_reason.proofs.text.Text.new.Goals as goal

pub returns : goal.returns
returns c =
    let with_bytes : List ℕ → Text = λ bytes. record { bytes = bytes; len = length c.args.bytes.now } in
    (sym c.may_be_text.ensures ∙ c.if-not-may_be_text.false, ap with_bytes (copied TEXT_SIZE c.args.bytes.now _ c.copy_from_slice.ensures.after))
