use Rattle.std.proofs.Common.{◌+◌, ◌++◌, List, ℕ, length, length-append, ap, sym, ◌∙◌}
use Rattle.otp_reason.specs.declared.text.Text.{Text}
use Rattle.otp_reason.specs.declared.text.TheConstants.{TEXT_SIZE}
use Rattle.otp_reason.specs.Padded.{padded_to}
use Rattle.otp_reason.proofs.Padding.{written}
use Rattle.otp_reason.proofs.text.Text.joined.Goals as goal

pub returns : goal.returns
returns c =
    let front : List ℕ = c.args.front.now in
    let back : List ℕ = c.args.back.now in
    let with_bytes : List ℕ → Text = λ bytes. record { bytes = bytes; len = length front + length back } in
    let with_len : ℕ → Text = λ n. record { bytes = padded_to TEXT_SIZE (front ++ back); len = n } in
    ap with_bytes (written TEXT_SIZE front back _ _ c.write_at.ensures c.write_at-2.ensures) ∙ ap with_len (sym (length-append front back))
