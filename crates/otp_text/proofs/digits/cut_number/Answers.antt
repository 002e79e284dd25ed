use Rattle.std.proofs.Common.{◌≡◌, ◌∙◌, ◌∷◌, take, ap, sym, rules}
use Rattle.otp_text.specs.Lines.{number_and_reason, with_number}
use Rattle.otp_text.specs.Words.{one_reason, words_of}
use Rattle.otp_text.proofs.OnePass.{digits_are_cut, number_then_reason}
use Rattle.otp_text.proofs.digits.cut_number.Goals as goal

pub returns : goal.returns
returns c =
    let found = c.in_ok-number.ensures in
    let behind = c.in_ok-rest.ensures in
    let cut = digits_are_cut c.args.line.now c.in_ok-number.count behind.inside found.digits behind.space in
    let whole = cut ∙ ap (λ rest. take c.in_ok-number.count c.args.line.now ∷ words_of rest) (sym behind.rest) in
    let read : number_and_reason (words_of c.args.line.now) ≡ with_number c.in_ok-number.number (one_reason (words_of c.in_ok-rest.rest.now)) =
    number_then_reason c.args.line.now (take c.in_ok-number.count c.args.line.now) c.in_ok-rest.rest.now c.in_ok-number.number whole found.number in
    search (rules, read)
