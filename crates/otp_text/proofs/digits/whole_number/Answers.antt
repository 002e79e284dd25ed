use Rattle.std.proofs.Common.{◌≡◌, ℕ, List, Some, true, subst, arith}
use Rattle.std.specs.List.{list_all}
use Rattle.otp_text.specs.Lines.{number_in}
use Rattle.otp_text.specs.Words.{is_digit}
use Rattle.std.proofs.lemmas.List.{take_all}
use Rattle.otp_text.proofs.OnePass.{number_alone}
use Rattle.otp_text.proofs.digits.whole_number.Goals as goal

pub returns-then-count-line-clause-number : goal.returns-then-count-line-clause-number
returns-then-count-line-clause-number c =
    let found = c.in_ok-number.ensures in
    let all = take_all c.in_ok-number.count c.args.line.now (omega (arith, c.if-count-line.true)) in
    let digits : list_all is_digit c.args.line.now ≡ true = subst (λ (l : List ℕ). list_all is_digit l ≡ true) all found.digits in
    let number : number_in c.args.line.now ≡ Some c.in_ok-number.number = subst (λ (l : List ℕ). number_in l ≡ Some c.in_ok-number.number) all found.number in
    number_alone c.args.line.now c.in_ok-number.number digits number
