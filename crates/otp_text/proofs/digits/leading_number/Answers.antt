use Rattle.std.proofs.Common.{◌∙◌, ◌<◌, Some, ap, sym, arith}
use Rattle.std.proofs.lemmas.Bool.{ne_eqb}
use Rattle.otp_text.proofs.OnePass.{few_are_a_number, few_are_small}
use Rattle.otp_text.proofs.digits.leading_number.Goals as goal

pub returns-clause-number : goal.returns-clause-number
returns-clause-number c =
    let found = c.leading_digits-number.ensures in
    let count = c.leading_digits-number.result.1 in
    let some : 0 < count = omega (arith, c.if-count-eq0.false) in
    few_are_a_number c.args.line.now count some found.inside found.few found.digits (ne_eqb _ _ c.if-line-eq48.false) ∙ ap Some (sym found.value)

pub returns-clause-within : goal.returns-clause-within
returns-clause-within c =
    let found = c.leading_digits-number.ensures in
    let small = few_are_small c.args.line.now c.leading_digits-number.result.1 found.few found.digits in
    omega (arith, small, found.value)
