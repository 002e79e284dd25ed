use Rattle.std.proofs.Common.{arith}
use Rattle.otp_text.proofs.OnePass.{one_digit_more, one_more_fits, one_more_value}
use Rattle.otp_text.proofs.digits.leading_digits.Goals as goal

pub overflow_mul-number : goal.overflow_mul-number
overflow_mul-number c =
    let found = c.in-Some.ensures in
    let fits = one_more_fits c.args.line.now c.loop-digit.count c.loop-digit.number c.in-Some.digit found.inside found.few
    c.loop-digit.invariant.digits c.loop-digit.invariant.value found.digit found.value in
    omega (arith, fits)

pub overflow_add-number : goal.overflow_add-number
overflow_add-number c =
    let found = c.in-Some.ensures in
    let fits = one_more_fits c.args.line.now c.loop-digit.count c.loop-digit.number c.in-Some.digit found.inside found.few
    c.loop-digit.invariant.digits c.loop-digit.invariant.value found.digit found.value in
    omega (arith, fits)

pub loop-digit-preserved : goal.loop-digit-preserved
loop-digit-preserved c =
    let found = c.in-Some.ensures in
    record {
      inside = omega (arith, found.inside);
      few = omega (arith, found.few);
      digits = one_digit_more c.args.line.now c.loop-digit.count found.inside c.loop-digit.invariant.digits found.digit;
      value = one_more_value c.args.line.now c.loop-digit.count c.loop-digit.number c.in-Some.digit found.inside c.loop-digit.invariant.value found.digit found.value;
    }
