use Rattle.std.proofs.Common.{◌≡◌, take, arith, refl}
use Rattle.std.specs.Str.Parse.{digits_value}
use Rattle.otp_text.proofs.Numbers.{digit_here, number_more, number_fits}
use Rattle.otp_text.proofs.word.decimal_value.Goals as goal

pub overflow_mul-value : goal.overflow_mul-value
overflow_mul-value c =
    let fits = number_fits c.args.word.now c.loop-byte.byte-index c.loop-byte.value c.requires c.loop-byte-test.true c.loop-byte.invariant in
    omega (arith, fits)

pub overflow_sub-byte : goal.overflow_sub-byte
overflow_sub-byte c = omega (arith, digit_here c.args.word.now c.loop-byte.byte-index c.requires c.loop-byte-test.true)

pub overflow_add-value : goal.overflow_add-value
overflow_add-value c =
    let fits = number_fits c.args.word.now c.loop-byte.byte-index c.loop-byte.value c.requires c.loop-byte-test.true c.loop-byte.invariant in
    omega (arith, fits, c.from.ensures)

pub loop-byte-preserved : goal.loop-byte-preserved
loop-byte-preserved c =
    let more = number_more c.args.word.now c.loop-byte.byte-index c.requires c.loop-byte-test.true in
    let invariant : c.loop-byte.value ≡ digits_value 10 (take c.loop-byte.byte-index c.args.word.now) = c.loop-byte.invariant in
    rw (more, ← invariant, c.from.ensures) refl
