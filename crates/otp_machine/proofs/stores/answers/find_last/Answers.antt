use Rattle.std.proofs.Common.{◌-◌, ◌<◌, length, arith}
use Rattle.otp_machine.proofs.Replies.{found}
use Rattle.otp_machine.proofs.stores.answers.find_last.Goals as goal

pub returns-then-told-place-clause-some : goal.returns-then-told-place-clause-some
returns-then-told-place-clause-some c = λ replies.
    let within : c.loop-place.place - 1 < length c.args.told.now = omega arith in
    found c.args.call c.loop-place.place replies c.args.told.now (record { call = 0; place = 0 }) (record { call = 0; place = 0 })
    c.loop-place-test.true within c.if-told-place.true (c.loop-place.invariant.later replies)
