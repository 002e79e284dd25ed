use Rattle.otp_machine.proofs.Rising.{found_at, none_at}
use Rattle.otp_machine.proofs.stores.answers.find_rising.Goals.{else-first-told-via-then-first-told+else-told-first, else-first-told-via-else-first-told}
use Rattle.otp_machine.proofs.stores.answers.find_rising.Goals as goal
use Rattle.std.proofs.Common.{arith}

pub returns-then-told-first-clause-some : goal.returns-then-told-first-clause-some
returns-then-told-first-clause-some c = found_at c.args.call c.args.told.now c.requires _ _ c.if-first-told.true c.if-told-first.true

pub returns-else-first-told-clause-none : goal.returns-else-first-told-clause-none
returns-else-first-told-clause-none c = λ _.
    none_at c.args.call c.args.told.now c.requires c.first_from-first.result (record { call = 0; place = 0 }) c.first_from-first.ensures.before c.first_from-first.ensures.after
    (elim c.else-first-told.branch [
      | else-first-told-via-then-first-told+else-told-first w ↦ λ _. w.if-told-first.false
      | else-first-told-via-else-first-told w ↦ λ lt _. omega (arith, lt, w.if-first-told.false)
    ])
