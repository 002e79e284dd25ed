-- Who asks for the next order makes a step of a run.
use Rattle.std.specs.Prelude.{ℕ, Ok, Some}
use Rattle.std.proofs.Common.{subst, sym}
use Rattle.otp_driver.specs.declared.order.Order.{Order}
use Rattle.otp_driver.specs.declared.session.Session.{Session}
use Rattle.otp_driver.specs.Runs.{HandsOut}
use Rattle.otp_driver.specs.Sessions.{NextsRun, NextTold}

told_runs : (old new : Session) (order : Order) → NextTold (Ok (Some order)) old new → HandsOut order old.driver new.driver
told_runs old new order told =
    subst (λ (p : ℕ). HandsOut (record { supervisor = p; what = order.what }) old.driver new.driver) (sym told.supervisor)
    (record { mid = told.mid; goes_on = told.goes_on; outside = record { order = told.effect; next = told.next; first = told.first }; says = told.what_is; takes = told.takes })

pub nexts_run : NextsRun
nexts_run old new = (λ order told. told_runs old new order told, λ done. (done.0, done.1))
