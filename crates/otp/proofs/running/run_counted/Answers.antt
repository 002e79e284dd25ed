use Rattle.std.proofs.Common.{subst}
use Rattle.otp_close.specs.Closes.{IsReportOf}
use Rattle.otp.proofs.Begun.{have_begun, none_bare, plans_back}
use Rattle.otp.proofs.running.run_counted.Goals as goal

pub returns-in-Ok-clause-run : goal.returns-in-Ok-clause-run
returns-in-Ok-clause-run g c =
    let made = c.in_ok-plans.ensures {u = tt} in
    let ran = (c.in-Ok.ensures {u = tt}).run in
    let report = c.in-Ok.run'.report in
    record {
      whole = subst (λ n. IsReportOf n report) made.count ran.whole;
      begun = have_begun c.in_ok-plans.plans.items c.args.root report.tables.items made.plans ran.begun;
      lawful = made.lawful;
    }

pub returns-in-Err-clause-back : goal.returns-in-Err-clause-back
returns-in-Err-clause-back g c =
    let made = c.in_ok-plans.ensures {u = tt} in
    let why = (c.in-Err.ensures {u = tt}).unrun in (
      made.lawful,
      (why.mismatch, (why.missing, (none_bare c.in_ok-plans.plans.items c.in-Err.why made.bodies why.opened, plans_back c.in_ok-plans.plans.items c.args.root c.in-Err.why made.plans why.opened))),
    )
