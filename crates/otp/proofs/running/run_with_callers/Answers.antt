use Rattle.std.proofs.Common.{◌≡◌, arith, length, subst}
use Rattle.otp_close.specs.Closes.{IsReportOf}
use Rattle.otp_draft.specs.Trees.{size}
use Rattle.otp.proofs.running.run_with_callers.Goals as goal

pub returns-in-Ok-clause-run : goal.returns-in-Ok-clause-run
returns-in-Ok-clause-run g c =
    let ran = c.in-Ok.ensures {u = tt} in
    let some = ran.some in
    let few = ran.few in
    let same : length c.in-Ok.report.tables.items ≡ size c.args.root = omega (arith, some, few) in
    record { whole = subst (λ n. IsReportOf n c.in-Ok.report) same ran.report; begun = ran.plans; lawful = ran.lawful }
