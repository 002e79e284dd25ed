use Rattle.std.proofs.Common.{◌≡◌, arith, length, subst}
use Rattle.otp_close.proofs.SparePlaces.{all_tables}
use Rattle.otp_open.proofs.SparePlaces.{all_known, none_left_out}
use Rattle.otp_open.specs.Plans.{plans_of}
use Rattle.otp_tree.specs.Runs.{IsGrownRun, IsNamedRun}
use Rattle.otp_live.proofs.live.run_spanned.Goals as goal

pub returns-in-Ok-clause-run : goal.returns-in-Ok-clause-run
returns-in-Ok-clause-run g c =
    let plans = c.args.plans.items in
    let report = c.in-Ok.report in
    let len = c.len-known.ensures in
    let ok = c.args.plans.ok.0 in
    let many : c.len-known.result ≡ length plans = omega (arith, len, ok) in
    let grown = subst (λ f. IsGrownRun f (length plans) plans report) (none_left_out c.len-known.result plans many) (c.in-Ok.ensures {u = tt}).run in
    subst (λ n. IsNamedRun (plans_of plans) n plans report) (all_tables (plans_of plans) (length plans) (length report.tables.items) grown.count (all_known plans)) grown.run
