use Rattle.std.proofs.Common.{◌≡◌, inr}
use Rattle.std.proofs.lemmas.Result.{IfErr-weaker, IfOk-at_ok, IfOk-weaker}
use Rattle.otp_costs.specs.Costs.{Affects, Crashed}
use Rattle.otp_costs.specs.Fates.{Fills, IsUnplayed}
use Rattle.otp_trial.specs.declared.clock.Clock.TheVariants.{Milliseconds}
use Rattle.otp_costs.specs.Scene.{Opens, Scene}
use Rattle.otp_trial.specs.declared.trial.Halt.{Halt}
use Rattle.otp_trial.specs.declared.trial.Halt.TheVariants.{HistoryFull}
use Rattle.otp_costs.proofs.limits.cost.find_affected.Goals as goal

pub returns-clause-ok : goal.returns-clause-ok
returns-clause-ok c =
    let opened : Scene = c.in_ok-stage.stage in
    let opens : Opens c.args.supervisor.now.flags c.args.supervisor.now.specs opened =
    IfOk-at_ok (λ (s : Scene). Opens c.args.supervisor.now.flags c.args.supervisor.now.specs s) c.in_ok-stage.was c.open.ensures.ok in
    IfOk-weaker c.find_crashed.result (λ found. Crashed c.args.id.now opened found.0 found.1)
    (λ found. Affects c.args.supervisor.now.flags c.args.supervisor.now.specs c.args.id.now found.0 found.1)
    (λ found crashed. record { opened = opened; opens = opens; after = crashed.after; crashes = crashed.crashes; stopped = crashed.stopped; started = crashed.started })
    c.find_crashed.ensures.ok

pub returns-clause-full : goal.returns-clause-full
returns-clause-full c =
    let opened : Scene = c.in_ok-stage.stage in
    let opens : Opens c.args.supervisor.now.flags c.args.supervisor.now.specs opened =
    IfOk-at_ok (λ (s : Scene). Opens c.args.supervisor.now.flags c.args.supervisor.now.specs s) c.in_ok-stage.was c.open.ensures.ok in
    let Full : Halt → Type 0 = λ halt. halt ≡ HistoryFull → Fills Milliseconds c.args.id.now 0 1 opened in
    IfErr-weaker c.find_crashed.result Full (λ halt. halt ≡ HistoryFull → IsUnplayed c.args.supervisor.now.flags c.args.supervisor.now.specs Milliseconds c.args.id.now 0 1)
    (λ halt fills is. inr (record { opened = opened; opens = opens; fills = inr (fills is) })) c.find_crashed.ensures.full
