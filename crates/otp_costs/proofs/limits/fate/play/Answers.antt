use Rattle.std.proofs.Common.{◌≡◌, inr}
use Rattle.std.proofs.lemmas.Result.{IfErr-weaker, IfOk-at_ok, IfOk-weaker}
use Rattle.otp_costs.specs.declared.limits.fate.Fate.{Fate}
use Rattle.otp_costs.specs.Fates.{Fares, Fills, IsUnplayed, Plays}
use Rattle.otp_costs.specs.Scene.{Opens, Scene}
use Rattle.otp_trial.specs.declared.trial.Halt.{Halt}
use Rattle.otp_trial.specs.declared.trial.Halt.TheVariants.{HistoryFull}
use Rattle.otp_costs.proofs.limits.fate.play.Goals as goal

pub returns-clause-ok : goal.returns-clause-ok
returns-clause-ok c =
    let opened : Scene = c.in_ok-stage.stage in
    let opens : Opens c.args.supervisor.now.flags c.args.supervisor.now.specs opened =
    IfOk-at_ok (λ (s : Scene). Opens c.args.supervisor.now.flags c.args.supervisor.now.specs s) c.in_ok-stage.was c.open.ensures.ok in
    let Ends : Fate → Type 0 = Fares c.args.clock c.args.id.now c.args.gap c.args.crashes opened in
    IfOk-weaker c.fare-fate.result Ends (Plays c.args.supervisor.now.flags c.args.supervisor.now.specs c.args.clock c.args.id.now c.args.gap c.args.crashes)
    (λ fate fares. record { opened = opened; opens = opens; fares = fares }) c.fare-fate.ensures.ok

pub returns-clause-full : goal.returns-clause-full
returns-clause-full c =
    let opened : Scene = c.in_ok-stage.stage in
    let opens : Opens c.args.supervisor.now.flags c.args.supervisor.now.specs opened =
    IfOk-at_ok (λ (s : Scene). Opens c.args.supervisor.now.flags c.args.supervisor.now.specs s) c.in_ok-stage.was c.open.ensures.ok in
    let Full : Halt → Type 0 = λ halt. halt ≡ HistoryFull → Fills c.args.clock c.args.id.now c.args.gap c.args.crashes opened in
    IfErr-weaker c.fare-fate.result Full (λ halt. halt ≡ HistoryFull → IsUnplayed c.args.supervisor.now.flags c.args.supervisor.now.specs c.args.clock c.args.id.now c.args.gap c.args.crashes)
    (λ halt fills is. inr (record { opened = opened; opens = opens; fills = inr (fills is) })) c.fare-fate.ensures.full
