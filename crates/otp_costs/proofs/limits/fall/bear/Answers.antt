use Rattle.std.proofs.Common.{List, false, map, subst}
use Rattle.std.proofs.lemmas.Result.{IfOk-weaker}
use Rattle.otp_trial.specs.Played.{Seated, fresh}
use Rattle.otp_costs.specs.Falls.{Bears, BearsFrom}
use Rattle.otp_costs.proofs.limits.fall.bear.Goals as goal

pub returns : goal.returns
returns c =
    let planted : List Seated = c.in_ok-trial.trial.seats in
    IfOk-weaker c.bear_from-root.result (λ root. BearsFrom (map fresh planted) c.args.place c.args.id.now c.args.count root c.bear_from-root.new.trial)
    (λ root. Bears c.args.change c.args.tree.now c.args.place c.args.id.now c.args.count root)
    (λ root bears.
    let from = subst (λ (s : List Seated). BearsFrom s c.args.place c.args.id.now c.args.count root c.bear_from-root.new.trial)
    (c.trees_are_kept.ensures.fresh c.args.change false c.args.tree.now planted c.in_ok-trial.ensures.planted) bears in
    record {
      opened = from.opened;
      opens = record { planted = planted; is_planted = c.in_ok-trial.ensures.planted; opens = from.opens };
      after = c.bear_from-root.new.trial;
      falls = from.falls;
    }) c.bear_from-root.ensures
