use Rattle.std.proofs.Common.{List, None, ap, false, subst, sym}
use Rattle.otp_trial.specs.Played.{IsPlanted, Seated, Stand}
use Rattle.otp_costs.proofs.limits.player.TreePlayer.of.Goals as goal

pub invariant_of-result : goal.invariant_of-result
invariant_of-result c =
    let seats : List Seated = c.in_ok-trial.trial.seats in
    record {
      clock = λ _. ap (λ (s : Stand). s.clock) c.in_ok-trial.ensures.stands;
      planted = λ _. subst (λ (s : List Seated). IsPlanted false c.args.tree.now s)
          (sym (c.trees_are_kept.ensures.fresh None false c.args.tree.now seats c.in_ok-trial.ensures.planted)) c.in_ok-trial.ensures.planted;
    }
