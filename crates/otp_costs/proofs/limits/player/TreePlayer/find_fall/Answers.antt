use Rattle.std.proofs.Common.{◌≡◌, ◌∙◌, List, None, false, map, rules, subst, sym, true}
use Rattle.otp_trial.specs.Played.{IsPlanted, Seated, fresh}
use Rattle.otp_costs.specs.declared.limits.fall.TheConstants.{MOST_FALLS}
use Rattle.otp_costs.proofs.FallsKept.{bears_keeps}
use Rattle.otp_costs.proofs.limits.player.TreePlayer.find_fall.Goals as goal

pub invariant_of-self-2 : goal.invariant_of-self-2
invariant_of-self-2 c =
    let planted : List Seated = map fresh c.self.inside.trial.seats in
    let whole : c.self.inside.is_whole ≡ true = search rules in
    let was : IsPlanted false c.self.inside.tree.now planted = c.self.invariant.planted whole in
    let keeps = bears_keeps c.trees_are_kept.ensures.kept planted c.args.place c.args.id.now MOST_FALLS c.in_ok-root.root c.bear_from.new.trial c.in_ok-root.ensures in
    record {
      clock = λ _. keeps.clock;
      planted = λ _. subst (λ (s : List Seated). IsPlanted false c.self.inside.tree.now s)
          (sym (keeps.seats ∙ c.trees_are_kept.ensures.fresh None false c.self.inside.tree.now planted was)) was;
    }
