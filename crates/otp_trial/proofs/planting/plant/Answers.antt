use Rattle.otp_trial.proofs.Plantings.{planted}
use Rattle.otp_trial.proofs.planting.plant.Goals as goal

pub returns-in-Ok : goal.returns-in-Ok
returns-in-Ok c =
    planted c.args.tells c.args.tree.now c.new.result.items c.add_tree.new.self.seats.items c.new.ensures.items c.in-Ok.ensures.tree c.in-Ok.ensures.paths
