use Rattle.otp_driver.proofs.Linkings.{planted}
use Rattle.otp_driver.proofs.driver.Driver.plant.Goals as goal

pub returns-in-Ok : goal.returns-in-Ok
returns-in-Ok c =
    planted c.args.tree.now c.new.result c.nothing-driver.result c.add_tree.new.self c.nothing-driver.ensures c.new.ensures c.in-Ok.ensures.tree c.in-Ok.ensures.links
