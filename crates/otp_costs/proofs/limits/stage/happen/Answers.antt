use Rattle.std.proofs.Common.{subst}
use Rattle.otp_driver.specs.Members.{IsRefused}
use Rattle.otp_driver.specs.declared.driven.fault.DriveFault.{DriveFault}
use Rattle.otp_costs.proofs.Scenes.{spent}
use Rattle.otp_costs.proofs.limits.stage.happen.Goals as goal

pub returns-in-Err-clause-full : goal.returns-in-Err-clause-full
returns-in-Err-clause-full c =
    λ full. spent c.args.last c.args.supervisor.now
    (subst (λ (why : DriveFault). IsRefused c.args.last c.args.supervisor.now why) (c.halt_of.ensures full) (c.in-Err.ensures {u = tt}).why)
    c.requires.given c.requires.last c.requires.numbers
