use Rattle.otp_base.specs.Lawful.{IsLawful}
use Rattle.otp_base.specs.States.{state_in}
use Rattle.otp_base.proofs.Restarts.{rated, shows}
use Rattle.otp_base.proofs.parts.machine_at.Goals as goal

pub returns-in-Ok-clause-shows : goal.returns-in-Ok-clause-shows
returns-in-Ok-clause-shows c =
    let lawful : IsLawful c.args.base.now = c.fault_of.ensures.none c.in_default.is in
    shows (state_in c.args.base.now) lawful.restarts

pub returns-in-Ok-clause-rated : goal.returns-in-Ok-clause-rated
returns-in-Ok-clause-rated c =
    let lawful : IsLawful c.args.base.now = c.fault_of.ensures.none c.in_default.is in
    rated (state_in c.args.base.now) lawful.restarts
