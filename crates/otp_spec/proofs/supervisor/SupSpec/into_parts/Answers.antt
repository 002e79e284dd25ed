use Rattle.otp_spec.proofs.SupervisorLemmas.{lawful-faultless}
use Rattle.otp_spec.proofs.supervisor.SupSpec.into_parts.Goals as goal

pub returns-clause-fault : goal.returns-clause-fault
returns-clause-fault c = rw (← c.self.view_is) (lawful-faultless c.self.inside.flags c.self.inside.specs.items c.self.invariant)
