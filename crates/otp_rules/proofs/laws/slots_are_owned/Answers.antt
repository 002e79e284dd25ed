use Rattle.otp_rules.proofs.Slots.{slots_owned_law, slots_stay_owned_law}
use Rattle.otp_rules.proofs.laws.slots_are_owned.Goals as goal

pub returns-clause-from_empty : goal.returns-clause-from_empty
returns-clause-from_empty c = slots_owned_law

pub returns-clause-from_any : goal.returns-clause-from_any
returns-clause-from_any c = slots_stay_owned_law
