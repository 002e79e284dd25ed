use Rattle.otp_open.proofs.SparePlaces.{first_planned, none_planned}
use Rattle.otp_tree.proofs.Grown.{numbered_last}
use Rattle.otp_tree.proofs.session.run_padded.Goals as goal

pub run_named-requires-clause-plans : goal.run_named-requires-clause-plans
run_named-requires-clause-plans g c = λ κs within. first_planned c.args.opened c.in-Ok.parts.plans.items

pub run_named-requires-clause-free : goal.run_named-requires-clause-free
run_named-requires-clause-free g c = λ κs within. none_planned c.args.opened c.in-Ok.parts.plans.items

pub run_named-requires-clause-outer : goal.run_named-requires-clause-outer
run_named-requires-clause-outer g c = λ κs within. numbered_last c.in-Ok.parts.inboxes.items c.in-Ok.parts.outer
