use Rattle.otp_trial.proofs.Again.{all_planted_are_fresh, events_keep_trees}
use Rattle.otp_trial.proofs.laws.trees_are_kept.Goals as goal

pub returns-clause-fresh : goal.returns-clause-fresh
returns-clause-fresh c = all_planted_are_fresh

pub returns-clause-kept : goal.returns-clause-kept
returns-clause-kept c = events_keep_trees
