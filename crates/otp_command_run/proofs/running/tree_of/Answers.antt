use Rattle.otp_command_run.proofs.Few.{few_in}
use Rattle.otp_command_run.proofs.running.tree_of.Goals as goal

pub returns-clause-few : goal.returns-clause-few
returns-clause-few c = few_in c.args.file.now c.read_tree.result c.read_tree.ensures.tree
