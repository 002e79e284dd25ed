use Rattle.otp_draft.proofs.Fits.{deep_at_none, many_at_none, plain_at_none, simple_at_none}
use Rattle.otp_draft.proofs.draft.TreeDraft.put.Goals as goal
use Rattle.otp_spec.specs.Flags.{is_simple}

pub put_tree-requires-clause-deep : goal.put_tree-requires-clause-deep
put_tree-requires-clause-deep g c = deep_at_none c.args.spec c.in-Supervisor.tree c.args.self.now (rw c.in-Supervisor.is at c.requires.fits)

pub put_tree-requires-clause-many : goal.put_tree-requires-clause-many
put_tree-requires-clause-many g c = many_at_none c.args.spec c.in-Supervisor.tree c.args.self.now (rw c.in-Supervisor.is at c.requires.fits)

pub put_tree-requires-clause-plain : goal.put_tree-requires-clause-plain
put_tree-requires-clause-plain g c = plain_at_none (is_simple c.args.self.now.flags.strategy) (rw c.in-Supervisor.is at c.requires.kind)

pub put_body-requires-clause-plain : goal.put_body-requires-clause-plain
put_body-requires-clause-plain g c = plain_at_none (is_simple c.args.self.now.flags.strategy) (rw c.in-Worker.is at c.requires.kind)

pub put_body-requires-in-Bridge-clause-plain : goal.put_body-requires-in-Bridge-clause-plain
put_body-requires-in-Bridge-clause-plain g c = plain_at_none (is_simple c.args.self.now.flags.strategy) (rw c.in-Bridge.is at c.requires.kind)

pub put_template-requires-clause-simple : goal.put_template-requires-clause-simple
put_template-requires-clause-simple g c = simple_at_none (is_simple c.args.self.now.flags.strategy) (rw c.in-Template.is at c.requires.kind)
