use Rattle.std.proofs.Common.{sym, ◌∙◌}
use Rattle.std.specs.Prelude.{is_some}
use Rattle.otp_file.specs.Children.{tree_of}
use Rattle.otp_file.proofs.WalkLemmas.{list_any-view}
use Rattle.otp_file.proofs.supervisor.has_trees.Goals as goal

pub returns : goal.returns
returns c = c.is_any_nested.ensures ∙ sym (list_any-view (λ child. is_some (tree_of child)) c.args.children.now)
