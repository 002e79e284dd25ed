use Rattle.std.proofs.Common.{take}
use Rattle.std.specs.Prelude.{◌++◌, ◌∷◌, []}
use Rattle.otp_inbox.specs.Names as inboxes
use Rattle.otp_open.specs.Plans.{plans_of}
use Rattle.otp_run.specs.Names as deques
use Rattle.otp_tree.proofs.session.run_padded.Given as goal

abbrev pub ghosts-run_named-N-WordsNaming : goal.ghosts-run_named-N-WordsNaming
ghosts-run_named-N-WordsNaming g a = record { words = a.parts.words.words }

abbrev pub ghosts-run_named-N-InboxNaming : goal.ghosts-run_named-N-InboxNaming
ghosts-run_named-N-InboxNaming g a = record { inbox = inboxes.numbered (a.parts.inboxes.items ++ a.parts.outer ∷ []) }

abbrev pub ghosts-run_named-N-PlanNaming : goal.ghosts-run_named-N-PlanNaming
ghosts-run_named-N-PlanNaming g a = record { plan = plans_of (take a.opened a.parts.plans.items) }

abbrev pub ghosts-run_named-N-RunNaming : goal.ghosts-run_named-N-RunNaming
ghosts-run_named-N-RunNaming g a = record { deque = deques.numbered a.parts.queue }
