use Rattle.std.specs.Prelude.{◌++◌, ◌∷◌, []}
use Rattle.otp_inbox.specs.Names as inboxes
use Rattle.otp_open.specs.Plans.{first_plans}
use Rattle.otp_run.specs.Names as deques
use Rattle.otp_live.proofs.served.serve_tree.Given as goal

abbrev pub ghosts-serve_named-N-WordsNaming : goal.ghosts-serve_named-N-WordsNaming
ghosts-serve_named-N-WordsNaming g a = record { words = a.parts.words.words }

abbrev pub ghosts-serve_named-N-InboxNaming : goal.ghosts-serve_named-N-InboxNaming
ghosts-serve_named-N-InboxNaming g a = record { inbox = inboxes.numbered (a.parts.inboxes.items ++ a.parts.outer ∷ []) }

abbrev pub ghosts-serve_named-N-PlanNaming : goal.ghosts-serve_named-N-PlanNaming
ghosts-serve_named-N-PlanNaming g a = record { plan = first_plans a.known a.parts.plans.items }

abbrev pub ghosts-serve_named-N-RunNaming : goal.ghosts-serve_named-N-RunNaming
ghosts-serve_named-N-RunNaming g a = record { deque = deques.numbered a.parts.queue }
