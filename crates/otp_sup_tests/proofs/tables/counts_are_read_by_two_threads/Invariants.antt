use Rattle.std.specs.Prelude.{Some}
use Rattle.otp_sup_tests.proofs.tables.counts_are_read_by_two_threads.Given as goal

abbrev pub ghosts-read_beside-N-WordsNaming : goal.ghosts-read_beside-N-WordsNaming
ghosts-read_beside-N-WordsNaming g a = record { words = a.words.words }

abbrev pub ghosts-read_beside-N-InboxNaming : goal.ghosts-read_beside-N-InboxNaming
ghosts-read_beside-N-InboxNaming g a = record { inbox = λ number. a.inbox }

abbrev pub ghosts-read_beside-N-PlanNaming : goal.ghosts-read_beside-N-PlanNaming
ghosts-read_beside-N-PlanNaming g a = record { plan = λ number. Some a.supervisor }
