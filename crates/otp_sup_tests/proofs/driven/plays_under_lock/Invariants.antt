use Rattle.std.specs.Prelude.{Some}
use Rattle.otp_sup_tests.proofs.driven.plays_under_lock.Given as goal

abbrev pub ghosts-play_under_lock-N-WordsNaming : goal.ghosts-play_under_lock-N-WordsNaming
ghosts-play_under_lock-N-WordsNaming g a = record { words = a.words.words }

abbrev pub ghosts-play_under_lock-N-InboxNaming : goal.ghosts-play_under_lock-N-InboxNaming
ghosts-play_under_lock-N-InboxNaming g a = record { inbox = λ number. a.inbox }

abbrev pub ghosts-play_under_lock-N-PlanNaming : goal.ghosts-play_under_lock-N-PlanNaming
ghosts-play_under_lock-N-PlanNaming g a = record { plan = λ number. Some a.supervisor }
