use Rattle.std.specs.Prelude.{Some}
use Rattle.otp_sup_tests.proofs.script.plays.Given as goal

abbrev pub ghosts-play_in-N-WordsNaming : goal.ghosts-play_in-N-WordsNaming
ghosts-play_in-N-WordsNaming g a = record { words = a.words.words }

abbrev pub ghosts-play_in-N-InboxNaming : goal.ghosts-play_in-N-InboxNaming
ghosts-play_in-N-InboxNaming g a = record { inbox = λ number. a.inbox }

abbrev pub ghosts-play_in-N-PlanNaming : goal.ghosts-play_in-N-PlanNaming
ghosts-play_in-N-PlanNaming g a = record { plan = λ number. Some a.supervisor }
