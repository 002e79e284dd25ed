use Rattle.std.specs.Prelude.{Some}
use Rattle.otp_sup_tests.proofs.clients.two_clients_and_a_hand.Given as goal

abbrev pub ghosts-clients_in-N-WordsNaming : goal.ghosts-clients_in-N-WordsNaming
ghosts-clients_in-N-WordsNaming g a = record { words = a.words.words }

abbrev pub ghosts-clients_in-N-InboxNaming : goal.ghosts-clients_in-N-InboxNaming
ghosts-clients_in-N-InboxNaming g a = record { inbox = λ number. a.inbox }

abbrev pub ghosts-clients_in-N-PlanNaming : goal.ghosts-clients_in-N-PlanNaming
ghosts-clients_in-N-PlanNaming g a = record { plan = λ number. Some a.supervisor }
