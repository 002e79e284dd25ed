use Rattle.otp_tree_tests.proofs.looks.each_that_waits_is_looked_at.Given as goal

abbrev pub ghosts-looks_in : goal.ghosts-looks_in
ghosts-looks_in g a = record { words = a.opened.words }
