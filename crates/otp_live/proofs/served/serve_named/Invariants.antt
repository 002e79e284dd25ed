use Rattle.otp_hand.specs.Standings.{reach_of}
use Rattle.otp_live.proofs.served.serve_named.Given as goal

abbrev pub ghosts-serve_locked : goal.ghosts-serve_locked
ghosts-serve_locked g a = record { reach = reach_of a.client }
