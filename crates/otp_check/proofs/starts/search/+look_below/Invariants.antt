use Rattle.otp_check.proofs.starts.search.+look_below.Given as goal

abbrev pub decreases-look_below : goal.decreases-look_below
decreases-look_below l = l.levels
