use Rattle.otp_check.proofs.parts.+scan_below.Given as goal

abbrev pub decreases-scan_below : goal.decreases-scan_below
decreases-scan_below l = l.levels
