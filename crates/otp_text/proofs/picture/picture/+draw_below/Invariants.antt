use Rattle.otp_text.proofs.picture.picture.+draw_below.Given as goal

abbrev pub decreases-draw_below : goal.decreases-draw_below
decreases-draw_below g l = l.levels
