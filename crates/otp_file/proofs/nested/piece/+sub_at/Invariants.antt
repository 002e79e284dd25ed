use Rattle.std.proofs.Common.{length}
use Rattle.otp_file.proofs.nested.piece.+sub_at.Given as goal

abbrev pub decreases-sub_at : goal.decreases-sub_at
decreases-sub_at l = length l.nested.now
