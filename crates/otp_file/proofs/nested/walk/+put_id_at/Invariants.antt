use Rattle.std.proofs.Common.{length}
use Rattle.otp_file.proofs.nested.walk.+put_id_at.Given as goal

abbrev pub decreases-put_id_at : goal.decreases-put_id_at
decreases-put_id_at l = length l.specs.now
