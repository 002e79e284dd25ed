use Rattle.std.proofs.Common.{◌≡◌, [], drop}
use Rattle.otp_text.specs.Picture.{ids_at}
use Rattle.otp_text.proofs.timeline.names.ids_at.Given as goal

abbrev pub invariant-loop-moment : goal.invariant-loop-moment
invariant-loop-moment l = ids_at l.place l.ids.items (drop l.moment-index l.moments) ≡ ids_at l.place [] l.moments
