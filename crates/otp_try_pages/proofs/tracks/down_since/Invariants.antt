use Rattle.std.proofs.Common.{◌≡◌, None, drop}
use Rattle.otp_try_pages.specs.Tracks.{down_since}
use Rattle.otp_try_pages.proofs.tracks.down_since.Given as goal

abbrev pub invariant-loop-one : goal.invariant-loop-one
invariant-loop-one l = down_since l.name l.seats l.since (drop l.one-index l.lines) ≡ down_since l.name l.seats None l.lines
