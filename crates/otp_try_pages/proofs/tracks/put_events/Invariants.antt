use Rattle.std.proofs.Common.{◌≡◌, ◌++◌, drop}
use Rattle.otp_try_pages.specs.Tracks.{events_from}
use Rattle.otp_try_pages.proofs.tracks.put_events.Given as goal

abbrev pub invariant-loop-byte : goal.invariant-loop-byte
invariant-loop-byte l =
    l.out.items ++ events_from l.last l.names l.seen.items l.line.items (drop l.byte-index l.told)
    ≡ l.fn.out.items ++ events_from l.last l.names l.fn.seen.items l.fn.line.items l.told
