use Rattle.std.proofs.Common.{◌≡◌, ◌++◌, replicate}
use Rattle.otp_try_pages.specs.Tracks.{unseen}
use Rattle.otp_try_pages.proofs.tracks.put_unseen.Given as goal

abbrev pub invariant-loop : goal.invariant-loop
invariant-loop l = l.seen.items ≡ l.fn.seen.items ++ replicate l.counter unseen
