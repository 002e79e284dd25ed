use Rattle.std.proofs.Common.{◌≡◌, ◌++◌, drop}
use Rattle.otp_try_pages.specs.Tracks.{tracks_html}
use Rattle.otp_try_pages.proofs.tracks.put_tracks.Given as goal

abbrev pub invariant-loop-name : goal.invariant-loop-name
invariant-loop-name l =
    l.out.items ++ tracks_html l.last l.seats l.lines l.row (drop l.name-index l.names)
    ≡ l.fn.out.items ++ tracks_html l.last l.seats l.lines l.fn.first l.names
