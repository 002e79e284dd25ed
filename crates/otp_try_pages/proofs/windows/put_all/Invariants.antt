use Rattle.std.proofs.Common.{◌≡◌, ◌++◌, drop}
use Rattle.otp_try_pages.specs.Windows.{windows_from}
use Rattle.otp_try_pages.proofs.windows.put_all.Given as goal

abbrev pub invariant-loop-seat : goal.invariant-loop-seat
invariant-loop-seat l =
    l.out.items ++ windows_from l.last l.place (drop l.seat-index l.seats) l.lines l.told
    ≡ l.fn.out.items ++ windows_from l.last 0 l.seats l.lines l.told
