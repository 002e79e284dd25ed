use Rattle.std.proofs.Common.{◌≡◌, ◌++◌, drop}
use Rattle.otp_try_pages.specs.Timeline.{rows_html}
use Rattle.otp_try_pages.proofs.page.put_rows.Given as goal

abbrev pub invariant-loop-one : goal.invariant-loop-one
invariant-loop-one l = l.out.items ++ rows_html l.last l.seats (drop l.one-index l.lines) ≡ l.fn.out.items ++ rows_html l.fn.last l.seats l.lines
