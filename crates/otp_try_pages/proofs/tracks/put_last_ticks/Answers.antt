use Rattle.std.proofs.Common.{◌≡◌, ◌++◌, List, OnOk, codes, subst, ℕ, ◌/◌}
use Rattle.otp_try_pages.specs.Tracks.{last_ticks, late_ticks, tick_html}
use Rattle.otp_try_pages.proofs.Joined.{whole}
use Rattle.otp_try_pages.proofs.tracks.put_last_ticks.Goals as goal

pub returns : goal.returns
unfolding last_ticks
returns c =
    let out : List ℕ = c.args.out.now.items in
    let piece1 : List ℕ = tick_html (codes "<text x=\"48%\" y=\"1em\">") (c.args.last / 2) in
    let mid1 : List ℕ = c.put_tick.new.out.items in
    let is1 : mid1 ≡ out ++ piece1 = c.in_ok-put_tick.ensures in
    let all1 : List ℕ = piece1 in
    let whole1 : mid1 ≡ out ++ all1 = is1 in
    let last : List ℕ = late_ticks c.args.last in
    subst (λ (xs : List ℕ). OnOk c.put_late_ticks.result (c.put_late_ticks.new.out.items ≡ xs)) (whole out all1 mid1 last whole1) c.put_late_ticks.ensures
