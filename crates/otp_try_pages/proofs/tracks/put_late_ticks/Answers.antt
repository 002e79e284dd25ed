use Rattle.std.proofs.Common.{◌≡◌, ◌++◌, ◌∙◌, List, OnOk, ap, codes, subst, ℕ}
use Rattle.otp_try_pages.specs.Tracks.{end_tick, late_ticks, three_quarters, tick_html}
use Rattle.otp_try_pages.proofs.Joined.{whole}
use Rattle.otp_try_pages.proofs.tracks.put_late_ticks.Goals as goal

pub returns : goal.returns
unfolding late_ticks
returns c =
    let out : List ℕ = c.args.out.now.items in
    let piece1 : List ℕ = tick_html (codes "<text x=\"72%\" y=\"1em\">") (three_quarters c.args.last) in
    let mid1 : List ℕ = c.put_tick.new.out.items in
    let is1 : mid1 ≡ out ++ piece1 = c.in_ok-put_tick.ensures ∙ ap (λ (time : ℕ). out ++ tick_html (codes "<text x=\"72%\" y=\"1em\">") time) c.three_quarters.ensures in
    let all1 : List ℕ = piece1 in
    let whole1 : mid1 ≡ out ++ all1 = is1 in
    let last : List ℕ = end_tick c.args.last in
    subst (λ (xs : List ℕ). OnOk c.put_end_tick.result (c.put_end_tick.new.out.items ≡ xs)) (whole out all1 mid1 last whole1) c.put_end_tick.ensures
