use Rattle.std.proofs.Common.{◌≡◌, ◌++◌, ◌∙◌, List, OnOk, ap, codes, decimal, subst, ℕ}
use Rattle.otp_costs.specs.Words.{burst_text}
use Rattle.otp_pages.specs.Costs.{bar_ground, bar_html, bar_of, bar_opening}
use Rattle.otp_pages.proofs.Joined.{more, on_ok, whole}
use Rattle.otp_pages.proofs.fates.put_bar.Goals as goal

pub returns : goal.returns
unfolding bar_html
returns c =
    let out : List ℕ = c.args.out.now.items in
    let piece1 : List ℕ = bar_opening in
    let mid1 : List ℕ = c.put_bar_opening.new.out.items in
    let is1 : mid1 ≡ out ++ piece1 = c.in_ok-put_bar_opening.ensures in
    let all1 : List ℕ = piece1 in
    let whole1 : mid1 ≡ out ++ all1 = is1 in
    let piece2 : List ℕ = burst_text c.args.burst in
    let mid2 : List ℕ = c.write_burst.new.out.items in
    let is2 : mid2 ≡ mid1 ++ piece2 = c.in_ok-write_burst.ensures in
    let all2 : List ℕ = all1 ++ piece2 in
    let whole2 : mid2 ≡ out ++ all2 = more out all1 mid1 piece2 mid2 whole1 is2 in
    let piece3 : List ℕ = bar_ground in
    let mid3 : List ℕ = c.put_bar_ground.new.out.items in
    let is3 : mid3 ≡ mid2 ++ piece3 = c.in_ok-put_bar_ground.ensures in
    let all3 : List ℕ = all2 ++ piece3 in
    let whole3 : mid3 ≡ out ++ all3 = more out all2 mid2 piece3 mid3 whole2 is3 in
    let piece4 : List ℕ = decimal (bar_of c.args.burst) in
    let mid4 : List ℕ = c.write_number.new.out.items in
    let is4 : mid4 ≡ mid3 ++ piece4 = c.in_ok-write_number.ensures ∙ ap (λ (n : ℕ). mid3 ++ decimal n) c.bar_of.ensures in
    let all4 : List ℕ = all3 ++ piece4 in
    let whole4 : mid4 ≡ out ++ all4 = more out all3 mid3 piece4 mid4 whole3 is4 in
    let last : List ℕ = codes "\" height=\"2\"></rect></svg>" in
    subst (λ (xs : List ℕ). OnOk c.extend_from_slice.result (c.extend_from_slice.new.self.items ≡ xs)) (whole out all4 mid4 last whole4) (on_ok c.extend_from_slice.result c.extend_from_slice.new.self.items (mid4 ++ last) mid4 c.extend_from_slice.ensures.items)
