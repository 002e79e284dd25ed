use Rattle.std.proofs.Common.{◌≡◌, ◌++◌, ◌∙◌, List, OnOk, ap, codes, decimal, subst, ℕ}
use Rattle.otp_pages.specs.Costs.{bar_html}
use Rattle.otp_pages.specs.Maps.{summary_html, title_html}
use Rattle.otp_pages.proofs.Joined.{more, on_ok, whole}
use Rattle.otp_pages.proofs.map.put_summary.Goals as goal

pub returns : goal.returns
unfolding summary_html
returns c =
    let out : List ℕ = c.args.out.now.items in
    let piece1 : List ℕ = title_html c.args.id.now in
    let mid1 : List ℕ = c.put_title.new.out.items in
    let is1 : mid1 ≡ out ++ piece1 = c.in_ok-put_title.ensures in
    let all1 : List ℕ = piece1 in
    let whole1 : mid1 ≡ out ++ all1 = is1 in
    let piece2 : List ℕ = bar_html c.args.burst in
    let mid2 : List ℕ = c.put_bar.new.out.items in
    let is2 : mid2 ≡ mid1 ++ piece2 = c.in_ok-put_bar.ensures in
    let all2 : List ℕ = all1 ++ piece2 in
    let whole2 : mid2 ≡ out ++ all2 = more out all1 mid1 piece2 mid2 whole1 is2 in
    let last : List ℕ = codes "</summary>\n" in
    subst (λ (xs : List ℕ). OnOk c.extend_from_slice.result (c.extend_from_slice.new.self.items ≡ xs)) (whole out all2 mid2 last whole2) (on_ok c.extend_from_slice.result c.extend_from_slice.new.self.items (mid2 ++ last) mid2 c.extend_from_slice.ensures.items)
