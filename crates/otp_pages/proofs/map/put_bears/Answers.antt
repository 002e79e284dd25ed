use Rattle.std.proofs.Common.{◌≡◌, ◌++◌, ◌∙◌, List, OnOk, ap, codes, decimal, subst, ℕ}
use Rattle.otp_costs.specs.Words.{burst_text}
use Rattle.otp_pages.specs.Costs.{gives_up_html}
use Rattle.otp_pages.specs.Maps.{bears_html}
use Rattle.otp_pages.proofs.Joined.{more, on_ok, whole}
use Rattle.otp_pages.proofs.map.put_bears.Goals as goal

pub returns : goal.returns
unfolding bears_html
returns c =
    let out : List ℕ = c.args.out.now.items in
    let piece1 : List ℕ = codes "<p>Survived at once: " in
    let mid1 : List ℕ = c.extend_from_slice.new.self.items in
    let is1 : mid1 ≡ out ++ piece1 = c.in_ok-extend_from_slice.ensures.items in
    let all1 : List ℕ = piece1 in
    let whole1 : mid1 ≡ out ++ all1 = is1 in
    let piece2 : List ℕ = burst_text c.args.row.now.own.burst in
    let mid2 : List ℕ = c.write_burst.new.out.items in
    let is2 : mid2 ≡ mid1 ++ piece2 = c.in_ok-write_burst.ensures in
    let all2 : List ℕ = all1 ++ piece2 in
    let whole2 : mid2 ≡ out ++ all2 = more out all1 mid1 piece2 mid2 whole1 is2 in
    let piece3 : List ℕ = codes "; then gives up " in
    let mid3 : List ℕ = c.extend_from_slice-2.new.self.items in
    let is3 : mid3 ≡ mid2 ++ piece3 = c.in_ok-extend_from_slice-2.ensures.items in
    let all3 : List ℕ = all2 ++ piece3 in
    let whole3 : mid3 ≡ out ++ all3 = more out all2 mid2 piece3 mid3 whole2 is3 in
    let piece4 : List ℕ = gives_up_html c.args.row.now.path c.args.row.now.own.burst in
    let mid4 : List ℕ = c.put_gives_up.new.out.items in
    let is4 : mid4 ≡ mid3 ++ piece4 = c.in_ok-put_gives_up.ensures ∙ ap (λ (path : List ℕ). mid3 ++ gives_up_html path c.args.row.now.own.burst) c.as_bytes.ensures in
    let all4 : List ℕ = all3 ++ piece4 in
    let whole4 : mid4 ≡ out ++ all4 = more out all3 mid3 piece4 mid4 whole3 is4 in
    let last : List ℕ = codes "</p>\n" in
    subst (λ (xs : List ℕ). OnOk c.extend_from_slice-3.result (c.extend_from_slice-3.new.self.items ≡ xs)) (whole out all4 mid4 last whole4) (on_ok c.extend_from_slice-3.result c.extend_from_slice-3.new.self.items (mid4 ++ last) mid4 c.extend_from_slice-3.ensures.items)
