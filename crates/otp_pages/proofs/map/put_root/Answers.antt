use Rattle.std.proofs.Common.{◌≡◌, ◌++◌, ◌∙◌, List, OnOk, ap, codes, decimal, subst, ℕ}
use Rattle.otp_costs.specs.Table.{root_text}
use Rattle.otp_pages.specs.Maps.{root_html}
use Rattle.otp_pages.specs.Names.{paths_html}
use Rattle.otp_pages.proofs.Joined.{more, on_ok, whole}
use Rattle.otp_pages.proofs.map.put_root.Goals as goal

pub returns : goal.returns
unfolding root_html
returns c =
    let out : List ℕ = c.args.out.now.items in
    let piece1 : List ℕ = codes "<p>The root survives " in
    let mid1 : List ℕ = c.extend_from_slice.new.self.items in
    let is1 : mid1 ≡ out ++ piece1 = c.in_ok-extend_from_slice.ensures.items in
    let all1 : List ℕ = piece1 in
    let whole1 : mid1 ≡ out ++ all1 = is1 in
    let piece2 : List ℕ = root_text c.args.row.now.root in
    let mid2 : List ℕ = c.write_root.new.out.items in
    let is2 : mid2 ≡ mid1 ++ piece2 = c.in_ok-write_root.ensures in
    let all2 : List ℕ = all1 ++ piece2 in
    let whole2 : mid2 ≡ out ++ all2 = more out all1 mid1 piece2 mid2 whole1 is2 in
    let piece3 : List ℕ = paths_html c.args.row.now.ends in
    let mid3 : List ℕ = c.put_paths.new.out.items in
    let is3 : mid3 ≡ mid2 ++ piece3 = c.in_ok-put_paths.ensures ∙ ap (λ (paths : List (List ℕ)). mid2 ++ paths_html paths) c.as_slice.ensures in
    let all3 : List ℕ = all2 ++ piece3 in
    let whole3 : mid3 ≡ out ++ all3 = more out all2 mid2 piece3 mid3 whole2 is3 in
    let last : List ℕ = codes "</p>\n" in
    subst (λ (xs : List ℕ). OnOk c.extend_from_slice-2.result (c.extend_from_slice-2.new.self.items ≡ xs)) (whole out all3 mid3 last whole3) (on_ok c.extend_from_slice-2.result c.extend_from_slice-2.new.self.items (mid3 ++ last) mid3 c.extend_from_slice-2.ensures.items)
