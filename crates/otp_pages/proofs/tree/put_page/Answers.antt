use Rattle.std.proofs.Common.{◌≡◌, ◌++◌, ◌∙◌, List, OnOk, ap, codes, decimal, subst, ℕ}
use Rattle.otp_pages.specs.Frame.{foot_text, head_text}
use Rattle.otp_pages.specs.Trees.{tree_legend, tree_page}
use Rattle.otp_pages.proofs.Joined.{more, on_ok, whole}
use Rattle.otp_pages.proofs.tree.put_page.Goals as goal

pub returns : goal.returns
unfolding tree_page
returns c =
    let out : List ℕ = c.args.out.now.items in
    let piece1 : List ℕ = head_text (codes "Supervision tree of") c.args.name.now in
    let mid1 : List ℕ = c.put_head.new.out.items in
    let is1 : mid1 ≡ out ++ piece1 = c.in_ok-put_head.ensures in
    let all1 : List ℕ = piece1 in
    let whole1 : mid1 ≡ out ++ all1 = is1 in
    let piece2 : List ℕ = tree_legend in
    let mid2 : List ℕ = c.put_legend.new.out.items in
    let is2 : mid2 ≡ mid1 ++ piece2 = c.in_ok-put_legend.ensures in
    let all2 : List ℕ = all1 ++ piece2 in
    let whole2 : mid2 ≡ out ++ all2 = more out all1 mid1 piece2 mid2 whole1 is2 in
    let piece3 : List ℕ = c.args.piece.now in
    let mid3 : List ℕ = c.extend_from_slice.new.self.items in
    let is3 : mid3 ≡ mid2 ++ piece3 = c.in_ok-extend_from_slice.ensures.items in
    let all3 : List ℕ = all2 ++ piece3 in
    let whole3 : mid3 ≡ out ++ all3 = more out all2 mid2 piece3 mid3 whole2 is3 in
    let piece4 : List ℕ = codes "</div>\n" in
    let mid4 : List ℕ = c.extend_from_slice-2.new.self.items in
    let is4 : mid4 ≡ mid3 ++ piece4 = c.in_ok-extend_from_slice-2.ensures.items in
    let all4 : List ℕ = all3 ++ piece4 in
    let whole4 : mid4 ≡ out ++ all4 = more out all3 mid3 piece4 mid4 whole3 is4 in
    let last : List ℕ = foot_text in
    subst (λ (xs : List ℕ). OnOk c.put_foot.result (c.put_foot.new.out.items ≡ xs)) (whole out all4 mid4 last whole4) (c.put_foot.ensures)
