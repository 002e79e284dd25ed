use Rattle.std.proofs.Common.{◌≡◌, ◌++◌, ◌∙◌, List, OnOk, ap, codes, decimal, subst, ℕ}
use Rattle.otp_costs.specs.Groups.{below}
use Rattle.otp_pages.specs.Markup.{element}
use Rattle.otp_pages.specs.Costs.{alike_html, child_cell}
use Rattle.otp_pages.proofs.Joined.{more, on_ok, whole}
use Rattle.otp_pages.proofs.row.put_child.Goals as goal

pub returns : goal.returns
unfolding child_cell
returns c =
    let out : List ℕ = c.args.out.now.items in
    let opening : List ℕ = codes "<tr><th scope=\"row\"><code>" in
    let closing : List ℕ = codes "</code>" in
    let word : c.as_slice.result.now ≡ below c.args.row.now.path c.args.row.now.own.id =
    c.as_slice.ensures.value ∙ c.in_ok-put_below.ensures ∙ ap (λ (path : List ℕ). below path c.args.row.now.own.id) c.as_bytes.ensures in
    let piece1 : List ℕ = element opening (below c.args.row.now.path c.args.row.now.own.id) closing in
    let mid1 : List ℕ = c.put_element.new.out.items in
    let is1 : mid1 ≡ out ++ piece1 = c.in_ok-put_element.ensures ∙ ap (λ (xs : List ℕ). out ++ element opening xs closing) word in
    let all1 : List ℕ = piece1 in
    let whole1 : mid1 ≡ out ++ all1 = is1 in
    let piece2 : List ℕ = alike_html c.args.row.now in
    let mid2 : List ℕ = c.put_alike.new.out.items in
    let is2 : mid2 ≡ mid1 ++ piece2 = c.in_ok-put_alike.ensures in
    let all2 : List ℕ = all1 ++ piece2 in
    let whole2 : mid2 ≡ out ++ all2 = more out all1 mid1 piece2 mid2 whole1 is2 in
    let last : List ℕ = codes "</th>\n" in
    subst (λ (xs : List ℕ). OnOk c.extend_from_slice.result (c.extend_from_slice.new.self.items ≡ xs)) (whole out all2 mid2 last whole2) (on_ok c.extend_from_slice.result c.extend_from_slice.new.self.items (mid2 ++ last) mid2 c.extend_from_slice.ensures.items)
