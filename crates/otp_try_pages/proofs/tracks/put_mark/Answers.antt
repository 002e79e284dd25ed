use Rattle.std.proofs.Common.{◌≡◌, ◌++◌, ◌∙◌, List, OnOk, ap, codes, subst, ℕ, ◌/◌}
use Rattle.otp_pages.specs.Markup.{element}
use Rattle.otp_try_pages.specs.Scale.{percent}
use Rattle.otp_try_pages.specs.Tracks.{mark_class, mark_html, row_text}
use Rattle.otp_try_pages.proofs.Joined.{more, whole}
use Rattle.otp_try_pages.proofs.tracks.put_mark.Goals as goal

pub returns : goal.returns
unfolding mark_html
returns c =
    let out : List ℕ = c.args.out.now.items in
    let piece1 : List ℕ = mark_class c.args.is_stopped in
    let mid1 : List ℕ = c.extend_from_slice.new.self.items in
    let is1 : mid1 ≡ out ++ piece1 = c.in_ok-extend_from_slice.ensures.items ∙ ap (λ (xs : List ℕ). out ++ xs) c.mark_class.ensures in
    let all1 : List ℕ = piece1 in
    let whole1 : mid1 ≡ out ++ all1 = is1 in
    let piece2 : List ℕ = percent c.args.slot in
    let mid2 : List ℕ = c.put_percent.new.out.items in
    let is2 : mid2 ≡ mid1 ++ piece2 = c.in_ok-put_percent.ensures in
    let all2 : List ℕ = all1 ++ piece2 in
    let whole2 : mid2 ≡ out ++ all2 = more out all1 mid1 piece2 mid2 whole1 is2 in
    let piece3 : List ℕ = row_text c.args.row in
    let mid3 : List ℕ = c.put_row.new.out.items in
    let is3 : mid3 ≡ mid2 ++ piece3 = c.in_ok-put_row.ensures in
    let all3 : List ℕ = all2 ++ piece3 in
    let whole3 : mid3 ≡ out ++ all3 = more out all2 mid2 piece3 mid3 whole2 is3 in
    let last : List ℕ = element (codes " width=\"3\" height=\".5em\"><title>") c.args.line.now (codes "</title></rect>\n") in
    subst (λ (xs : List ℕ). OnOk c.put_element.result (c.put_element.new.out.items ≡ xs)) (whole out all3 mid3 last whole3) c.put_element.ensures
