use Rattle.std.proofs.Common.{◌≡◌, ◌++◌, ◌∙◌, List, OnOk, ap, codes, subst, ℕ, ◌/◌}
use Rattle.otp_pages.specs.Markup.{element}
use Rattle.otp_costs.specs.Falls.{supervisor_path}
use Rattle.otp_try_pages.specs.Windows.{gave_up_words, window_title, within_words}
use Rattle.otp_try_pages.proofs.Joined.{more, on_ok, whole}
use Rattle.otp_try_pages.proofs.windows.put_window_title.Goals as goal

pub returns : goal.returns
unfolding window_title
returns c =
    let out : List ℕ = c.args.out.now.items in
    let piece1 : List ℕ = element (codes "<p><code>") (supervisor_path c.args.path.now) (codes "</code> <small>") in
    let mid1 : List ℕ = c.put_element.new.out.items in
    let is1 : mid1 ≡ out ++ piece1 = c.in_ok-put_element.ensures ∙ ap (λ (path : List ℕ). out ++ element (codes "<p><code>") path (codes "</code> <small>")) c.supervisor_path.ensures in
    let all1 : List ℕ = piece1 in
    let whole1 : mid1 ≡ out ++ all1 = is1 in
    let piece2 : List ℕ = within_words c.args.flags.now c.args.strain in
    let mid2 : List ℕ = c.put_within.new.out.items in
    let is2 : mid2 ≡ mid1 ++ piece2 = c.in_ok-put_within.ensures in
    let all2 : List ℕ = all1 ++ piece2 in
    let whole2 : mid2 ≡ out ++ all2 = more out all1 mid1 piece2 mid2 whole1 is2 in
    let piece3 : List ℕ = gave_up_words c.args.strain.times in
    let mid3 : List ℕ = c.put_gave_up.new.out.items in
    let is3 : mid3 ≡ mid2 ++ piece3 = c.in_ok-put_gave_up.ensures in
    let all3 : List ℕ = all2 ++ piece3 in
    let whole3 : mid3 ≡ out ++ all3 = more out all2 mid2 piece3 mid3 whole2 is3 in
    let last : List ℕ = codes "</small></p>\n" in
    subst (λ (xs : List ℕ). OnOk c.extend_from_slice.result (c.extend_from_slice.new.self.items ≡ xs)) (whole out all3 mid3 last whole3) (on_ok c.extend_from_slice.result c.extend_from_slice.new.self.items (mid3 ++ last) mid3 c.extend_from_slice.ensures.items)
