use Rattle.std.proofs.Common.{◌≡◌, ◌++◌, List, OnOk, codes, subst, ℕ, ◌/◌}
use Rattle.otp_try_pages.specs.Tracks.{axis_html, first_ticks, last_ticks}
use Rattle.otp_try_pages.proofs.Joined.{more, on_ok, whole}
use Rattle.otp_try_pages.proofs.tracks.put_axis.Goals as goal

pub returns : goal.returns
unfolding axis_html
returns c =
    let out : List ℕ = c.args.out.now.items in
    let piece1 : List ℕ = codes "<svg class=\"axis\" role=\"img\" aria-label=\"seconds\">\n" in
    let mid1 : List ℕ = c.extend_from_slice.new.self.items in
    let is1 : mid1 ≡ out ++ piece1 = c.in_ok-extend_from_slice.ensures.items in
    let all1 : List ℕ = piece1 in
    let whole1 : mid1 ≡ out ++ all1 = is1 in
    let piece2 : List ℕ = first_ticks c.args.last in
    let mid2 : List ℕ = c.put_first_ticks.new.out.items in
    let is2 : mid2 ≡ mid1 ++ piece2 = c.in_ok-put_first_ticks.ensures in
    let all2 : List ℕ = all1 ++ piece2 in
    let whole2 : mid2 ≡ out ++ all2 = more out all1 mid1 piece2 mid2 whole1 is2 in
    let piece3 : List ℕ = last_ticks c.args.last in
    let mid3 : List ℕ = c.put_last_ticks.new.out.items in
    let is3 : mid3 ≡ mid2 ++ piece3 = c.in_ok-put_last_ticks.ensures in
    let all3 : List ℕ = all2 ++ piece3 in
    let whole3 : mid3 ≡ out ++ all3 = more out all2 mid2 piece3 mid3 whole2 is3 in
    let last : List ℕ = codes "</svg>\n" in
    subst (λ (xs : List ℕ). OnOk c.extend_from_slice-2.result (c.extend_from_slice-2.new.self.items ≡ xs)) (whole out all3 mid3 last whole3) (on_ok c.extend_from_slice-2.result c.extend_from_slice-2.new.self.items (mid3 ++ last) mid3 c.extend_from_slice-2.ensures.items)
