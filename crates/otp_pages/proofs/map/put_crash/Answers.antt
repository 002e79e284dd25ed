use Rattle.std.proofs.Common.{◌≡◌, ◌++◌, ◌∙◌, List, OnOk, ap, codes, decimal, subst, ℕ}
use Rattle.otp_pages.specs.Maps.{bears_html, crash_html, root_html, starts_html, stops_html, summary_html}
use Rattle.otp_pages.proofs.Joined.{more, on_ok, whole}
use Rattle.otp_pages.proofs.map.put_crash.Goals as goal

pub returns : goal.returns
unfolding crash_html
returns c =
    let out : List ℕ = c.args.out.now.items in
    let piece1 : List ℕ = summary_html c.args.id.now c.args.row.now.own.burst in
    let mid1 : List ℕ = c.put_summary.new.out.items in
    let is1 : mid1 ≡ out ++ piece1 = c.in_ok-put_summary.ensures in
    let all1 : List ℕ = piece1 in
    let whole1 : mid1 ≡ out ++ all1 = is1 in
    let piece2 : List ℕ = stops_html c.args.row.now in
    let mid2 : List ℕ = c.put_stops.new.out.items in
    let is2 : mid2 ≡ mid1 ++ piece2 = c.in_ok-put_stops.ensures in
    let all2 : List ℕ = all1 ++ piece2 in
    let whole2 : mid2 ≡ out ++ all2 = more out all1 mid1 piece2 mid2 whole1 is2 in
    let piece3 : List ℕ = starts_html c.args.id.now c.args.row.now in
    let mid3 : List ℕ = c.put_starts.new.out.items in
    let is3 : mid3 ≡ mid2 ++ piece3 = c.in_ok-put_starts.ensures in
    let all3 : List ℕ = all2 ++ piece3 in
    let whole3 : mid3 ≡ out ++ all3 = more out all2 mid2 piece3 mid3 whole2 is3 in
    let piece4 : List ℕ = bears_html c.args.row.now in
    let mid4 : List ℕ = c.put_bears.new.out.items in
    let is4 : mid4 ≡ mid3 ++ piece4 = c.in_ok-put_bears.ensures in
    let all4 : List ℕ = all3 ++ piece4 in
    let whole4 : mid4 ≡ out ++ all4 = more out all3 mid3 piece4 mid4 whole3 is4 in
    let piece5 : List ℕ = root_html c.args.row.now in
    let mid5 : List ℕ = c.put_root.new.out.items in
    let is5 : mid5 ≡ mid4 ++ piece5 = c.in_ok-put_root.ensures in
    let all5 : List ℕ = all4 ++ piece5 in
    let whole5 : mid5 ≡ out ++ all5 = more out all4 mid4 piece5 mid5 whole4 is5 in
    let last : List ℕ = codes "</details>\n" in
    subst (λ (xs : List ℕ). OnOk c.extend_from_slice.result (c.extend_from_slice.new.self.items ≡ xs)) (whole out all5 mid5 last whole5) (on_ok c.extend_from_slice.result c.extend_from_slice.new.self.items (mid5 ++ last) mid5 c.extend_from_slice.ensures.items)
