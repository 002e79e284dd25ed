use Rattle.std.proofs.Common.{◌≡◌, ◌++◌, ◌∙◌, List, OnOk, ap, codes, decimal, subst, ℕ}
use Rattle.otp_costs.specs.Words.{interval_text}
use Rattle.otp_pages.specs.Costs.{clock_cell, interval_cell}
use Rattle.otp_pages.proofs.Joined.{more, on_ok, whole}
use Rattle.otp_pages.proofs.fates.put_intervals.Goals as goal

pub returns : goal.returns
unfolding clock_cell
returns c =
    let out : List ℕ = c.args.out.now.items in
    let piece1 : List ℕ = interval_cell c.args.row.now in
    let mid1 : List ℕ = c.put_interval.new.out.items in
    let is1 : mid1 ≡ out ++ piece1 = c.in_ok-put_interval.ensures in
    let all1 : List ℕ = piece1 in
    let whole1 : mid1 ≡ out ++ all1 = is1 in
    let piece2 : List ℕ = codes "<td class=\"n\">" in
    let mid2 : List ℕ = c.extend_from_slice.new.self.items in
    let is2 : mid2 ≡ mid1 ++ piece2 = c.in_ok-extend_from_slice.ensures.items in
    let all2 : List ℕ = all1 ++ piece2 in
    let whole2 : mid2 ≡ out ++ all2 = more out all1 mid1 piece2 mid2 whole1 is2 in
    let piece3 : List ℕ = interval_text c.args.row.now.own.burst c.args.row.now.own.seconds in
    let mid3 : List ℕ = c.write_interval.new.out.items in
    let is3 : mid3 ≡ mid2 ++ piece3 = c.in_ok-write_interval.ensures in
    let all3 : List ℕ = all2 ++ piece3 in
    let whole3 : mid3 ≡ out ++ all3 = more out all2 mid2 piece3 mid3 whole2 is3 in
    let last : List ℕ = codes "</td>\n" in
    subst (λ (xs : List ℕ). OnOk c.extend_from_slice-2.result (c.extend_from_slice-2.new.self.items ≡ xs)) (whole out all3 mid3 last whole3) (on_ok c.extend_from_slice-2.result c.extend_from_slice-2.new.self.items (mid3 ++ last) mid3 c.extend_from_slice-2.ensures.items)
