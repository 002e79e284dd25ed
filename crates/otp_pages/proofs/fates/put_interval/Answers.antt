use Rattle.std.proofs.Common.{◌≡◌, ◌++◌, ◌∙◌, List, OnOk, ap, codes, decimal, subst, ℕ}
use Rattle.otp_costs.specs.Words.{interval_text}
use Rattle.otp_pages.specs.Costs.{interval_cell}
use Rattle.otp_pages.proofs.Joined.{more, on_ok, whole}
use Rattle.otp_pages.proofs.fates.put_interval.Goals as goal

pub returns : goal.returns
unfolding interval_cell
returns c =
    let out : List ℕ = c.args.out.now.items in
    let piece1 : List ℕ = codes "<td class=\"n\">" in
    let mid1 : List ℕ = c.extend_from_slice.new.self.items in
    let is1 : mid1 ≡ out ++ piece1 = c.in_ok-extend_from_slice.ensures.items in
    let all1 : List ℕ = piece1 in
    let whole1 : mid1 ≡ out ++ all1 = is1 in
    let piece2 : List ℕ = interval_text c.args.row.now.own.burst c.args.row.now.own.steady in
    let mid2 : List ℕ = c.write_interval.new.out.items in
    let is2 : mid2 ≡ mid1 ++ piece2 = c.in_ok-write_interval.ensures in
    let all2 : List ℕ = all1 ++ piece2 in
    let whole2 : mid2 ≡ out ++ all2 = more out all1 mid1 piece2 mid2 whole1 is2 in
    let last : List ℕ = codes "</td>\n" in
    subst (λ (xs : List ℕ). OnOk c.extend_from_slice-2.result (c.extend_from_slice-2.new.self.items ≡ xs)) (whole out all2 mid2 last whole2) (on_ok c.extend_from_slice-2.result c.extend_from_slice-2.new.self.items (mid2 ++ last) mid2 c.extend_from_slice-2.ensures.items)
