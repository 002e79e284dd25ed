use Rattle.std.proofs.Common.{◌≡◌, All, List, IsTrue, true, subst}
use Rattle.otp_table.specs.declared.row.Row.{Row}
use Rattle.otp_needs.specs.Order.{is_lone}
use Rattle.otp_needs.proofs.Counted.{all_lone, lone_all}
use Rattle.otp_needs.proofs.order.order.are_distinct.Goals as goal

pub returns : goal.returns
returns c =
    let greatest = c.args.base.now.counts.greatest_number in
    let rows = c.args.base.now.rows.items in
    let Both : List Row → Type 0 = λ ys. (IsTrue c.are_lone.result → All (λ row. is_lone greatest ys row ≡ true) ys) × (All (λ row. is_lone greatest ys row ≡ true) ys → IsTrue c.are_lone.result) in
    let these : c.as_slice.result.now ≡ rows = c.as_slice.ensures.value in
    let told : Both rows = subst Both these c.are_lone.ensures in
    (λ t. lone_all greatest rows (told.0 t), λ h. told.1 (all_lone greatest rows h))
