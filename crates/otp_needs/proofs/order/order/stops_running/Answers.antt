use Rattle.std.proofs.Common.{◌≡◌, All, ℕ, List, IsTrue, true, subst}
use Rattle.otp_table.specs.declared.row.Row.{Row}
use Rattle.otp_needs.specs.Order.{is_to_stop}
use Rattle.otp_needs.proofs.Counted.{all_stopped, stopped_all}
use Rattle.otp_needs.proofs.order.order.stops_running.Goals as goal

pub returns : goal.returns
returns c =
    let ps = c.args.base.now.to_stop.items in
    let rows = c.args.base.now.rows.items in
    let Both : List ℕ → List Row → Type 0 = λ xs ys. (IsTrue c.are_to_stop.result → All (λ row. is_to_stop xs ys row ≡ true) ys) × (All (λ row. is_to_stop xs ys row ≡ true) ys → IsTrue c.are_to_stop.result) in
    let stops : c.as_slice.result.now ≡ ps = c.as_slice.ensures.value in
    let these : c.as_slice-2.result.now ≡ rows = c.as_slice-2.ensures.value in
    let told : Both ps rows = subst (λ (ys : List Row). Both ps ys) these (subst (λ (xs : List ℕ). Both xs c.as_slice-2.result.now) stops c.are_to_stop.ensures) in
    (λ t. stopped_all ps rows (told.0 t), λ h. told.1 (all_stopped ps rows h))
