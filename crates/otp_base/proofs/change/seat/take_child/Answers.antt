use Rattle.std.proofs.Common.{◌≡◌, ℕ, List, Option, None, Some, ap, subst, sym, ◌∙◌}
use Rattle.std.specs.List.{position}
use Rattle.otp_table.specs.declared.row.Row.{Row}
use Rattle.otp_table.specs.Rows.{has_id}
use Rattle.otp_base.proofs.Seating.{told, Told}
use Rattle.otp_base.proofs.change.seat.take_child.Goals as goal

pub returns-in-Some-clause-row : goal.returns-in-Some-clause-row
returns-in-Some-clause-row c =
    let rows : List Row = c.args.rows.now.items in
    let id = c.args.id.now in
    let here : position (has_id id) rows ≡ Some c.in-Some.place = ap (λ (xs : List Row). position (has_id id) xs) (sym c.as_slice.ensures.value) ∙ sym c.find_child.ensures ∙ c.in-Some.is in
    let found : Told id rows (Some c.in-Some.place) = subst (λ (o : Option ℕ). Told id rows o) here (told id rows) in
    ap (λ (row : Row). Some row) c.remove.ensures.value ∙ sym (found.0 c.remove.result)

pub returns-in-Some-clause-rows : goal.returns-in-Some-clause-rows
returns-in-Some-clause-rows c =
    let rows : List Row = c.args.rows.now.items in
    let id = c.args.id.now in
    let here : position (has_id id) rows ≡ Some c.in-Some.place = ap (λ (xs : List Row). position (has_id id) xs) (sym c.as_slice.ensures.value) ∙ sym c.find_child.ensures ∙ c.in-Some.is in
    let found : Told id rows (Some c.in-Some.place) = subst (λ (o : Option ℕ). Told id rows o) here (told id rows) in
    c.remove.ensures.items ∙ sym found.1

pub returns-in-None-clause-row : goal.returns-in-None-clause-row
returns-in-None-clause-row c =
    let rows : List Row = c.args.rows.now.items in
    let id = c.args.id.now in
    let here : position (has_id id) rows ≡ None = ap (λ (xs : List Row). position (has_id id) xs) (sym c.as_slice.ensures.value) ∙ sym c.find_child.ensures ∙ c.in-None.is in
    let found : Told id rows None = subst (λ (o : Option ℕ). Told id rows o) here (told id rows) in
    sym found.0

pub returns-in-None-clause-rows : goal.returns-in-None-clause-rows
returns-in-None-clause-rows c =
    let rows : List Row = c.args.rows.now.items in
    let id = c.args.id.now in
    let here : position (has_id id) rows ≡ None = ap (λ (xs : List Row). position (has_id id) xs) (sym c.as_slice.ensures.value) ∙ sym c.find_child.ensures ∙ c.in-None.is in
    let found : Told id rows None = subst (λ (o : Option ℕ). Told id rows o) here (told id rows) in
    sym found.1
