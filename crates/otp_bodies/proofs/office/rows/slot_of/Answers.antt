use Rattle.std.proofs.Common.{◌≡◌, List, Option, ℕ, Some, ap, sym, ◌∙◌}
use Rattle.std.specs.Prelude.{position}
use Rattle.otp_core.specs.View.{state_of}
use Rattle.otp_table.specs.declared.row.Row.{Row}
use Rattle.otp_table.specs.Rows.{has_process, row_has}
use Rattle.otp_bodies.specs.Rows.{slot_at, slot_of}
use Rattle.otp_bodies.proofs.Slotted.{slot_read}
use Rattle.otp_bodies.proofs.office.rows.slot_of.Goals as goal

pub returns-in-Some : goal.returns-in-Some
returns-in-Some c =
    let n = c.args.number in
    let rows = c.rows.result.now in
    let same = c.rows.ensures.value in
    let at : position (row_has (has_process n)) rows ≡ Some c.in-Some.place = ap (λ (l : List Row). position (row_has (has_process n)) l) same ∙ sym c.find_process.ensures ∙ c.in-Some.is in
    slot_read rows n c.in-Some.place _ at ∙ ap (λ (l : List Row). slot_of l n) same

pub returns-in-None : goal.returns-in-None
returns-in-None c = sym (ap (λ (o : Option ℕ). slot_at (state_of c.args.core.now).rows o) (sym c.find_process.ensures ∙ c.in-None.is))
