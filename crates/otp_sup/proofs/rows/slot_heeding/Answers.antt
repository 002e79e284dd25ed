use Rattle.std.proofs.Common.{◌≡◌, ℕ, List, None, Option, Some, ap, sym, subst, ◌∙◌}
use Rattle.std.specs.Prelude.{position}
use Rattle.otp_core.specs.View.{View, state_of}
use Rattle.otp_table.specs.declared.row.Row.{Row}
use Rattle.otp_table.specs.Rows.{has_process, row_has}
use Rattle.otp_rules.specs.Slots.{AreSlotted}
use Rattle.otp_bodies.specs.Letters.{number_of}
use Rattle.otp_bodies.specs.Offices.{AreApart}
use Rattle.otp_sup.specs.Moves.{slot_heeding}
use Rattle.otp_sup.proofs.Found.{found_heeding, unfound_heeding}
use Rattle.otp_sup.proofs.rows.slot_heeding.Goals as goal

pub returns-in-Some : goal.returns-in-Some
returns-in-Some g c =
    let x = c.args.note.now in
    let rows : List Row = c.rows.result.now in
    let first : ℕ → List Row → Option ℕ = λ n l. position (row_has (has_process n)) l in
    let same : rows ≡ (state_of c.args.office.now.core).rows = c.rows.ensures.value ∙ ap (λ (v : View). (state_of v).rows) c.core-core.ensures in
    let at : first (number_of x) rows ≡ Some c.in-Some.place =
    ap (λ (n : ℕ). first n rows) (sym c.number_of.ensures) ∙ ap (λ (l : List Row). first c.number_of.result l) c.rows.ensures.value
    ∙ sym c.find_process.ensures ∙ c.in-Some.is in
    c.slot_if_heeded.ensures
    ∙ sym (found_heeding x rows c.in-Some.place _ (subst AreSlotted (sym same) c.keeps_rules.ensures.slots) (subst AreApart (sym same) c.keeps_rules.ensures.apart) at)
    ∙ ap (λ (l : List Row). slot_heeding x l) same

pub returns-in-None : goal.returns-in-None
returns-in-None g c =
    let x = c.args.note.now in
    let rows : List Row = (state_of c.core-core.result.now).rows in
    let first : ℕ → Option ℕ = λ n. position (row_has (has_process n)) rows in
    let none : first (number_of x) ≡ None = ap first (sym c.number_of.ensures) ∙ sym c.find_process.ensures ∙ c.in-None.is in
    sym (unfound_heeding x rows none) ∙ ap (λ (v : View). slot_heeding x (state_of v).rows) c.core-core.ensures
