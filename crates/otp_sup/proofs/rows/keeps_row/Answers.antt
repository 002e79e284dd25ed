use Rattle.std.proofs.Common.{◌≡◌, ℕ, List, None, Option, Some, ap, false, get_or, sym, ◌∙◌}
use Rattle.std.specs.Prelude.{option_and_then, position, slice_get}
use Rattle.std.specs.Option.{option_map_or}
use Rattle.std.proofs.lemmas.Option.{slice_get-get_or}
use Rattle.std.proofs.lemmas.List.Quantifiers.{position-Some}
use Rattle.otp_core.specs.View.{state_of}
use Rattle.otp_table.specs.declared.row.Row.{Row}
use Rattle.otp_table.specs.Rows.{has_process, row_has}
use Rattle.otp_laws.specs.Stays.{keeps_row, stays_stopped}
use Rattle.otp_sup.proofs.rows.keeps_row.Goals as goal

-- what is so of the row that is found
found_says : (p : ℕ) (rows : List Row) (place : ℕ) (d : Row) → position (row_has (has_process p)) rows ≡ Some place → keeps_row p rows ≡ stays_stopped (get_or rows place d)
found_says p rows place d at =
    let within = (position-Some (row_has (has_process p)) rows place d at).0 in
    ap (λ (k : Option ℕ). option_map_or stays_stopped (option_and_then (slice_get rows) k) false) at
    ∙ ap (λ (x : Option Row). option_map_or stays_stopped x false) (slice_get-get_or rows place d within)

pub returns-in-Some : goal.returns-in-Some
returns-in-Some c =
    let p : ℕ = c.args.number in
    let rows : List Row = c.rows.result.now in
    let same : rows ≡ (state_of c.args.core.now).rows = c.rows.ensures.value in
    let at : position (row_has (has_process p)) rows ≡ Some c.in-Some.place =
    ap (λ (l : List Row). position (row_has (has_process p)) l) same ∙ sym c.find_process.ensures ∙ c.in-Some.is in
    c.stays_stopped.ensures ∙ sym (found_says p rows c.in-Some.place _ at) ∙ ap (λ (l : List Row). keeps_row p l) same

pub returns-in-None : goal.returns-in-None
returns-in-None c =
    let rows : List Row = (state_of c.args.core.now).rows in
    let none : position (row_has (has_process c.args.number)) rows ≡ None = sym c.find_process.ensures ∙ c.in-None.is in
    sym (ap (λ (k : Option ℕ). option_map_or stays_stopped (option_and_then (slice_get rows) k) false) none)
