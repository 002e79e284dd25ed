use Rattle.std.specs.Prelude.{◌≡◌, Some, All, slice_get}
use Rattle.std.proofs.Common.{◌+◌, ◌<◌, ℕ, arith, rules, subst}
use Rattle.otp_core.specs.View.{View, state_of}
use Rattle.otp_rules.specs.Needs.{IsLawfulHistory, numbers_of}
use Rattle.otp_table.specs.declared.row.Row.{Row}
use Rattle.otp_driver.specs.Members.{Member, row_at, state_in}
use Rattle.otp_driver.proofs.Seen.{only_row}
use Rattle.otp_driver.proofs.driven.supervisor.Supervisor.seen_child.Goals as goal

pub returns-in-Some : goal.returns-in-Some
returns-in-Some c =
    let core : View = c.self.inside.core in
    let row : Row = c.in-Some.row.now in
    let next : ℕ = c.greatest_number-greatest.result + 1 in
    let lawful : IsLawfulHistory core.base core.history = search rules in
    let low : core.earlier.greatest_number < next = omega (arith, c.greatest_number-greatest.ensures.greatest) in
    let numbers : All (λ n. n < next) (numbers_of core.history) = c.greatest_number-greatest.ensures.next next (omega arith) in
    let at : slice_get (state_of core).rows c.self.inside.seen ≡ Some row = search rules in
    subst (λ (m : Member). row_at (state_in m).rows c.args.number ≡ Some row) c.self.view_is
    (only_row c.processes_are_owned.ensures.from_any core.base core.history core.earlier.greatest_number next c.self.inside.seen c.args.number row
    c.self.invariant.apart c.self.invariant.above lawful low numbers at c.in-Some.ensures.1)
