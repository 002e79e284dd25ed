use Rattle.std.proofs.Common.{rules, ◌∙◌, sym}
use Rattle.otp_table.specs.Rows.{has_number, row_has}
use Rattle.otp_table.proofs.Differing.{first_apart}
use Rattle.otp_table.proofs.Indexed.{number_tells}
use Rattle.otp_table.proofs.search.number_near.Goals as goal

pub returns-then-has_number_at : goal.returns-then-has_number_at
returns-then-has_number_at c =
    sym (first_apart (row_has (has_number c.args.number)) c.args.number c.args.place c.args.rows.now c.requires (number_tells c.args.number) (search rules)
    (λ d. sym (c.has_number_at.ensures d) ∙ c.if-has_number_at.true))
