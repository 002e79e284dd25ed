use Rattle.std.proofs.Common.{rules, ◌∙◌, sym}
use Rattle.otp_table.specs.Rows.{has_process, row_has}
use Rattle.otp_table.proofs.Differing.{first_apart}
use Rattle.otp_table.proofs.Indexed.{process_tells}
use Rattle.otp_table.proofs.search.process_near.Goals as goal

pub returns-then-has_process_at : goal.returns-then-has_process_at
returns-then-has_process_at c =
    sym (first_apart (row_has (has_process c.args.number)) c.args.number c.args.place c.args.rows.now c.requires (process_tells c.args.number) (search rules)
    (λ d. sym (c.has_process_at.ensures d) ∙ c.if-has_process_at.true))
