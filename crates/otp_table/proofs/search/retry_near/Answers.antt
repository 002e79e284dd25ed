use Rattle.std.proofs.Common.{rules, ◌∙◌, sym}
use Rattle.otp_table.specs.Rows.{awaits_retry, row_has}
use Rattle.otp_table.proofs.Differing.{first_apart}
use Rattle.otp_table.proofs.Indexed.{retry_tells}
use Rattle.otp_table.proofs.search.retry_near.Goals as goal

pub returns-then-awaits_retry_at : goal.returns-then-awaits_retry_at
returns-then-awaits_retry_at c =
    sym (first_apart (row_has (awaits_retry c.args.number)) c.args.number c.args.place c.args.rows.now c.requires (retry_tells c.args.number) (search rules)
    (λ d. sym (c.awaits_retry_at.ensures d) ∙ c.if-awaits_retry_at.true))
