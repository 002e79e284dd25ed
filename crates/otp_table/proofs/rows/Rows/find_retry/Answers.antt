use Rattle.std.proofs.Common.{List, subst, sym}
use Rattle.otp_table.specs.declared.row.Row.{Row}
use Rattle.otp_table.specs.Marks.{number_at}
use Rattle.otp_table.specs.Numbers.{AreApart}
use Rattle.otp_table.proofs.rows.Rows.find_retry.Goals as goal

pub retry_near-requires : goal.retry_near-requires
retry_near-requires c = subst (λ (rows : List Row). AreApart (number_at rows)) (sym c.deref.ensures.value) (c.self.invariant.apart c.if-self.true)
