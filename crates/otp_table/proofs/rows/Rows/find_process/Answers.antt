use Rattle.std.proofs.Common.{List, subst, sym}
use Rattle.otp_table.specs.declared.row.Row.{Row}
use Rattle.otp_table.specs.Marks.{number_at}
use Rattle.otp_table.specs.Numbers.{AreApart}
use Rattle.otp_table.proofs.rows.Rows.find_process.Goals as goal

pub process_near-requires : goal.process_near-requires
process_near-requires c = subst (λ (rows : List Row). AreApart (number_at rows)) (sym c.deref.ensures.value) (c.self.invariant.apart c.if-self.true)
