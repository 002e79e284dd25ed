use Rattle.std.proofs.Common.{List, subst, sym}
use Rattle.otp_table.specs.declared.row.Row.{Row}
use Rattle.otp_table.specs.Marks.{number_at}
use Rattle.otp_table.specs.Numbers.{AreApart}
use Rattle.otp_table.proofs.rows.Rows.find_number.Goals as goal

pub number_near-requires : goal.number_near-requires
number_near-requires c = subst (λ (rows : List Row). AreApart (number_at rows)) (sym c.deref.ensures.value) (c.self.invariant.apart c.if-self.true)
