use Rattle.std.proofs.Common.{List, subst, sym}
use Rattle.otp_table.specs.declared.marks.Mark.{Mark}
use Rattle.otp_table.specs.declared.row.Row.{Row}
use Rattle.otp_table.specs.Marks.{AreMarks, id_at}
use Rattle.otp_table.proofs.rows.Rows.find_id.Goals as goal

pub id_marked-requires-clause-marks : goal.id_marked-requires-clause-marks
id_marked-requires-clause-marks c =
    let HasRows : List Row → Type 0 = λ rows. AreMarks (id_at rows) c.self.inside.ids.items in
    let HasMarks : List Mark → Type 0 = λ ms. AreMarks (id_at c.deref.result.now) ms in
    subst HasMarks (sym c.deref-then-self.ensures.value) (subst HasRows (sym c.deref.ensures.value) (c.self.invariant.named c.if-self.true))
