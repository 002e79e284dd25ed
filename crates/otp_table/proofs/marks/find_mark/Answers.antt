use Rattle.std.proofs.Common.{get_or, subst}
use Rattle.otp_table.specs.declared.marks.Mark.{Mark}
use Rattle.otp_table.specs.Marks.{IsUnder}
use Rattle.otp_table.proofs.Rising.{under_at}
use Rattle.otp_table.proofs.marks.find_mark.Goals as goal

pub returns-in-Some : goal.returns-in-Some
returns-in-Some c =
    let d : Mark = record { key = 0; place = 0 } in
    subst (λ n. IsUnder n (get_or c.args.marks.now c.in-Some.index d).place c.args.marks.now) (c.in-Some.ensures.1 d) (under_at c.args.marks.now c.in-Some.index d c.in-Some.ensures.0)
