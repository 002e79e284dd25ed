use Rattle.std.proofs.Common.{ℕ, List, None, Option, subst, sym}
use Rattle.otp_table.specs.declared.marks.Mark.{Mark}
use Rattle.otp_table.specs.Marks.{IsChanged}
use Rattle.otp_table.proofs.Indexed.{take_changed, unchanged}
use Rattle.otp_table.proofs.marks.take_old.Goals as goal

pub returns-in-None-clause-changed : goal.returns-in-None-clause-changed
returns-in-None-clause-changed c =
    let ms : List Mark = c.args.marks.now.items in
    subst (λ (o : Option ℕ). IsChanged c.args.place o None ms ms) (sym c.in-None.is) (unchanged c.args.place None ms)

pub returns-in-Some-clause-changed : goal.returns-in-Some-clause-changed
returns-in-Some-clause-changed c =
    let ms : List Mark = c.args.marks.now.items in
    subst (λ (o : Option ℕ). IsChanged c.args.place o None ms c.take_mark.new.marks.items) (sym c.in-Some.is)
    (take_changed c.args.place c.in-Some.key ms c.take_mark.new.marks.items c.requires c.take_mark.ensures.taken)

pub returns-in-Some-clause-fewer : goal.returns-in-Some-clause-fewer
returns-in-Some-clause-fewer c = λ n p under. ((c.take_mark.ensures.taken n p).0 under).0
