use Rattle.std.proofs.Common.{ℕ, List, Option, arith, subst}
use Rattle.otp_table.specs.declared.marks.Mark.{Mark}
use Rattle.otp_table.specs.Marks.{IsChanged}
use Rattle.otp_table.proofs.Indexed.{changed_on, unchanged}
use Rattle.otp_table.proofs.marks.change_mark.Goals as goal

pub returns-clause-changed : goal.returns-clause-changed
returns-clause-changed c = λ yes.
    changed_on c.args.place c.args.old c.args.new c.args.marks.now.items c.take_old.new.marks.items c.put_new.new.marks.items c.take_old.ensures.changed (c.put_new.ensures.changed yes)

pub returns-then-is_same-clause-changed : goal.returns-then-is_same-clause-changed
returns-then-is_same-clause-changed c = λ _.
    let ms : List Mark = c.args.marks.now.items in
    subst (λ (o : Option ℕ). IsChanged c.args.place c.args.old o ms ms) (c.is_same.ensures.0 c.if-is_same.true) (unchanged c.args.place c.args.old ms)

pub returns-clause-kept : goal.returns-clause-kept
returns-clause-kept c = λ _ room free.
    c.put_new.ensures.kept (omega (arith, room, c.take_old.ensures.len, c.take_old.ensures.capacity)) (λ n p is under. free n p is (c.take_old.ensures.fewer n p under))
