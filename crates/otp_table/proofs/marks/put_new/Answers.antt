use Rattle.std.proofs.Common.{ℕ, List, None, Option, subst, sym}
use Rattle.otp_table.specs.declared.marks.Mark.{Mark}
use Rattle.otp_table.specs.Marks.{IsChanged, IsFree}
use Rattle.otp_table.proofs.Indexed.{unchanged}
use Rattle.otp_table.proofs.marks.put_new.Goals as goal

pub returns-in-None-clause-changed : goal.returns-in-None-clause-changed
returns-in-None-clause-changed c =
    let ms : List Mark = c.args.marks.now.items in
    λ _. subst (λ (o : Option ℕ). IsChanged c.args.place None o ms ms) (sym c.in-None.is) (unchanged c.args.place None ms)

pub returns-in-Some-clause-changed : goal.returns-in-Some-clause-changed
returns-in-Some-clause-changed c =
    let ms : List Mark = c.args.marks.now.items in
    λ yes. subst (λ (o : Option ℕ). IsChanged c.args.place None o ms c.put_key.new.marks.items) (sym c.in-Some.is) (c.put_key.ensures.changed yes)

pub returns-in-Some-clause-kept : goal.returns-in-Some-clause-kept
returns-in-Some-clause-kept c = λ room free.
    c.put_key.ensures.kept room (subst (λ (o : Option ℕ). IsFree o c.args.marks.now.items) c.in-Some.is free)
