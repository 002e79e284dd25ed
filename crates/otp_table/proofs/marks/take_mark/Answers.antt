use Rattle.std.proofs.Common.{◌≡◌, ℕ, List, ◌++◌, drop, take, subst, suc, sym, rules}
use Rattle.otp_table.specs.declared.marks.Mark.{Mark}
use Rattle.otp_table.specs.Marks.{HasKey, IsTaken, IsUnder}
use Rattle.otp_table.proofs.Rising.{none_taken, taken_is}
use Rattle.otp_table.proofs.marks.take_mark.Goals as goal

pub returns-in-Some-clause-taken : goal.returns-in-Some-clause-taken
returns-in-Some-clause-taken c =
    let old : List Mark = c.args.marks.now.items in
    let i = c.in-Some.index in
    let d : Mark = record { key = 0; place = 0 } in
    let items : c.remove.new.self.items ≡ take i old ++ drop (suc i) old = search rules in
    let at : HasKey c.args.key i old = subst (HasKey c.args.key i) c.deref.ensures.value c.in-Some.ensures in
    subst (IsTaken c.args.key old) (sym items) (taken_is c.args.key i old d c.requires at.0 (at.1 d))

pub returns-in-None-clause-taken : goal.returns-in-None-clause-taken
returns-in-None-clause-taken c =
    let None : List Mark → Type 0 = λ ms. (p : ℕ) → IsUnder c.args.key p ms → ⊥ in
    none_taken c.args.key c.args.marks.now.items (subst None c.deref.ensures.value c.in-None.ensures)
