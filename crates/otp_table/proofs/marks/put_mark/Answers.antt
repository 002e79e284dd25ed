use Rattle.std.proofs.Common.{◌≡◌, List, ◌∷◌, ◌++◌, drop, take, subst, sym, rules}
use Rattle.otp_table.specs.declared.marks.Mark.{Mark}
use Rattle.otp_table.specs.Marks.{IsPut, Rises}
use Rattle.otp_table.proofs.Rising.{AllBefore, AllFrom, put_is, put_rises}
use Rattle.otp_table.proofs.marks.put_mark.Goals as goal

pub returns-clause-rises : goal.returns-clause-rises
returns-clause-rises c =
    let old : List Mark = c.args.marks.now.items in
    let first = c.first_from-first.result in
    let items : c.insert.new.self.items ≡ take first old ++ record { key = c.args.key; place = c.args.place } ∷ drop first old = search rules in
    let same : c.deref.result.now ≡ old = c.deref.ensures.value in
    subst Rises (sym items) (put_rises c.args.key c.args.place first old c.requires.rises c.requires.free
    (subst (AllBefore c.args.key first) same c.first_from-first.ensures.before) (subst (AllFrom c.args.key first) same c.first_from-first.ensures.after))

pub returns-clause-put : goal.returns-clause-put
returns-clause-put c =
    let old : List Mark = c.args.marks.now.items in
    let first = c.first_from-first.result in
    let items : c.insert.new.self.items ≡ take first old ++ record { key = c.args.key; place = c.args.place } ∷ drop first old = search rules in
    subst (IsPut c.args.key c.args.place old) (sym items) (put_is c.args.key c.args.place first old)
