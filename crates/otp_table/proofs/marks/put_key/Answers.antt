use Rattle.std.proofs.Common.{ℕ, List, refl, subst}
use Rattle.otp_table.specs.declared.marks.Mark.{Mark}
use Rattle.otp_table.specs.Marks.{IsUnder}
use Rattle.otp_table.proofs.Indexed.{put_changed}
use Rattle.otp_table.proofs.marks.put_key.Goals as goal

pub put_mark-requires-clause-free : goal.put_mark-requires-clause-free
put_mark-requires-clause-free c =
    let IsFree : List Mark → Type 0 = λ ms. (p : ℕ) → IsUnder c.args.key p ms → ⊥ in
    subst IsFree c.deref.ensures.value c.in-None.ensures

pub returns-in-None-clause-changed : goal.returns-in-None-clause-changed
returns-in-None-clause-changed c = λ _. put_changed c.args.place c.args.key c.args.marks.now.items c.put_mark.new.marks.items c.put_mark.ensures.put

pub returns-in-Some-clause-kept : goal.returns-in-Some-clause-kept
returns-in-Some-clause-kept c = λ room free.
    absurd (free c.args.key c.in-Some.field-0 refl (subst (λ (ms : List Mark). IsUnder c.args.key c.in-Some.field-0 ms) c.deref.ensures.value c.in-Some.ensures))
