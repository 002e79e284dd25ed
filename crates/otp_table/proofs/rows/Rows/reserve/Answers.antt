use Rattle.std.proofs.Common.{rules, refl}
use Rattle.otp_table.proofs.Same.{same_table}
use Rattle.otp_table.proofs.rows.Rows.reserve.Goals as goal

pub invariant_of-self : goal.invariant_of-self
invariant_of-self c = same_table c.self.inside _ c.reserve.ensures.items refl (refl, refl, refl, refl, refl, refl) (search rules, search rules, search rules) c.self.invariant

pub invariant_of-self-in_err-reserve-2 : goal.invariant_of-self-in_err-reserve-2
invariant_of-self-in_err-reserve-2 c =
    same_table c.self.inside _ c.reserve.ensures.items refl (refl, refl, refl, refl, refl, refl) (search rules, search rules, search rules) c.self.invariant

pub invariant_of-self-in_err-reserve_marks : goal.invariant_of-self-in_err-reserve_marks
invariant_of-self-in_err-reserve_marks c =
    same_table c.self.inside _ c.reserve.ensures.items c.reserve_marks.ensures.items (refl, refl, refl, refl, refl, refl) (search rules, search rules, search rules) c.self.invariant

pub invariant_of-self-2 : goal.invariant_of-self-2
invariant_of-self-2 c =
    same_table c.self.inside _ c.reserve.ensures.items c.reserve_marks.ensures.items (refl, refl, refl, refl, refl, refl) (search rules, search rules, search rules) c.self.invariant
