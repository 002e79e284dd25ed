use Rattle.std.proofs.Common.{◌≡◌, ◌++◌, OnOk, codes, decimal, subst, sym}
use Rattle.otp_suggest.proofs.Puts.{put_one, put_three}
use Rattle.otp_suggest.specs.Told.{enough_text}
use Rattle.otp_suggest.specs.declared.edge.Edge.{Edge}
use Rattle.otp_suggest.proofs.told.write_enough.Goals as goal

pub returns-in_ok-write_number-in-At : goal.returns-in_ok-write_number-in-At
unfolding enough_text
returns-in_ok-write_number-in-At c =
    subst (λ (e : Edge). OnOk c.extend_from_slice-in-At.result (c.extend_from_slice-in-At.new.self.items ≡ c.args.out.now.items ++ enough_text e))
    (sym c.in-At.is)
    (put_three c.extend_from_slice-in-At.result c.args.out.now.items (codes "intensity ") (decimal c.in-At.value) (codes " is enough, whenever they come\n")
    c.extend_from_slice.new.self.items c.write_number.new.out.items c.extend_from_slice-in-At.new.self.items
    c.in_ok-extend_from_slice-in-At.ensures.items c.in_ok-write_number-in-At.ensures c.extend_from_slice-in-At.ensures.items)

pub returns-in-Nowhere : goal.returns-in-Nowhere
unfolding enough_text
returns-in-Nowhere c =
    subst (λ (e : Edge). OnOk c.extend_from_slice-in-Nowhere.result (c.extend_from_slice-in-Nowhere.new.self.items ≡ c.args.out.now.items ++ enough_text e))
    (sym c.in-Nowhere.is)
    (put_one c.extend_from_slice-in-Nowhere.result c.args.out.now.items (codes "no intensity is enough where they come at once\n")
    c.extend_from_slice-in-Nowhere.new.self.items c.extend_from_slice-in-Nowhere.ensures.items)
