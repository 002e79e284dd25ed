use Rattle.std.proofs.Common.{subst, sym}
use Rattle.otp_table.specs.Marks.{IsGone, Rises}
use Rattle.otp_table.proofs.Indexed.{gone_on}
use Rattle.otp_table.proofs.Rising.{moved_rises}
use Rattle.otp_table.proofs.marks.remove_mark.Goals as goal

pub returns-clause-rises : goal.returns-clause-rises
returns-clause-rises c = subst Rises (sym c.close_gap.ensures.items) (moved_rises c.args.place c.take_old.new.marks.items c.take_old.ensures.rises)

pub returns-clause-gone : goal.returns-clause-gone
returns-clause-gone c =
    subst (IsGone c.args.place c.args.old c.args.marks.now.items) (sym c.close_gap.ensures.items)
    (gone_on c.args.place c.args.old c.args.marks.now.items c.take_old.new.marks.items c.take_old.ensures.changed)
