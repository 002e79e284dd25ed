use Rattle.std.proofs.Common.{rules}
use Rattle.otp_table.specs.Marks.{number_at}
use Rattle.otp_table.proofs.Differing.{above_all, at_none, at_place}
use Rattle.otp_table.proofs.numbers.is_only_at.Goals as goal

pub returns-then-number-greatest : goal.returns-then-number-greatest
returns-then-number-greatest c w = above_all c.args.greatest c.args.place c.args.number (number_at c.args.rows.now) c.requires.within (search rules)

pub returns-then-is_same : goal.returns-then-is_same
returns-then-is_same c w = at_place c.args.place c.args.number c.args.old (number_at c.args.rows.now) c.requires.apart c.requires.old (search rules)

pub returns : goal.returns
returns c w = at_none c.args.rows.now c.args.place c.args.number (search rules)
