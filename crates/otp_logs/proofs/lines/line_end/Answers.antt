use Rattle.otp_logs.proofs.Cuts.{first_end, first_line, last_line, no_end}
use Rattle.otp_logs.proofs.lines.line_end.Goals as goal

pub returns-clause-first : goal.returns-clause-first
returns-clause-first c = first_line c.args.text.now c.find_end.result c.find_end.ensures.place

pub returns-clause-last : goal.returns-clause-last
returns-clause-last c = last_line c.args.text.now c.find_end.result c.find_end.ensures.place

pub returns-clause-ended : goal.returns-clause-ended
returns-clause-ended c = first_end c.args.text.now c.find_end.result c.find_end.ensures.place

pub returns-clause-unended : goal.returns-clause-unended
returns-clause-unended c = no_end c.args.text.now c.find_end.result c.find_end.ensures.place
