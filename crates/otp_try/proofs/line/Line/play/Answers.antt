use Rattle.otp_script.specs.Lines.{saying}
use Rattle.otp_try.proofs.Pieces.{adds_line}
use Rattle.otp_try.proofs.line.Line.play.Goals as goal

pub returns : goal.returns
returns c =
    adds_line c.args.self.number c.args.self.number c.args.line.now c.args.self.writer c.in_ok-outcome.outcome.is_unknown
    (saying c.args.step.when c.args.step.times c.args.step.path.now c.args.step.action) c.in_ok-outcome.outcome.taken
    c.args.trial.now c.do_times.new.trial c.args.out.now.items c.write_heading.new.out.items c.do_times.new.out.items c.write_verdict.new.out.items
    c.requires c.in_ok-write_heading.ensures c.in_ok-outcome.ensures.often c.in_ok-write_verdict.ensures
