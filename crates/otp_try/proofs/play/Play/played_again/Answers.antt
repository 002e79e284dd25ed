use Rattle.otp_trial.proofs.Tellings.{tells-then}
use Rattle.otp_trial.specs.Played.{at_start, fresh}
use Rattle.std.proofs.Common.{map}
use Rattle.otp_try.proofs.play.Play.played_again.Goals as goal

pub loop-kept-preserved : goal.loop-kept-preserved
loop-kept-preserved c = (
  c.loop-kept.invariant.0,
  tells-then (at_start c.args.self.now.trial.clock (map fresh c.args.self.now.trial.seats)) c.loop-kept.trial c.play_kept_line.new.trial c.loop-kept.invariant.0 c.loop-kept.sheet.items c.play_kept_line.new.out.items c.loop-kept.invariant.1 c.in-Ok.ensures,
)

pub loop-kept-init : goal.loop-kept-init
loop-kept-init c = (_, c.in_ok-trial.ensures)
