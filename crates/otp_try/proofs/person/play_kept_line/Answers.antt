use Rattle.std.proofs.Common.{subst}
use Rattle.otp_trial.specs.Played.{Stand, Tells}
use Rattle.otp_try.proofs.person.play_kept_line.Goals as goal

pub returns : goal.returns
returns c =
    subst (λ (s : Stand). Tells s c.do_times.new.trial c.args.out.now.items c.do_times.new.out.items) c.begin_line.ensures c.in_ok-do_times.ensures.told
