use Rattle.std.proofs.Common.{ℕ, ◌∙◌, ap, nat_lt}
use Rattle.otp_trial.proofs.Phases.{may_is}
use Rattle.otp_trial.proofs.story.strain.may_give_up.Goals as goal

pub returns : goal.returns
returns c =
    ap (λ (count : ℕ). nat_lt c.args.flags.now.intensity count) c.count_near.ensures ∙ may_is c.args.flags.now c.args.stamps.now.items c.args.now
