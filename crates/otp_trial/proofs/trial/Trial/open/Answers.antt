use Rattle.std.proofs.Common.{subst}
use Rattle.otp_rules.specs.declared.event.Kind.TheVariants as kind
use Rattle.otp_trial.specs.Played.{Stand, TellsFirst}
use Rattle.otp_trial.proofs.trial.Trial.open.Goals as goal

pub returns-in-Ok-clause-told : goal.returns-in-Ok-clause-told
returns-in-Ok-clause-told c =
    let planted : Stand = c.in_ok-trial.trial in (
      planted.seats,
      c.in_ok-trial.ensures.planted,
      subst (λ (s : Stand). TellsFirst 0 (kind.Opened 0) s c.play.new.self c.args.out.now.items c.play.new.out.items) c.in_ok-trial.ensures.stands c.in-Ok.ensures.begins,
    )
