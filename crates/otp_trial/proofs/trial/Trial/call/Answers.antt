use Rattle.std.proofs.Common.{refl, subst}
use Rattle.otp_rules.specs.declared.event.Item.TheVariants as item
use Rattle.otp_rules.specs.declared.event.Kind.TheVariants as kind
use Rattle.otp_trial.specs.Played.{Begins, Stand}
use Rattle.otp_trial.proofs.trial.Trial.call.Goals as goal

pub returns-clause-called : goal.returns-clause-called
returns-clause-called c =
    let P : Stand → Type 0 = λ p. Begins c.args.place (kind.Took (item.Call c.saturating_add-self-inside.result c.args.call)) p c.play.new.self in
    (refl, (c.saturating_add-self-inside.result, subst P c.self.view_is c.in_ok-play.ensures.first))
