use Rattle.std.proofs.Common.{List, OnOk, map, subst}
use Rattle.otp_rules.specs.declared.event.Kind.TheVariants as kind
use Rattle.otp_trial.specs.Played.{Begins, Seated, Stand, at_start, fresh}
use Rattle.otp_trial.specs.TrialInside.{stand_of}
use Rattle.otp_trial.proofs.trial.Trial.open_to.Goals as goal

pub returns-clause-opened : goal.returns-clause-opened
returns-clause-opened c =
    let a : Stand = stand_of c.self.inside in
    let Fresh : List Seated → Type 0 = λ seats. OnOk c.play.result (Begins 0 (kind.Opened 0) (at_start a.clock seats) c.play.new.self) in
    let Opened : Stand → Type 0 = λ s. OnOk c.play.result (Begins 0 (kind.Opened 0) (at_start s.clock (map fresh s.seats)) c.play.new.self) in
    subst Opened c.self.view_is (subst Fresh c.in_ok-freshen.ensures.fresh c.play.ensures.first)
