use Rattle.std.proofs.Common.{subst}
use Rattle.otp_rules.specs.Rate.{IsRated}
use Rattle.otp_core.specs.CoreInside.{events_of, first_of}
use Rattle.otp_core.specs.View.{View, state_of}
use Rattle.otp_core.proofs.supervisor.Core.kept_restarts.Goals as goal

pub returns-clause-rate : goal.returns-clause-rate
returns-clause-rate c =
    let Rated : View → Type 0 = λ v. IsRated (state_of v) in
    subst Rated c.self.view_is (c.restart_rate.ensures.from_any (first_of c.self.inside) (events_of c.self.inside) c.self.invariant.shows.1 c.self.invariant.rated)
