use Rattle.std.proofs.Common.{List, None, subst}
use Rattle.otp_rules.specs.declared.event.Event.{Event}
use Rattle.otp_rules.specs.declared.event.Kind.TheVariants as kind
use Rattle.otp_rules.specs.Evidence.{IsShowing}
use Rattle.otp_rules.specs.Run.{state_after}
use Rattle.otp_rules.specs.State.{State}
use Rattle.otp_core.specs.CoreInside.{events_of, first_of}
use Rattle.otp_core.specs.Resumed.{GoesOn}
use Rattle.otp_core.specs.View.{View, state_of}
use Rattle.otp_core.proofs.supervisor.Core.checkpoint.Goals as goal

pub returns-clause-goes_on : goal.returns-clause-goes_on
returns-clause-goes_on c =
    let s : State = state_after (first_of c.self.inside) (events_of c.self.inside) in
    let any : Event = record { reading = 0; number = None; kind = kind.Ticked } in
    let shown : IsShowing s = (c.end_evidence.ensures.from_any (first_of c.self.inside) (events_of c.self.inside) any c.self.invariant.shows).0 in
    let On : View → Type 0 = λ v. GoesOn (state_of v) in
    subst On c.self.view_is (λ (later : List Event). c.cuts_agree.ensures.short s later shown)
