use Rattle.std.proofs.Common.{ap, ◌∙◌}
use Rattle.otp_rules.specs.Needs.{needs_number}
use Rattle.otp_rules.specs.State.{State}
use Rattle.otp_needs.proofs.Stored.{asks_all}
use Rattle.otp_needs.proofs.asking.CoreNeedsNumber.needs_number.Goals as goal

pub returns : goal.returns
returns c =
    c.needs_number.ensures
    ∙ ap (λ (s : State). needs_number s c.args.reading c.args.kind.now) c.machine.ensures.state
    ∙ asks_all c.runs_are_joined.ensures.lists c.cuts_agree.ensures.runs c.cuts_agree.ensures.needs c.args.self.now c.args.reading c.args.kind.now
