use Rattle.std.specs.Prelude.{ℕ, [], false}
use Rattle.std.proofs.Common.{◌∙◌, ap, sym}
use Rattle.otp_rules.specs.Needs.{work_starts}
use Rattle.otp_rules.specs.Step.{decide}
use Rattle.otp_needs.specs.Begun.{begun}
use Rattle.otp_machine.specs.Seen.{outcome_of}
use Rattle.otp_needs.proofs.needs.needs_number.Goals as goal

pub returns : goal.returns
returns c =
    c.decision_starts.ensures
    ∙ ap (λ (now : ℕ). work_starts (decide c.args.kind.now (begun c.args.machine.now now false))) c.max.ensures
    ∙ sym (c.number_starts_work.ensures c.args.reading c.args.kind.now (record { state = (outcome_of c.args.machine.now).state; orders = [] }))
