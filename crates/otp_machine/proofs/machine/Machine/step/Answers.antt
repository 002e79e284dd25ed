use Rattle.std.proofs.Common.{◌≡◌, ℕ, ◌∙◌, ap, subst, sym}
use Rattle.std.specs.Prelude.{Bool, IsTrue}
use Rattle.otp_rules.specs.Needs.{needs_number, work_starts}
use Rattle.otp_rules.specs.State.{Outcome}
use Rattle.otp_rules.specs.Step.{decide}
use Rattle.otp_machine.specs.Seen.{outcome_of}
use Rattle.otp_machine.proofs.machine.Machine.step.Goals as goal

pub advance-requires-clause-number : goal.advance-requires-clause-number
advance-requires-clause-number g c =
    let before : Outcome = outcome_of c.args.self.now in
    let starts : work_starts (outcome_of c.decide.new.self) ≡ needs_number before.state c.args.reading c.args.kind.now =
    ap work_starts (c.decide.ensures.outcome ∙ ap (λ (l : ℕ). decide c.args.kind.now (record before { state = record before.state { last = l } })) c.max-self.ensures)
    ∙ sym (c.number_starts_work.ensures c.args.reading c.args.kind.now before) in
    λ yes. c.requires.number (subst (λ (b : Bool). IsTrue b) starts yes)

pub returns-clause-starts : goal.returns-clause-starts
returns-clause-starts g c =
    let before : Outcome = outcome_of c.args.self.now in
    c.advance.ensures.starts
    ∙ ap work_starts (c.decide.ensures.outcome ∙ ap (λ (l : ℕ). decide c.args.kind.now (record before { state = record before.state { last = l } })) c.max-self.ensures)
    ∙ sym (c.number_starts_work.ensures c.args.reading c.args.kind.now before)
