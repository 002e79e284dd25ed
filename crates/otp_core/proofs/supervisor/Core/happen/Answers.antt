use Rattle.std.proofs.Common.{rules, ◌∙◌, ap}
use Rattle.otp_core.specs.View.{View, state_of}
use Rattle.otp_rules.specs.Run.{state_after}
use Rattle.otp_rules.specs.State.{State}
use Rattle.otp_rules.specs.Step.{step}
use Rattle.otp_rules.specs.declared.event.Event.{Event}
use Rattle.otp_core.proofs.Runs.{pushed}
use Rattle.otp_core.proofs.supervisor.Core.happen.Goals as goal

pub returns-clause-happened : goal.returns-clause-happened
returns-clause-happened g c =
    let core : View = c.make_ready.new.self in
    let after : View = c.step_with.new.self in
    let event : Event = record { reading = c.args.reading; number = c.step_with.result; kind = c.args.kind.now } in
    record {
      base = search rules;
      earlier = search rules;
      cut = search rules;
      history = search rules;
      stored = search rules;
      state = ap (λ (b : State). state_after b after.history) c.step_with.ensures.base ∙ ap (state_after core.base) c.step_with.ensures.history ∙ pushed core.base core.history event
          ∙ ap (λ (v : View). (step (state_of v) event).state) c.make_ready.ensures.core;
      effects = search rules;
      prepared = search rules;
      answers = search rules;
    }
