use Rattle.std.proofs.Common.{◌<◌, All, List, subst, sym}
use Rattle.otp_core.specs.Happened.{HappenedAfter}
use Rattle.otp_core.specs.View.{state_of}
use Rattle.otp_rules.specs.Needs.{needs_number, numbers_of}
use Rattle.otp_rules.specs.declared.event.Event.{Event}
use Rattle.otp_driver.specs.declared.driven.limits.TheConstants.{KEPT_EVENTS}
use Rattle.otp_driver.proofs.Above.{above_on}
use Rattle.otp_driver.proofs.Answered.{answered_on}
use Rattle.otp_driver.proofs.Kept.{refused_as}
use Rattle.otp_driver.proofs.driven.supervisor.happen.Goals as goal

pub returns-in-Ok-clause-answered : goal.returns-in-Ok-clause-answered
returns-in-Ok-clause-answered c =
    let is : HappenedAfter KEPT_EVENTS c.args.last c.args.reading c.args.kind.now c.args.core.now c.happen_after.new.self c.in-Ok.after = (c.in-Ok.ensures {u = tt}).ok in
    let event : Event = record { reading = c.args.reading; number = is.number; kind = c.args.kind.now } in
    answered_on c.answers_are_told.ensures.told c.cuts_agree.ensures.runs c.cuts_agree.ensures.step c.runs_are_joined.ensures.lists c.runs_are_joined.ensures.one_more
    KEPT_EVENTS event c.args.core.now c.happen_after.new.self is.happened

pub returns-in-Ok-clause-above : goal.returns-in-Ok-clause-above
returns-in-Ok-clause-above c =
    let is : HappenedAfter KEPT_EVENTS c.args.last c.args.reading c.args.kind.now c.args.core.now c.happen_after.new.self c.in-Ok.after = (c.in-Ok.ensures {u = tt}).ok in
    let event : Event = record { reading = c.args.reading; number = is.number; kind = c.args.kind.now } in
    λ n less h.
    subst (λ (events : List Event). All (λ m. n < m) (numbers_of events)) (sym is.happened.history)
    (above_on n c.args.last c.args.core.now.history event (needs_number (state_of c.args.core.now) c.args.reading c.args.kind.now) is.number_is less h)

pub returns-in-Err-clause-why : goal.returns-in-Err-clause-why
returns-in-Err-clause-why c =
    refused_as c.cuts_agree.ensures.runs c.runs_are_joined.ensures.lists c.args.core.now c.in-Err.cause c.fault_of.result c.fault_of.ensures (c.in-Err.ensures {u = tt}).why
