use Rattle.std.proofs.lemmas.List.Elements.{All-push, All-same}
use Rattle.otp_draft.specs.Plans.{HasAllBodies}
use Rattle.otp_draft.proofs.plan.put_plan.Goals as goal

pub returns-clause-full : goal.returns-clause-full
returns-clause-full g c =
    All-same HasAllBodies _ _ c.push_reserved.ensures.items (All-push HasAllBodies c.args.plans.now.items c.args.plan c.requires.full c.requires.plan)
