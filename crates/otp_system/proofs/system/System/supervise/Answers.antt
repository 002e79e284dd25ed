use Rattle.std.proofs.Common.{◌∙◌, rules, sym}
use Rattle.otp_system.proofs.Supervised.{as_many, kept_on, reaches_on, was_served}
use Rattle.otp_system.proofs.system.System.supervise.Goals as goal

pub rest_at_once-requires : goal.rest_at_once-requires
rest_at_once-requires g c =
    let first = as_many c.args.hand.now c.give_to-answer.new.hand c.give_to-answer.ensures.standing in
    let then = as_many c.give_to-answer.new.hand c.hear_posts.new.hand c.hear_posts.ensures.standing in
    reaches_on _ _ _ _ first then (search rules)

pub returns-then-rest_at_once-clause-turn : goal.returns-then-rest_at_once-clause-turn
returns-then-rest_at_once-clause-turn g c =
    was_served g.N.PlanNaming.plan c.args.self.now.tables c.args.table _ c.args.number c.args.reading c.args.told c.is_served-served.result c.give_to-answer.result c.args.hand.now c.give_to-answer.new.hand c.rest_at_once.new.hand ((c.in-Some.ensures {u = tt}).of) c.give_to-answer.ensures.turn
    (kept_on c.give_to-answer.new.hand c.hear_posts.new.hand c.rest_at_once.new.hand c.hear_posts.ensures.kept c.rest_at_once.ensures.kept) (λ is. sym c.is_served-served.ensures ∙ is)

pub returns-else-rest_at_once-clause-turn : goal.returns-else-rest_at_once-clause-turn
returns-else-rest_at_once-clause-turn g c =
    was_served g.N.PlanNaming.plan c.args.self.now.tables c.args.table _ c.args.number c.args.reading c.args.told c.is_served-served.result c.give_to-answer.result c.args.hand.now c.give_to-answer.new.hand c.rest_at_once.new.hand ((c.in-Some.ensures {u = tt}).of) c.give_to-answer.ensures.turn
    (kept_on c.give_to-answer.new.hand c.hear_posts.new.hand c.rest_at_once.new.hand c.hear_posts.ensures.kept c.rest_at_once.ensures.kept) (λ is. sym c.is_served-served.ensures ∙ is)
