use Rattle.otp_system.proofs.Supervised.{took_turn}
use Rattle.otp_system.proofs.system.System.turn_heard.Goals as goal

pub returns-clause-turn : goal.returns-clause-turn
returns-clause-turn g c =
    took_turn g.J.Job.started g.S.Subsystem.inited g.J.Job.is_trapping g.J.Job.turned g.S.Subsystem.polled g.S.Subsystem.terminated g.N.PlanNaming.plan c.args.self.now.slots c.args.self.now.tables c.args.reading
    c.give_turn-served.result c.args.hand.now c.is_ready.new.hand c.give_turn-served.new.hand c.end_turn.new.hand (c.is_ready.ensures.found c.if-not-is_ready.false) c.is_ready.ensures.begun c.give_turn-served.ensures.turn c.end_turn.ensures.begun
