use Rattle.std.proofs.Common.{Some, ◌∙◌, ap, sym, subst}
use Rattle.otp_job.specs.Turns.{FirstTurn}
use Rattle.otp_job.proofs.turn.one_turn_at.Goals as goal

-- the bridge that was taken out of the process is the body that it came with
pub returns-in-Bridge-clause-first : goal.returns-in-Bridge-clause-first
returns-in-Bridge-clause-first g c fresh =
    subst (λ p. FirstTurn g.J.Job.started g.S.Subsystem.inited p.ticket c.args.site.now.reading p.body c.start_bridge.result) c.process.view_is
    (subst (λ i. FirstTurn g.J.Job.started g.S.Subsystem.inited i.ticket c.args.site.now.reading i.body c.start_bridge.result) c.deref_mut.ensures.value
    (subst (λ b. FirstTurn g.J.Job.started g.S.Subsystem.inited c.deref_mut.result.now.ticket c.args.site.now.reading b c.start_bridge.result)
    (sym (sym c.take.ensures.value ∙ c.in-Some.is ∙ ap (λ b. Some b) c.in-Bridge.is))
    c.start_bridge.ensures))
