use Rattle.std.proofs.Common.{◌≡◌, ℕ, subst, sym}
use Rattle.otp_suggest.proofs.EdgeFound.{edge_at}
use Rattle.otp_suggest.specs.Edges.{IsEdge}
use Rattle.otp_suggest.specs.declared.edge.Edge.TheVariants.{At}
use Rattle.otp_suggest.proofs.edge.search.Goals as goal

pub returns-clause-ok : goal.returns-clause-ok
returns-clause-ok c =
    subst (λ (v : ℕ). IsEdge c.args.dial c.args.clock c.args.supervisor.now.flags c.args.supervisor.now.specs c.args.id.now c.args.course (At v)) (sym c.value_at.ensures)
    (edge_at c.args.dial c.args.clock c.args.supervisor.now.flags c.args.supervisor.now.specs c.args.id.now c.args.course c.halving.bounds.short c.halving.bounds.long
    c.halving.invariant.order c.halving-test.false c.halving.invariant.falls c.halving.invariant.lasts)
