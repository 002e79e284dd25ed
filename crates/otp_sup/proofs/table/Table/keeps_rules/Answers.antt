use Rattle.std.proofs.Common.{subst}
use Rattle.otp_core.specs.View.{state_of}
use Rattle.otp_rules.specs.Counts.{counts_of}
use Rattle.otp_sup.specs.Facts.{KeepsRules}
use Rattle.otp_bodies.specs.Orders.{starts_in}
use Rattle.otp_sup.proofs.OneBody.{one_body_each}
use Rattle.otp_sup.proofs.Published.{last_along, last_counted}
use Rattle.otp_sup.specs.Published.{counts_along}
use Rattle.otp_sup.proofs.table.Table.keeps_rules.Goals as goal

pub returns : goal.returns
returns g c =
    subst (KeepsRules g.N.PlanNaming.plan) c.self.view_is (record {
      plan = c.self.invariant.plan;
      office = c.keeps_rules.ensures;
      taken = c.self.invariant.taken;
      calls = c.self.invariant.calls;
      bodies = c.self.invariant.bodies;
      each_body = one_body_each (state_of c.self.inside.office.core) (starts_in c.self.inside.office.outbox) c.self.inside.bodies.kept c.self.invariant.bodies;
      counts =
          let core = c.self.inside.office.core in
          last_counted (g.N.PlanNaming.plan c.self.inside.taker.inbox) (counts_along core.base core.history) c.self.inside.counts.published (counts_of (state_of core)) (last_along core.base core.history) c.self.invariant.counts;
      published = c.self.invariant.counts;
      told = c.self.invariant.told;
      ends = c.self.invariant.ends;
      starts = c.self.invariant.starts;
      turns = c.self.invariant.turns;
    })
