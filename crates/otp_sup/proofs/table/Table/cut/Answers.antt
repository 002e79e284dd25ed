use Rattle.std.proofs.Common.{◌≡◌, [], refl, rules, sym, subst, ◌∙◌}
use Rattle.otp_core.specs.View.{stored_of}
use Rattle.otp_bodies.specs.Cuts.{cut_office}
use Rattle.otp_bodies.specs.Offices.{OfficeView}
use Rattle.otp_bodies.proofs.Telling.{none_told, told_same}
use Rattle.otp_sup.specs.Facts.{IsTable}
use Rattle.otp_sup.proofs.Told.{told_cut}
use Rattle.otp_sup.proofs.table.Table.cut.Goals as goal

pub invariant_of-self-2 : goal.invariant_of-self-2
invariant_of-self-2 g c =
    let old : OfficeView = c.self.inside.office in
    let is : c.cut.new.self ≡ cut_office old = search rules in
    let none : c.clear.new.self.items ≡ [] = search rules in
    let Is : OfficeView → Type 0 = λ o. IsTable g.N.PlanNaming.plan (record { office = o; taker = c.self.inside.taker; bodies = c.self.inside.bodies.kept; counts = c.self.inside.counts; ends_told = c.clear.new.self.items }) in
    subst Is (sym is) (record {
      plan = c.self.invariant.plan;
      taken = c.self.invariant.taken;
      calls = c.self.invariant.calls;
      bodies = c.self.invariant.bodies;
      counts = c.self.invariant.counts;
      told = told_same _ _ [] _ refl none (none_told (stored_of (cut_office old).core));
      ends = none ∙ sym (told_cut (cut_office old).core c.self.inside.taker.taken refl);
      starts = c.self.invariant.starts;
      turns = c.self.invariant.turns;
    })
