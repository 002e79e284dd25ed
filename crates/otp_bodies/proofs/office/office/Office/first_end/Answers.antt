use Rattle.std.proofs.Common.{◌≡◌, arith, refl, ap, sym, ◌∙◌, subst, List, Some, drop}
use Rattle.std.specs.Prelude.{slice_get}
use Rattle.std.proofs.lemmas.Option.{slice_get_read}
use Rattle.otp_rules.specs.declared.event.Effect.{Effect}
use Rattle.otp_bodies.specs.Offices.{IsOffice, OfficeView}
use Rattle.otp_bodies.specs.Orders.{orders_in}
use Rattle.otp_bodies.specs.Flushes.{first_end}
use Rattle.otp_bodies.proofs.Evident.{first_comes, first_whole}
use Rattle.otp_bodies.proofs.Posting.{told_first}
use Rattle.otp_bodies.proofs.office.office.Office.first_end.Goals as goal

pub returns-clause-end : goal.returns-clause-end
returns-clause-end g c =
    let at : slice_get c.effects-effects.result.now c.first_order-place.result ≡ Some c.index-effects-place.result = slice_get_read c.effects-effects.result.now _ c.first_order-place.result c.index-effects-place.result refl (omega (arith, c.if-place-effects.false)) c.index-effects-place.is in
    let outbox = ap (λ (o : OfficeView). o.outbox) (sym c.self.view_is) ∙ ap (λ (l : List Effect). orders_in (drop c.self.inside.next l)) (sym c.effects-effects.ensures) ∙ c.first_order-place.ensures.first _ at in
    c.end_in.ensures ∙ sym (ap (λ (l : List Effect). first_end l) outbox)

pub returns-clause-comes : goal.returns-clause-comes
returns-clause-comes g c = λ n f. first_comes c.end_evidence.ensures.from_any c.args.self.now (subst IsOffice c.self.view_is c.self.invariant) n f

pub returns-clause-whole : goal.returns-clause-whole
returns-clause-whole g c = λ n f. first_whole c.args.self.now n f

pub returns-clause-posted : goal.returns-clause-posted
returns-clause-posted g c = λ n f. told_first c.args.self.now n f (subst IsOffice c.self.view_is c.self.invariant)
