use Rattle.std.proofs.Common.{◌≡◌, arith, refl, ap, sym, ◌∙◌, List, subst, Some, Option, drop, []}
use Rattle.std.specs.Prelude.{slice_get, MatchOption}
use Rattle.std.proofs.lemmas.Option.{slice_get_read}
use Rattle.otp_core.specs.View.{state_of}
use Rattle.otp_rules.specs.State.{own_number}
use Rattle.otp_rules.specs.declared.event.Effect.{Effect}
use Rattle.otp_bodies.specs.declared.office.orders.Sending.{Sending}
use Rattle.otp_bodies.specs.Offices.{OfficeView}
use Rattle.otp_bodies.specs.Orders.{orders_in}
use Rattle.otp_bodies.specs.Flushes.{IsFirst, sending_of}
use Rattle.otp_bodies.proofs.Sends.{is_sent_somehow}
use Rattle.otp_bodies.proofs.office.office.Office.first.Goals as goal

pub returns : goal.returns
returns g c =
    let at : slice_get c.effects-effects.result.now c.first_order-place.result ≡ Some c.index-effects-place.result = slice_get_read c.effects-effects.result.now _ c.first_order-place.result c.index-effects-place.result refl (omega (arith, c.if-place-effects.false)) c.index-effects-place.is in
    let outbox = ap (λ (o : OfficeView). o.outbox) (sym c.self.view_is) ∙ ap (λ (l : List Effect). orders_in (drop c.self.inside.next l)) (sym c.effects-effects.ensures) ∙ c.first_order-place.ensures.first _ at in
    let own = c.own_number.ensures ∙ ap (λ (o : OfficeView). own_number (state_of o.core).phase) c.self.view_is in
    let F : Option Sending → Type 0 = λ r. MatchOption r (c.args.self.now.outbox ≡ []) (λ how. IsFirst c.args.self.now how) in
    subst F (sym (c.sending_of.ensures ∙ ap (λ n. sending_of n c.index-effects-place.result) own)) (is_sent_somehow c.args.self.now _ _ outbox (c.first_order-place.ensures.order _ at))
