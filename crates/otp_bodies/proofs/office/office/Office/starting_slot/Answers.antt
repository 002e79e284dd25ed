use Rattle.std.proofs.Common.{◌≡◌, ℕ, [], Option, Some, ap, sym, ◌∙◌, subst, MatchOption}
use Rattle.otp_core.specs.View.{state_of}
use Rattle.otp_bodies.specs.declared.office.orders.Sending.{Sending}
use Rattle.otp_bodies.specs.declared.office.orders.Sending.TheVariants as sending
use Rattle.otp_bodies.specs.Orders.{slot_started}
use Rattle.otp_bodies.specs.Flushes.{IsFirst}
use Rattle.otp_bodies.proofs.Putting.{first_puts}
use Rattle.otp_bodies.proofs.office.office.Office.starting_slot.Goals as goal

pub returns-in-Some-Start : goal.returns-in-Some-Start
returns-in-Some-Start g c =
    let o = c.args.self.now in
    let F : Option Sending → Type 0 = λ r. MatchOption r (o.outbox ≡ []) (λ how. IsFirst o how) in
    let first : IsFirst o (sending.Start _ c.in-Some-Start.number) = subst (λ (h : Sending). IsFirst o h) c.in-Some-Start.field-0-is (subst F c.in-Some-Start.is c.first.ensures) in
    ap (λ (n : ℕ). Some n) c.row_slot.ensures.slot
    ∙ sym (ap (λ (n : Option ℕ). slot_started (state_of o.core).rows n) (first_puts o _ first))
