use Rattle.std.proofs.Common.{◌≡◌, ℕ, rules, subst, sym}
use Rattle.otp_driver.specs.Driven.{Driven, IsOutside}
use Rattle.otp_driver.specs.Members.{state_in}
use Rattle.otp_driver.specs.Orders.{what_of}
use Rattle.otp_driver.specs.Sessions.{IsToldAt, KeepsOf, Readied}
use Rattle.otp_driver.specs.declared.order.What.{What}
use Rattle.otp_driver.proofs.Tellings.{keeps_what, told_next}
use Rattle.otp_driver.proofs.session.Session.next.Goals as goal

pub took-requires : goal.took-requires
took-requires c =
    let readied : Readied c.in-Some.place c.args.self.now c.ready.new.self = search rules in
    record { order = readied.effect; next = readied.next; first = readied.first }

pub returns : goal.returns
returns c =
    let mid : Driven = c.ready.new.self.driver in
    let place : ℕ = c.in-Some.place in
    let order = c.in-Some-order_at.order in
    let told : IsToldAt place order mid = c.in-Some-order_at.ensures.told in
    let readied : Readied place c.args.self.now c.ready.new.self = search rules in
    let outside : IsOutside mid place = record { order = readied.effect; next = readied.next; first = readied.first } in
    let what : order.what ≡ what_of (state_in outside.next.member).rows outside.order = told_next mid place order outside told in
    let keeps : KeepsOf order.what place mid c.args.self.now.answer c.ready.new.self.answer =
    subst (λ (w : What). KeepsOf w place mid c.args.self.now.answer c.ready.new.self.answer) (sym what)
    (keeps_what readied.effect _ place mid _ _ readied.keeps) in
    record {
      mid = mid;
      goes_on = readied.goes_on;
      place = place;
      supervisor = told.supervisor;
      effect = readied.effect;
      next = readied.next;
      first = readied.first;
      what_is = what;
      takes = c.took.ensures;
      keeps = subst (λ (p : ℕ). KeepsOf order.what p mid c.args.self.now.answer c.ready.new.self.answer) (sym told.supervisor) keeps;
    }
