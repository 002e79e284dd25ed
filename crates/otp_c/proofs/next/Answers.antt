use Rattle.std.specs.Prelude.{Err, None, Ok, Some, refl}
use Rattle.std.proofs.Common.{ℕ, rules}
use Rattle.otp_driver.specs.Driven.{Driven}
use Rattle.otp_driver.specs.declared.order.Order.{Order}
use Rattle.otp_driver.specs.declared.session.Session.{Session}
use Rattle.otp_driver.specs.Members.{state_in}
use Rattle.otp_driver.specs.Orders.{what_of}
use Rattle.otp_driver.specs.Sessions.{IsReadied, Readied, Told}
use Rattle.otp_driver.proofs.Tellings.{keeps_what}
use Rattle.otp_c.specs.Orders.{ShowsOrder}
use Rattle.otp_c.proofs.next.Goals as goal

pub took-requires : goal.took-requires
took-requires c =
    let readied : Readied c.in-Ok-Some.place c.args.session.now c.ready.new.self = search rules in
    record { order = readied.effect; next = readied.next; first = readied.first }

pub returns-in-Ok-Some : goal.returns-in-Ok-Some
returns-in-Ok-Some c =
    let place : ℕ = c.in-Ok-Some.place in
    let mid : Driven = c.ready.new.self.driver in
    let readied : Readied place c.args.session.now c.ready.new.self = search rules in
    let order : Order = record { supervisor = place; what = what_of (state_in readied.next.member).rows readied.effect } in
    let after : Session = record c.ready.new.self { driver = c.took.new.self } in
    let told : Told order c.args.session.now after =
    record {
      mid = mid;
      goes_on = readied.goes_on;
      place = place;
      supervisor = refl;
      effect = readied.effect;
      next = readied.next;
      first = readied.first;
      what_is = refl;
      takes = c.took.ensures;
      keeps = keeps_what readied.effect (state_in readied.next.member).rows place mid c.args.session.now.answer c.ready.new.self.answer readied.keeps;
    } in
    let shown : ShowsOrder order c.write_next.new.out = c.write_next.ensures readied.effect _ readied.next in
    (Ok (Some order), told, (refl, shown))

pub returns-in-Ok-None : goal.returns-in-Ok-None
returns-in-Ok-None c =
    let stood : IsReadied (Ok None) c.args.session.now c.ready.new.self = search rules in
    (Ok None, stood, (refl, refl))

pub returns-in-Err : goal.returns-in-Err
returns-in-Err c =
    let refused : IsReadied (Err c.in-Err.fault) c.args.session.now c.ready.new.self = search rules in
    (Err c.in-Err.fault, refused, (search rules, refl))
