use Rattle.std.specs.Prelude.{Result, Err, refl}
use Rattle.std.proofs.Common.{◌≡◌, ℕ, Option, inr, rules, subst, sym}
use Rattle.otp_driver.specs.Driven.{Driven, IsOutside, Stands}
use Rattle.otp_driver.specs.Sessions.{IsReadied, Readied}
use Rattle.otp_driver.specs.declared.driven.fault.DriveFault.{DriveFault}
use Rattle.otp_driver.specs.declared.driven.fault.DriveFault.TheVariants.{OutOfMemory}
use Rattle.otp_driver.specs.declared.session.Session.{Session}
use Rattle.otp_driver.proofs.Tellings.{tells_next}
use Rattle.otp_driver.proofs.session.Session.ready.Goals as goal

pub returns : goal.returns
returns c =
    let mid : Driven = c.go_on.new.self in
    let place : ℕ = c.in-Some.place in
    let outside : IsOutside mid place = subst (λ (f : Option ℕ). Stands f mid) c.in-Some.is c.in_ok-place.ensures.stands in
    let stood : Session = record { driver = mid; answer = c.keep_next.new.self.answer } in
    let same : c.keep_next.new.self ≡ stood = search rules in
    let readied : Readied place c.args.self.now stood =
    record {
      goes_on = c.in_ok-place.ensures.goes_on;
      effect = outside.order;
      next = outside.next;
      first = outside.first;
      keeps = c.in_ok-keep_next.ensures.kept outside.order _ outside.next;
    } in
    subst (λ (s : Session). Readied place c.args.self.now s) (sym same) readied

pub returns-in_err-keep_next : goal.returns-in_err-keep_next
returns-in_err-keep_next c =
    let mid : Driven = c.go_on.new.self in
    let place : ℕ = c.in-Some.place in
    let outside : IsOutside mid place = subst (λ (f : Option ℕ). Stands f mid) c.in-Some.is c.in_ok-place.ensures.stands in
    let left : Session = record { driver = mid; answer = c.args.self.now.answer } in
    let same : c.keep_next.new.self ≡ left = c.in_err-keep_next.ensures.err in
    let told : c.from_residual-in_err-keep_next.result ≡ Err OutOfMemory = search rules in
    let refused : IsReadied (Err OutOfMemory) c.args.self.now left =
    (c.in_ok-place.ensures.goes_on, refl, inr (refl, tells_next mid place c.in_err-keep_next.ensures.why.1.0 outside c.in_err-keep_next.ensures.why.1.1)) in
    subst (λ (r : Result (Option ℕ) DriveFault). IsReadied r c.args.self.now c.keep_next.new.self) (sym told)
    (subst (λ (s : Session). IsReadied (Err OutOfMemory) c.args.self.now s) (sym same) refused)
