use Rattle.std.proofs.Common.{Bool, inl, rules, subst}
use Rattle.otp_driver.specs.Driven.{Carried, Does}
use Rattle.otp_driver.proofs.Within.{has_next}
use Rattle.otp_driver.proofs.driver.Driver.do_next.Goals as goal

pub returns-then-done-clause-ok : goal.returns-then-done-clause-ok
returns-then-done-clause-ok c =
    let done : Does c.in-Some.route c.args.place c.args.self.now c.carry_out.new.self =
    subst (λ (b : Bool). Carried b c.in-Some.route c.args.place c.args.self.now c.carry_out.new.self) c.if-done.true c.in_ok-done.ensures.ok in
    inl (record {
      place = c.args.place;
      order = c.in-Some.ensures.some.0;
      route = c.in-Some.route;
      next = c.in-Some.ensures.some.1;
      first = c.requires.first;
      mid = c.carry_out.new.self;
      does = done;
      takes = c.pass.ensures;
    })

pub returns-in_default-clause-why : goal.returns-in_default-clause-why
returns-in_default-clause-why c =
    absurd (has_next c.args.self.now.members c.args.place c.requires.place c.requires.order (search rules))
