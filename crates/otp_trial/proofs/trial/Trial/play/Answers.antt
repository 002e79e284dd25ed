use Rattle.std.proofs.Common.{OnOk}
use Rattle.std.specs.Prelude.{Ok, Err}
use Rattle.otp_trial.specs.Played.{Begins, Tells, TellsFirst}
use Rattle.otp_trial.proofs.Tellings.{begins-then, first-then, tells-then}
use Rattle.otp_trial.proofs.trial.Trial.play.Goals as goal

pub returns-clause-told : goal.returns-clause-told
returns-clause-told c =
    (elim c.settle.result as (λ r.
    OnOk r (Tells c.happen.new.self c.settle.new.self c.happen.new.out.items c.settle.new.out.items) →
    OnOk r (Tells c.args.self.now c.settle.new.self c.args.out.now.items c.settle.new.out.items)) [
      | Ok _ ↦ λ later. tells-then c.args.self.now c.happen.new.self c.settle.new.self c.args.out.now.items c.happen.new.out.items c.settle.new.out.items c.in_ok-happen.ensures.told later
      | Err _ ↦ λ x. x
    ]) c.settle.ensures.told

pub returns-clause-first : goal.returns-clause-first
returns-clause-first c =
    (elim c.settle.result as (λ r.
    OnOk r (Tells c.happen.new.self c.settle.new.self c.happen.new.out.items c.settle.new.out.items) →
    OnOk r (Begins c.args.place c.args.kind c.args.self.now c.settle.new.self)) [
      | Ok _ ↦ λ later. begins-then c.args.place c.args.kind c.args.self.now c.happen.new.self c.settle.new.self c.happen.new.out.items c.settle.new.out.items c.in_ok-happen.ensures.first later
      | Err _ ↦ λ x. x
    ]) c.settle.ensures.told

pub returns-clause-begins : goal.returns-clause-begins
returns-clause-begins c =
    (elim c.settle.result as (λ r.
    OnOk r (Tells c.happen.new.self c.settle.new.self c.happen.new.out.items c.settle.new.out.items) →
    OnOk r (TellsFirst c.args.place c.args.kind c.args.self.now c.settle.new.self c.args.out.now.items c.settle.new.out.items)) [
      | Ok _ ↦ λ later. first-then c.args.place c.args.kind c.args.self.now c.happen.new.self c.settle.new.self c.args.out.now.items c.happen.new.out.items c.settle.new.out.items c.in_ok-happen.ensures.begins later
      | Err _ ↦ λ x. x
    ]) c.settle.ensures.told
