use Rattle.std.proofs.Common.{◌≡◌, ◌∙◌, ap, subst}
use Rattle.otp_trial.specs.Played.{Stand, Tells}
use Rattle.otp_trial.proofs.Tellings.{tells-then}
use Rattle.otp_trial.proofs.trial.Trial.settle.Goals as goal

pub loop-preserved : goal.loop-preserved
loop-preserved c =
    let P : Stand → Type 0 = λ p. Tells p c.take.new.self c.loop.out.items c.take.new.out.items in
    let same : c.take.new.self.time ≡ c.loop.self.time = c.in_ok-take.ensures.time ∙ ap (λ (s : Stand). s.time) c.next_deed.ensures in (
      tells-then c.args.self.now c.loop.self c.take.new.self c.args.out.now.items c.loop.out.items c.take.new.out.items
          c.loop.invariant.0 (subst P c.next_deed.ensures c.in_ok-take.ensures.told),
      same ∙ c.loop.invariant.1,
    )
