use Rattle.std.proofs.Common.{◌≡◌, ◌≤◌, ap, arith, refl, subst}
use Rattle.otp_trial.specs.Played.{Stand, Tells}
use Rattle.otp_trial.specs.TrialInside.{stand_of}
use Rattle.otp_trial.proofs.Tellings.{tells-then, tells_later}
use Rattle.otp_trial.proofs.trial.Trial.go_to.Goals as goal

pub loop-preserved : goal.loop-preserved
loop-preserved c =
    let a : Stand = stand_of c.self.inside in
    let mid : Stand = record a { time = c.max-self-inside-in-loop.result } in
    let now : a.time ≡ c.loop.self.time = ap (λ (s : Stand). s.time) c.self.view_is in
    let later : a.time ≤ mid.time = omega (arith, c.max-self-inside-in-loop.ensures) in
    let settled : c.settle.new.self.time ≡ mid.time = c.in_ok-settle.ensures.time in
    let until : c.in-Some.next ≤ c.args.time = c.in-Some.ensures in
    let went : Tells c.loop.self mid c.loop.out.items c.loop.out.items =
    subst (λ (s : Stand). Tells s mid c.loop.out.items c.loop.out.items) c.self.view_is (tells_later a mid c.loop.out.items refl refl later) in (
      tells-then c.args.self.now c.loop.self c.settle.new.self c.args.out.now.items c.loop.out.items c.settle.new.out.items c.loop.invariant.0
          (tells-then c.loop.self mid c.settle.new.self c.loop.out.items c.loop.out.items c.settle.new.out.items went c.in_ok-settle.ensures.told),
      omega (arith, now, settled, until, c.max-self-inside-in-loop.ensures, c.loop.invariant.1),
    )

pub returns-in_default-clause-told : goal.returns-in_default-clause-told
returns-in_default-clause-told c =
    let a : Stand = stand_of c.self.inside in
    let mid : Stand = record a { time = c.max-self-inside.result } in
    let later : a.time ≤ mid.time = omega (arith, c.max-self-inside.ensures) in
    let went : Tells c.loop.self mid c.loop.out.items c.loop.out.items =
    subst (λ (s : Stand). Tells s mid c.loop.out.items c.loop.out.items) c.self.view_is (tells_later a mid c.loop.out.items refl refl later) in
    tells-then c.args.self.now c.loop.self mid c.args.out.now.items c.loop.out.items c.loop.out.items c.loop.invariant.0 went
