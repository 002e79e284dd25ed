use Prim.Native.Nat.{zero, suc}
use Rattle.std.specs.Prelude.{is_some}
use Rattle.otp_core.specs.declared.cut.TheConstants.{MAX_EVENTS_IN_ALL}
use Rattle.std.proofs.Common.{◌<◌, rules, subst, ℕ, ◌≡◌, ◌+◌, ◌∙◌, Option, ap, arith, refl, sym}
use Rattle.otp_rules.specs.declared.event.Kind.{Kind}
use Rattle.otp_costs.specs.Scene.{IsFull, Scene, happened, heard, next_in, turned, turns}
use Rattle.otp_costs.proofs.Scenes.{happened_events}
use Rattle.otp_costs.proofs.limits.stage.CrashPlayer.settle.Goals as goal

pub loop-init : goal.loop-init
unfolding turns
loop-init c = ((zero, refl), omega arith, λ some. absurd (omega (arith, some)))

pub loop-preserved : goal.loop-preserved
unfolding turns turned
loop-preserved c =
    let time : ℕ = c.args.time in
    let before : Scene = c.loop.self in
    let same : c.hear.new.self ≡ heard before = c.hear.ensures in
    let is : c.happen.new.self ≡ happened time c.in-Some.kind c.hear.new.self = c.in_ok-happen.ensures.ok in
    let grew : c.happen.new.self.events ≡ before.events + 1 =
    ap (λ (s : Scene). s.events) is ∙ happened_events time c.in-Some.kind c.hear.new.self ∙ ap (λ (s : Scene). s.events + 1) same in (
      (
        suc c.loop.invariant.0.0,
        is
            ∙ ap (λ (s : Scene). happened time c.in-Some.kind s) same
            ∙ ap (λ (k : Option Kind). turned time before k) (sym c.in-Some.is ∙ c.next_kind.ensures)
            ∙ ap (λ (s : Scene). turned time s (next_in time s)) c.loop.invariant.0.1,
      ),
      omega (arith, grew, c.loop.invariant.1),
      λ some many. record {
        count = c.loop.invariant.0.0;
        is_full = subst (λ (s : Scene). IsFull s) c.loop.invariant.0.1 (omega (arith, grew, many));
        more = ap (λ (s : Scene). is_some (next_in time s)) (sym c.loop.invariant.0.1) ∙ ap is_some (sym c.next_kind.ensures ∙ c.in-Some.is);
      },
    )

pub returns-clause-full : goal.returns-clause-full
returns-clause-full c =
    let some : 0 < c.loop.counter = search rules in
    let many : MAX_EVENTS_IN_ALL < c.loop.self.events = search rules in
    λ _. c.loop.invariant.2 some many
