use Rattle.std.proofs.Common.{◌≡◌, ◌≤◌, All, ℕ, List, ap, arith, length, subst, sym, ◌∙◌}
use Rattle.otp_spec.specs.declared.child.ChildSpec.{ChildSpec}
use Rattle.otp_base.proofs.parts.machine_of.Goals as goal

pub window_of-requires-clause-period : goal.window_of-requires-clause-period
window_of-requires-clause-period c = c.requires.plan.period

pub returns-clause-sound : goal.returns-clause-sound
returns-clause-sound c =
    let stamps : c.in_ok-window.window.stamps ≡ c.args.base.now.stamps.items = c.in_ok-window.ensures.stamps ∙ c.as_slice.ensures.value in
    let specs : c.in_ok-specs.specs.items ≡ c.args.base.now.specs.items = c.in_ok-specs.ensures ∙ c.as_slice-4.ensures.value in
    record {
      limit = omega (arith, ap (λ (xs : List ChildSpec). length xs) specs, c.requires.plan.limit);
      ordered = subst (λ (xs : List ℕ). All (λ s. s ≤ c.args.base.now.last) xs) (sym stamps) c.requires.restarts.latest;
      last = c.requires.last;
      intensity = omega (arith, c.in_ok-window.ensures.intensity, c.requires.plan.intensity);
    }
