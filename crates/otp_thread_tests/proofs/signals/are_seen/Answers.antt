use Rattle.std.proofs.Common.{List, ℕ, sym, ◌∙◌, subst}
use Rattle.std.specs.Prelude.{Contains}
use Rattle.otp_thread_tests.proofs.signals.are_seen.Goals as goal

pub post_first-requires-2-clause-number : goal.post_first-requires-2-clause-number
post_first-requires-2-clause-number g c =
    let n = c.in_ok-nine.nine in
    subst (λ (l : List ℕ). Contains l n) (sym c.post_first.ensures.drawn) (c.in_ok-nine.ensures {u = tt}).stands

pub post_first-requires-3-clause-number : goal.post_first-requires-3-clause-number
post_first-requires-3-clause-number g c =
    let n = c.in_ok-five.five in
    subst (λ (l : List ℕ). Contains l n) (sym (c.post_first-2.ensures.drawn ∙ c.post_first.ensures.drawn)) (c.draw_several-2.ensures.kept n (c.in_ok-five.ensures {u = tt}).stands)

pub post_first-requires-4-clause-number : goal.post_first-requires-4-clause-number
post_first-requires-4-clause-number g c =
    let n = c.in_ok-nine.nine in
    subst (λ (l : List ℕ). Contains l n) (sym (c.post_first-3.ensures.drawn ∙ c.post_first-2.ensures.drawn ∙ c.post_first.ensures.drawn)) (c.in_ok-nine.ensures {u = tt}).stands
