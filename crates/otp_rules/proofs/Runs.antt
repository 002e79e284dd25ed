-- Histories in two parts.
use Rattle.std.specs.Prelude.{◌≡◌, ◌++◌, List, [], ◌∷◌, refl}
use Rattle.std.proofs.Common.{◌∙◌, ap, sym, append_assoc, append-nil}
use Rattle.otp_rules.specs.declared.event.Effect.{Effect}
use Rattle.otp_rules.specs.Step.{step}
use Rattle.otp_rules.specs.Run.{RunGoesOn, RunsJoined, orders_of, state_after}

pub runs_joined_law : RunsJoined
runs_joined_law s [] later = (refl, refl)
runs_joined_law s (e ∷ events) later =
    let rest : (state_after (step s e).state (events ++ later) ≡ state_after (state_after (step s e).state events) later)
    × (orders_of (step s e).state (events ++ later) ≡ orders_of (step s e).state events ++ orders_of (state_after (step s e).state events) later) =
    runs_joined_law (step s e).state events later in
    (rest.0, ap (λ (orders : List Effect). (step s e).orders ++ orders) rest.1 ∙ sym (append_assoc (step s e).orders (orders_of (step s e).state events) (orders_of (state_after (step s e).state events) later)))

pub run_goes_on_law : RunGoesOn
run_goes_on_law s events e =
    let both : (state_after s (events ++ e ∷ []) ≡ (step (state_after s events) e).state)
    × (orders_of s (events ++ e ∷ []) ≡ orders_of s events ++ ((step (state_after s events) e).orders ++ [])) =
    runs_joined_law s events (e ∷ []) in
    (both.0, both.1 ∙ ap (λ (orders : List Effect). orders_of s events ++ orders) (append-nil (step (state_after s events) e).orders))
