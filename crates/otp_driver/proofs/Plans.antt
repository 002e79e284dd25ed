-- No event changes the specifications.
use Rattle.std.specs.Prelude.{◌≡◌, List, [], ◌∷◌, refl}
use Rattle.std.proofs.Common.{◌∙◌}
use Rattle.otp_rules.specs.Frames.{StepKeepsPlan}
use Rattle.otp_rules.specs.Run.{state_after}
use Rattle.otp_rules.specs.State.{State}
use Rattle.otp_rules.specs.Step.{step}
use Rattle.otp_rules.specs.declared.event.Event.{Event}

pub specs_stay : StepKeepsPlan → (s : State) (events : List Event) → (state_after s events).specs ≡ s.specs
specs_stay keeps s [] = refl
specs_stay keeps s (e ∷ es) = specs_stay keeps (step s e).state es ∙ (keeps s e).1
