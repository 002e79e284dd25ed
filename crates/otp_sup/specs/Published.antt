-- What a supervisor publishes of its children, event by event (supervisor, count_children/1). (own)
use Rattle.std.specs.Prelude.{◌≡◌, List, [], ◌∷◌, ◌++◌, MatchOption, Option}
use Rattle.otp_rules.specs.Counts.{counts_of}
use Rattle.otp_rules.specs.Step.{step}
use Rattle.otp_rules.specs.State.{State}
use Rattle.otp_rules.specs.declared.call.CountsNow.{CountsNow}
use Rattle.otp_rules.specs.declared.event.Event.{Event}
use Rattle.otp_spec.specs.Supervisor.{Supervisor}

-- what it counts in this state, and after each of these events: so those at place k are of the first k of them
abbrev pub counts_along : State → List Event → List CountsNow
counts_along s [] = counts_of s ∷ []
counts_along s (e ∷ events) = counts_of s ∷ counts_along (step s e).state events

-- what was published is what is counted along the history. Where the name has no plan, that comes behind what the place counted
-- before it got its supervisor
abbrev pub AreCounted : Option Supervisor → List CountsNow → List CountsNow → Type 0
AreCounted plan along published = MatchOption plan ((before : List CountsNow) × (published ≡ before ++ along)) (λ _. published ≡ along)
