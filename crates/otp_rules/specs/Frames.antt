-- What no event changes, and what every event keeps (own).
use Rattle.std.specs.Prelude.{◌≡◌, ◌≤◌, ◌++◌, max, All}
use Rattle.otp_rules.specs.declared.event.Event.{Event}
use Rattle.otp_rules.specs.State.{Outcome, State}
use Rattle.otp_rules.specs.Step.{step, step_on}

-- no event changes the flags or the specifications
abbrev pub StepKeepsPlan : Type 0
StepKeepsPlan = (s : State) (e : Event) → ((step s e).state.flags ≡ s.flags) × ((step s e).state.specs ≡ s.specs)

-- the last stamp is the event's reading, or the one before if that is later
abbrev pub StepStamps : Type 0
StepStamps = (s : State) (e : Event) → (step s e).state.last ≡ max e.reading s.last

-- no restart is stamped later than the last event
abbrev pub IsStamped : State → Type 0
IsStamped s = All (λ t. t ≤ s.last) s.stamps

-- so it stays
abbrev pub StepKeepsStamped : Type 0
StepKeepsStamped = (s : State) (e : Event) → IsStamped s → IsStamped (step s e).state

-- an event's orders come after those given before, and nothing that it does depends on those
abbrev pub OrdersAppended : Type 0
OrdersAppended = (e : Event) (o : Outcome) → step_on e o ≡ record { state = (step o.state e).state; orders = o.orders ++ (step o.state e).orders }
