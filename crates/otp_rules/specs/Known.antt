-- Openings that a supervisor knows of: it runs under their number, or keeps an end under it (own).
use Rattle.std.specs.Prelude.{◌≡◌, ◌⊎◌, ℕ, ◌++◌, ◌∷◌, List, true, map}
use Rattle.otp_rules.specs.declared.ending.SupEnd.{SupEnd}
use Rattle.otp_rules.specs.declared.event.Event.{Event}
use Rattle.otp_rules.specs.declared.event.Kind.TheVariants as kind
use Rattle.otp_rules.specs.declared.work.Phase.TheVariants.{Open}
use Rattle.otp_rules.specs.State.{State, is_over}
use Rattle.otp_rules.specs.Run.{state_after}
use Rattle.otp_rules.specs.Progress.{IsIn}

-- the event opens the supervisor under this number
abbrev pub Opens : ℕ → State → Event → Type 0
Opens own s e = (e.kind ≡ kind.Opened own) × (is_over s.phase ≡ true)

-- the supervisor runs under this number, or has ended under it
abbrev pub IsKnown : ℕ → State → Type 0
IsKnown own s = (s.phase ≡ Open own) ⊎ IsIn own (map (λ (x : ℕ × SupEnd). x.0) s.ends)

-- whatever happens from any state on, each opening is known from then on
abbrev pub OpeningsKnown : Type 0
OpeningsKnown =
    (s : State) (earlier : List Event) (e : Event) (later : List Event) (own : ℕ) → Opens own (state_after s earlier) e
    → IsKnown own (state_after s (earlier ++ e ∷ later))
