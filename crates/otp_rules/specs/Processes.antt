-- The processes of the rows: each is one child's, and none has a number that is still to come (IsDistinct).
use Rattle.std.specs.Prelude.{ℕ, ◌<◌, ◌≤◌, List, All}
use Rattle.otp_spec.specs.declared.child.ChildSpec.{ChildSpec}
use Rattle.otp_spec.specs.declared.flags.SupFlags.{SupFlags}
use Rattle.otp_rules.specs.declared.event.Event.{Event}
use Rattle.otp_rules.specs.State.{State}
use Rattle.otp_rules.specs.Run.{empty_state, state_after}
use Rattle.otp_rules.specs.Fit.{IsDistinct}
use Rattle.otp_rules.specs.Needs.{IsLawfulHistory, numbers_of}

-- this stays along a lawful history whose numbers are none of those given before, and below the next one
abbrev pub ProcessesStayOwned : Type 0
ProcessesStayOwned =
    (s : State) (events : List Event) (first next : ℕ) → IsLawfulHistory s events → All (λ n. first ≤ n) (numbers_of events) → All (λ n. n < next) (numbers_of events)
    → first ≤ next → IsDistinct first s → IsDistinct next (state_after s events)

-- it holds from the first event on
abbrev pub ProcessesOwned : Type 0
ProcessesOwned =
    (flags : SupFlags) (specs : List ChildSpec) (events : List Event) (next : ℕ) → IsLawfulHistory (empty_state flags specs) events → All (λ n. n < next) (numbers_of events)
    → IsDistinct next (state_after (empty_state flags specs) events)
