-- What the machine stands for where an event begins to be decided (own).
use Rattle.std.specs.Prelude.{ℕ, Bool, true, false, List, [], ◌∷◌}
use Rattle.otp_rules.specs.declared.event.Waiting.{Waiting}
use Rattle.otp_rules.specs.State.{Outcome}
use Rattle.otp_machine.specs.declared.machine.Machine.{Machine}
use Rattle.otp_machine.specs.Seen.{outcome_of}

-- what still waits: the first item is taken where the event resumes
abbrev pub left : Bool → List Waiting → List Waiting
left false items = items
left true [] = []
left true (x ∷ xs) = xs

-- the outcome at the stamp, with no orders yet
abbrev pub begun : Machine → ℕ → Bool → Outcome
begun m now resumed =
    record {
      state = record (outcome_of m).state { last = now; waiting = left resumed (outcome_of m).state.waiting };
      orders = [];
    }
