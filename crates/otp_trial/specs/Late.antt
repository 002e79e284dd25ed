-- Processes that do late what they were asked to: end, or start (own).
use Rattle.std.specs.Prelude.{ℕ, ◌+◌, ◌-◌, ◌^◌, ◌==◌, Bool, not, List, [], ◌∷◌, Option, Some, None, if◌then◌else◌, min, nat_le, position}
use Rattle.std.specs.List.{remove}
use Rattle.otp_trial.specs.declared.processes.late.Due.TheVariants as due
use Rattle.otp_trial.specs.declared.processes.late.Late.{Late}
use Rattle.otp_trial.specs.declared.processes.world.Deed.{Deed}

unfoldable pub is_late_of : ℕ → Late → Bool
is_late_of process late = late.process == process

unfoldable pub without_late : List Late → Option ℕ → List Late
without_late late None = late
without_late late (Some at) = remove late at

-- the process of this number is gone, and does nothing later
unfoldable pub forgotten : ℕ → List Late → List Late
forgotten process late = without_late late (position (is_late_of process) late)

-- it ends so many milliseconds after now, or not
unfoldable pub delayed : ℕ → ℕ → ℕ → Option ℕ → List Late
delayed now place process None = []
delayed now place process (Some delay) =
    record { time = min (now + delay) (2 ^ 64 - 1); place = place; process = process; due = due.End } ∷ []

-- a start that takes so many milliseconds: what comes of it comes then
abbrev pub started_at : ℕ → ℕ → ℕ → ℕ → Deed → Late
started_at now place process time deed =
    record { time = min (now + time) (2 ^ 64 - 1); place = place; process = process; due = due.Start deed }

-- one that takes no time has nothing that comes late
unfoldable pub started_late : ℕ → ℕ → ℕ → ℕ → Deed → List Late
started_late now place process time deed = if time == 0 then [] else started_at now place process time deed ∷ []

abbrev pub is_elsewhere : ℕ → Late → Bool
is_elsewhere place late = not (late.place == place)

-- it comes up to this time
abbrev pub is_due : ℕ → Late → Bool
is_due now late = nat_le late.time now
