-- What comes next at a supervisor of a trial, where nobody tells it anything (own).
use Rattle.std.specs.Prelude.{ℕ, Bool, false, ◌&&◌, List, Option, Some, None, if◌then◌else◌, slice_get}
use Rattle.std.specs.List.{list_any}
use Rattle.otp_driver.specs.declared.driven.link.Link.{Link}
use Rattle.otp_rules.specs.declared.event.Kind.{Kind}
use Rattle.otp_rules.specs.Next.{next_kind}
use Rattle.otp_rules.specs.State.{State}
use Rattle.otp_table.specs.Rows.{has_process, row_has}
use Rattle.otp_trial.specs.Played.{Seated, state_in}
use Rattle.otp_trial.specs.Links.{has_process_at, is_stopping_at}

-- what the supervisor at this place does by itself at this time, if it has a process: where its parent wants that it shuts down
-- as well
unfoldable pub kind_at : ℕ → List Link → State → ℕ → Option Kind
kind_at place links s now = if has_process_at place links then next_kind s now (is_stopping_at place links) else None

-- a child of it has a process of this number
unfoldable pub has_child : ℕ → Option Seated → Bool
has_child process None = false
has_child process (Some seat) = list_any (row_has (has_process process)) (state_in seat).rows

-- the supervisor at this place runs, and a child of it has a process of this number
unfoldable pub runs_child : List Link → List Seated → ℕ → ℕ → Bool
runs_child links seats process place = has_process_at place links && has_child process (slice_get seats place)
