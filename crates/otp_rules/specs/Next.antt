-- What a supervisor does next by itself, and when (own: OTP has messages and timers for it).
use Rattle.std.specs.Prelude.{◌≡◌, ℕ, Bool, false, not, ◌&&◌, List, [], ◌∷◌, Option, Some, None, is_some, length, max, min, nat_le, nat_lt, if◌then◌else◌}
use Rattle.std.specs.List.{list_any}
use Rattle.otp_table.specs.declared.row.Row.{Row}
use Rattle.otp_table.specs.declared.row.RowState.{RowState}
use Rattle.otp_table.specs.declared.row.RowState.TheVariants.{Asked}
use Rattle.otp_rules.specs.declared.event.Kind.{Kind}
use Rattle.otp_rules.specs.declared.event.Kind.TheVariants as kind
use Rattle.otp_rules.specs.State.{State, is_over}
use Rattle.otp_rules.specs.Step.{is_late}

-- where no work is open: the stop that is wanted, or else the first item that waits
unfoldable pub idle_kind : State → Bool → Option Kind
idle_kind s is_stop_wanted =
    if is_some s.follows then None
    else if is_stop_wanted && not (is_over s.phase) then Some kind.Stopped
    else if nat_lt 0 (length s.waiting) then Some kind.Resumed
    else None

-- the event that comes next without an item of the inbox: first the deadline that has come
unfoldable pub next_kind : State → ℕ → Bool → Option Kind
next_kind s reading is_stop_wanted =
    if list_any (λ row. is_late (max reading s.last) row.state) s.rows then Some kind.Ticked
    else idle_kind s is_stop_wanted

-- the deadline has come
abbrev pub has_come : ℕ → Option ℕ → Bool
has_come now None = false
has_come now (Some deadline) = nat_le deadline now

-- the deadline of a child that was told to shut down, if it has one
abbrev pub deadline_of : RowState → Option ℕ
deadline_of (Asked _ deadline) = deadline
deadline_of _ = None

abbrev pub earlier : Option ℕ → Option ℕ → Option ℕ
earlier None other = other
earlier (Some a) None = Some a
earlier (Some a) (Some b) = Some (min a b)

abbrev pub deadline_from : Option ℕ → List Row → Option ℕ
deadline_from least [] = least
deadline_from least (row ∷ rows) = deadline_from (earlier least (deadline_of row.state)) rows

-- the least deadline of these children
abbrev pub next_deadline : List Row → Option ℕ
next_deadline rows = deadline_from None rows

-- the deadline of some child has come exactly when the least one has
abbrev pub DeadlinesCome : Type 0
DeadlinesCome = (now : ℕ) (rows : List Row) → list_any (λ row. is_late now row.state) rows ≡ has_come now (next_deadline rows)
