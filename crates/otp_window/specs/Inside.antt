use Rattle.std.specs.Prelude.{◌≡◌, ◌<◌, ◌≤◌, ◌^◌, ◌-◌, length, min}
use Rattle.std.specs.VecDeque.{deque_len, deque_capacity}
use Rattle.std.specs.Bool.{OnTrue}
use Rattle.std.specs.List.Sorted.{IsNonDecreasing}
use Rattle.otp_window.specs.Kept.{kept_of}
use Rattle.otp_window.specs.declared.limits.TheConstants.{MAX_PERIOD}
use Rattle.otp_window.specs.View.{WindowView}
use Rattle.otp_window.specs.declared.Window.TheInside.{Inside}

abbrev pub view_of : Inside → WindowView
view_of w = record { intensity = w.intensity; period = w.period; stamps = w.past.stamps; reserved = w.reserved }

-- stamps never fall and the last of them are kept, a period of milliseconds fits, and what is reserved is there (own)
pub record IsWindow (w : Inside) : Type 0 where
  pub ordered : IsNonDecreasing w.past.stamps
  pub kept : w.kept.items ≡ kept_of w.intensity w.past.stamps
  pub count : w.count ≡ min (length w.past.stamps) (2 ^ 64 - 1)
  pub period : w.period ≤ MAX_PERIOD
  pub room : OnTrue w.reserved (deque_len w.kept < deque_capacity w.kept)
