-- What the machine's parts stand for, and the memory that it has ready.
use Rattle.std.specs.Prelude.{◌≡◌, ◌+◌, ◌<◌, ◌≤◌, All, length, reverse, true, vec_len, vec_capacity}
use Rattle.std.specs.VecDeque.{deque_capacity}
use Rattle.otp_spec.specs.declared.limits.TheConstants.{MAX_CHILDREN, MAX_INTENSITY, MAX_READING}
use Rattle.otp_rules.specs.State.{Outcome}
use Rattle.otp_machine.specs.declared.machine.Machine.{Machine}

abbrev pub outcome_of : Machine → Outcome
outcome_of m =
    record {
      state = record {
        flags = record { strategy = m.strategy; intensity = m.window.intensity; period = m.window.period; auto_shutdown = m.auto_shutdown };
        specs = m.specs.items;
        rows = m.rows.rows;
        stamps = m.window.stamps;
        to_stop = reverse m.to_stop.items;
        to_start = m.to_start.items;
        follows = m.follows;
        waiting = m.waiting.items;
        replies = m.replies.answers;
        ends = m.ends.items;
        last = m.last;
        phase = m.phase;
      };
      orders = m.orders.items;
    }

-- there is room for what the open work does in one event
pub record CanAdvance (m : Machine) : Type 0 where
  -- a call is answered, or all that wait are and the end is ordered
  pub orders : vec_len m.orders + length m.waiting.items < vec_capacity m.orders
  pub replies : length m.waiting.items < m.replies.room
  pub stamps : m.window.intensity < vec_capacity m.spare_stamps
  pub kept_stamps : m.window.intensity < vec_capacity m.spare_kept_stamps
  pub ends : vec_len m.ends < vec_capacity m.ends
  pub last : m.last ≤ MAX_READING

-- there is room for this many orders to children, and for the open work after them
pub record CanStop (m : Machine) : Type 0 where
  pub orders : vec_len m.orders + length m.rows.rows + length m.waiting.items < vec_capacity m.orders
  pub replies : length m.waiting.items < m.replies.room
  pub to_stop : length m.rows.rows ≤ vec_capacity m.to_stop
  pub stamps : m.window.intensity < vec_capacity m.spare_stamps
  pub kept_stamps : m.window.intensity < vec_capacity m.spare_kept_stamps
  pub ends : vec_len m.ends < vec_capacity m.ends
  pub last : m.last ≤ MAX_READING

-- there is room for whatever an event does
pub record CanDecide (m : Machine) : Type 0 where
  pub orders : vec_len m.orders + length m.rows.rows + length m.waiting.items + 1 < vec_capacity m.orders
  pub replies : length m.waiting.items + 1 < m.replies.room
  pub waiting : 0 < m.waiting.room
  pub to_stop : length m.rows.rows ≤ vec_capacity m.to_stop
  pub one_stop : 0 < vec_capacity m.to_stop
  pub to_start : length m.rows.rows ≤ deque_capacity m.to_start
  pub specs : vec_len m.specs ≤ deque_capacity m.to_start
  pub limit : length m.specs.items ≤ MAX_CHILDREN
  pub one_start : 0 < deque_capacity m.to_start
  pub room : vec_len m.specs ≤ m.rows.room
  pub one_row : 0 < m.rows.room
  pub lines : length m.rows.rows ≤ vec_capacity m.spare_lines
  pub reserved : m.window.reserved ≡ true
  pub ordered : All (λ s. s ≤ m.last) m.window.stamps
  pub stamps : m.window.intensity < vec_capacity m.spare_stamps
  pub kept_stamps : m.window.intensity < vec_capacity m.spare_kept_stamps
  pub ends : vec_len m.ends < vec_capacity m.ends
  pub last : m.last ≤ MAX_READING

-- there is memory for an event, whatever it is
pub record HasMemory (m : Machine) : Type 0 where
  pub orders : vec_len m.orders + length m.rows.rows + length m.waiting.items + 1 < vec_capacity m.orders
  pub replies : length m.waiting.items + 1 < m.replies.room
  pub waiting : 0 < m.waiting.room
  pub to_stop : length m.rows.rows ≤ vec_capacity m.to_stop
  pub one_stop : 0 < vec_capacity m.to_stop
  pub to_start : length m.rows.rows ≤ deque_capacity m.to_start
  pub specs : vec_len m.specs ≤ deque_capacity m.to_start
  pub one_start : 0 < deque_capacity m.to_start
  pub room : vec_len m.specs ≤ m.rows.room
  pub one_row : 0 < m.rows.room
  pub lines : length m.rows.rows ≤ vec_capacity m.spare_lines
  pub reserved : m.window.reserved ≡ true
  pub stamps : m.window.intensity < vec_capacity m.spare_stamps
  pub kept_stamps : m.window.intensity < vec_capacity m.spare_kept_stamps
  pub ends : vec_len m.ends < vec_capacity m.ends

-- there is memory for children that are stopped and started
pub record HasWorkMemory (m : Machine) : Type 0 where
  pub to_stop : length m.rows.rows ≤ vec_capacity m.to_stop
  pub one_stop : 0 < vec_capacity m.to_stop
  pub to_start : length m.rows.rows ≤ deque_capacity m.to_start
  pub specs : vec_len m.specs ≤ deque_capacity m.to_start
  pub one_start : 0 < deque_capacity m.to_start
  pub room : vec_len m.specs ≤ m.rows.room
  pub one_row : 0 < m.rows.room

-- there is memory for orders, and for answers to calls
pub record HasCallMemory (m : Machine) : Type 0 where
  pub orders : vec_len m.orders + length m.rows.rows + length m.waiting.items + 1 < vec_capacity m.orders
  pub replies : length m.waiting.items + 1 < m.replies.room
  pub waiting : 0 < m.waiting.room
  pub lines : length m.rows.rows ≤ vec_capacity m.spare_lines

-- there is memory for the end of the supervisor
pub record HasEndMemory (m : Machine) : Type 0 where
  pub stamps : m.window.intensity < vec_capacity m.spare_stamps
  pub kept_stamps : m.window.intensity < vec_capacity m.spare_kept_stamps
  pub ends : vec_len m.ends < vec_capacity m.ends

-- what holds of every machine
pub record IsSound (m : Machine) : Type 0 where
  pub limit : length m.specs.items ≤ MAX_CHILDREN
  pub ordered : All (λ s. s ≤ m.last) m.window.stamps
  pub last : m.last ≤ MAX_READING
  pub intensity : m.window.intensity ≤ MAX_INTENSITY
