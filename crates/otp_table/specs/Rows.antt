-- The rows of a supervisor's children: what is asked of one row.
use Rattle.std.specs.Prelude.{ℕ, ◌≡◌, ◌<◌, get_or, ◌+◌, Bool, true, false, not, ◌&&◌, ◌==◌, is_some, Option, Some, None, List, [], ◌∷◌, map, length, if◌then◌else◌}
use Rattle.std.specs.List.{list_any}
use Prim.Native.Nat.{zero, suc}
use Rattle.std.specs.Option.{option_eq}
use Rattle.std.specs.Str.{bytes_eq}
use Rattle.std.specs.Ordering.{on}
use Rattle.otp_reason.specs.declared.name.Name.{Name}
use Rattle.otp_reason.specs.Names.{name_bytes}
use Rattle.otp_spec.specs.declared.child.ChildType.{ChildType}
use Rattle.otp_spec.specs.declared.child.ChildType.TheVariants.{Worker, Supervisor}
use Rattle.otp_table.specs.declared.row.Row.{Row}
use Rattle.otp_table.specs.declared.row.RowState.{RowState}
use Rattle.otp_table.specs.declared.row.RowState.TheVariants.{Undefined, Starting, Up, Asked, Killed, Restarting}

-- the number of the process, or the one kept for a waiting retry (own)
abbrev pub number_of : RowState → Option ℕ
number_of Undefined = None
number_of (Starting p _) = Some p
number_of (Up p) = Some p
number_of (Asked p _) = Some p
number_of (Killed p) = Some p
number_of (Restarting k) = Some k

-- the number of a process that runs; which_children gives it (supervisor, which_children/1)
abbrev pub up_number : RowState → Option ℕ
up_number Undefined = None
up_number (Starting _ _) = None
up_number (Up p) = Some p
up_number (Asked _ _) = None
up_number (Killed _) = None
up_number (Restarting _) = None

-- the process has this number, or it is the one kept for a waiting retry (own)
abbrev pub has_number : ℕ → RowState → Bool
has_number n Undefined = false
has_number n (Starting p _) = p == n
has_number n (Up p) = p == n
has_number n (Asked p _) = p == n
has_number n (Killed p) = p == n
has_number n (Restarting k) = k == n

-- the process has this number (own)
abbrev pub has_process : ℕ → RowState → Bool
has_process n Undefined = false
has_process n (Starting p _) = p == n
has_process n (Up p) = p == n
has_process n (Asked p _) = p == n
has_process n (Killed p) = p == n
has_process n (Restarting _) = false

-- a retry under this number waits (own)
abbrev pub awaits_retry : ℕ → RowState → Bool
awaits_retry n Undefined = false
awaits_retry n (Starting _ _) = false
awaits_retry n (Up _) = false
awaits_retry n (Asked _ _) = false
awaits_retry n (Killed _) = false
awaits_retry n (Restarting k) = k == n

-- an answer of the process is awaited: to its start, its shutdown or its kill (own)
abbrev pub is_awaited : RowState → Bool
is_awaited Undefined = false
is_awaited (Starting _ _) = true
is_awaited (Up _) = false
is_awaited (Asked _ _) = true
is_awaited (Killed _) = true
is_awaited (Restarting _) = false

-- the process was started and hasn't ended (own: OTP asks whether the process is alive)
abbrev pub is_active : RowState → Bool
is_active (Up _) = true
is_active (Asked _ _) = true
is_active (Killed _) = true
is_active _ = false

-- the process was told to shut down until a deadline (own)
abbrev pub is_timed : RowState → Bool
is_timed (Asked _ deadline) = is_some deadline
is_timed _ = false

-- there is no process, and no retry waits (supervisor, which_children/1)
abbrev pub is_undefined : RowState → Bool
is_undefined Undefined = true
is_undefined (Starting _ _) = false
is_undefined (Up _) = false
is_undefined (Asked _ _) = false
is_undefined (Killed _) = false
is_undefined (Restarting _) = false

-- the process runs (own)
abbrev pub is_up : RowState → Bool
is_up Undefined = false
is_up (Starting _ _) = false
is_up (Up _) = true
is_up (Asked _ _) = false
is_up (Killed _) = false
is_up (Restarting _) = false

-- the child is about to be restarted: a retry waits (supervisor, which_children/1)
abbrev pub is_restarting : RowState → Bool
is_restarting Undefined = false
is_restarting (Starting _ _) = false
is_restarting (Up _) = false
is_restarting (Asked _ _) = false
is_restarting (Killed _) = false
is_restarting (Restarting _) = true

-- a waiting retry is given up (own)
abbrev pub calmed : RowState → RowState
calmed Undefined = Undefined
calmed (Starting p k) = Starting p k
calmed (Up p) = Up p
calmed (Asked p t) = Asked p t
calmed (Killed p) = Killed p
calmed (Restarting _) = Undefined

-- the row's state is such a one
abbrev pub row_has : (RowState → Bool) → Row → Bool
row_has test row = test row.state

-- the child is a supervisor, a worker
abbrev pub of_supervisor : ChildType → Bool
of_supervisor Worker = false
of_supervisor Supervisor = true

abbrev pub of_worker : ChildType → Bool
of_worker Worker = true
of_worker Supervisor = false

-- a significant child that is left
abbrev pub is_left : Row → Bool
is_left row = row.spec.significant && not (is_undefined row.state)

abbrev pub is_supervisor : Row → Bool
is_supervisor row = of_supervisor row.spec.kind

abbrev pub is_worker : Row → Bool
is_worker row = of_worker row.spec.kind

-- the row has this id: the same bytes. A dynamic row has none (supervisor, child_id())
abbrev pub has_id : Name → Row → Bool
has_id id row = option_eq (on name_bytes bytes_eq) row.id (Some id)

-- the row in this state
abbrev pub with_state : RowState → Row → Row
with_state state row = record row { state = state }

-- waiting retries of these rows are given up (own)
abbrev pub calm_rows : List Row → List Row
calm_rows rows = map (λ row. with_state (calmed row.state) row) rows

-- the row has this slot
abbrev pub has_slot : ℕ → Row → Bool
has_slot slot row = row.slot == slot

-- the first slot from one on that no row has, where so many more may be tried
unfoldable pub free_from : ℕ → ℕ → List Row → ℕ
free_from zero slot rows = slot
free_from (suc more) slot rows = if list_any (has_slot slot) rows then free_from more (slot + 1) rows else slot

-- the slot of a child that is added: the least that no row has (own). As many rows as there are have as many slots at
-- most, so none after that has to be tried.
unfoldable pub free_slot : List Row → ℕ
free_slot rows = free_from (length rows) 0 rows

-- the slot of the first row whose process has this number
abbrev pub slot_of : ℕ → List Row → Option ℕ
slot_of p [] = None
slot_of p (row ∷ rows) = if has_process p row.state then Some row.slot else slot_of p rows

-- no row before this place is undefined
abbrev pub AreDefined : ℕ → List Row → Type 0
AreDefined n rows = (k : ℕ) (d : Row) → k < n → k < length rows → is_undefined (get_or rows k d).state ≡ false

-- no row before this place is undefined but for one, perhaps
abbrev pub AreDefinedBut : ℕ → ℕ → List Row → Type 0
AreDefinedBut place n rows = (k : ℕ) (d : Row) → k < n → k < length rows → (k ≡ place → ⊥) → is_undefined (get_or rows k d).state ≡ false
