-- Where a child is while it has no process: at home, with its supervisor, which keeps its body (own). What an event
-- brings home.
use Rattle.std.specs.Prelude.{◌≡◌, ◌⊎◌, ℕ, ◌==◌, Bool, true, false, List, [], ◌∷◌, Option, Some, None, All, Contains, ◌<◌, slice_get}
use Rattle.std.specs.List.{list_any}
use Rattle.otp_reason.specs.declared.note.Note.{Note}
use Rattle.otp_reason.specs.declared.note.Note.TheVariants as note
use Rattle.otp_spec.specs.declared.child.ChildSpec.{ChildSpec}
use Rattle.otp_spec.specs.declared.flags.SupFlags.{SupFlags}
use Rattle.otp_table.specs.declared.row.Row.{Row}
use Rattle.otp_table.specs.declared.row.RowState.{RowState}
use Rattle.otp_table.specs.declared.row.RowState.TheVariants.{Undefined, Starting, Up, Asked, Killed, Restarting}
use Rattle.otp_table.specs.Rows.{free_slot, has_process}
use Rattle.otp_rules.specs.declared.call.Call.{Call}
use Rattle.otp_rules.specs.declared.call.Call.TheVariants as call
use Rattle.otp_rules.specs.declared.event.Event.{Event}
use Rattle.otp_rules.specs.declared.event.Item.{Item}
use Rattle.otp_rules.specs.declared.event.Item.TheVariants as item
use Rattle.otp_rules.specs.declared.event.Kind.{Kind}
use Rattle.otp_rules.specs.declared.event.Kind.TheVariants as kind
use Rattle.otp_rules.specs.declared.event.Waiting.{Waiting}
use Rattle.otp_rules.specs.declared.event.Waiting.TheVariants as waiting
use Rattle.otp_rules.specs.State.{State, is_over}
use Rattle.otp_rules.specs.Step.{step}
use Rattle.otp_rules.specs.Run.{empty_state, state_after}
use Rattle.otp_rules.specs.Needs.{IsLawfulHistory, numbers_of}

-- the call asks for a child more, and brings its body (supervisor, start_child/2)
abbrev pub is_start_call : Call → Bool
is_start_call (call.StartChild _) = true
is_start_call call.StartDynamic = true
is_start_call (call.RestartChild _) = false
is_start_call (call.DeleteChild _) = false
is_start_call (call.TerminateChild _) = false
is_start_call (call.TerminateProcess _) = false
is_start_call call.WhichChildren = false
is_start_call call.CountChildren = false
is_start_call (call.GetChildspec _) = false

-- the first that waits is this item
abbrev pub IsFirst : List Waiting → Item → Type 0
IsFirst [] i = ⊥
IsFirst (w ∷ ws) i = w ≡ waiting.Item i

-- the item that an event takes, of the inbox or of what waits
abbrev pub Brings : Kind → List Waiting → Item → Type 0
Brings (kind.Opened _) ws i = ⊥
Brings (kind.Took j) ws i = j ≡ i
Brings kind.Resumed ws i = IsFirst ws i
Brings kind.Ticked ws i = ⊥
Brings kind.Stopped ws i = ⊥

-- the process whose end the note tells: it ended, or was never up
abbrev pub end_number : Note → Option ℕ
end_number (note.Up _) = None
end_number (note.Ignored p) = Some p
end_number (note.Failed p _) = Some p
end_number (note.Exit p _) = Some p

-- it is this number
abbrev pub is_number : ℕ → Option ℕ → Bool
is_number p None = false
is_number p (Some q) = q == p

abbrev pub is_end_item : ℕ → Item → Bool
is_end_item p (item.Note x) = is_number p (end_number x)
is_end_item p (item.Call _ _) = false

-- what waits is the end of this process
abbrev pub is_ended : ℕ → Waiting → Bool
is_ended p (waiting.Item x) = is_end_item p x
is_ended p (waiting.Retry _) = false

-- the child has no process, or the end of its process was taken and waits
abbrev pub is_home : List Waiting → RowState → Bool
is_home ws Undefined = true
is_home ws (Starting p _) = list_any (is_ended p) ws
is_home ws (Up p) = list_any (is_ended p) ws
is_home ws (Asked p _) = list_any (is_ended p) ws
is_home ws (Killed p) = list_any (is_ended p) ws
is_home ws (Restarting _) = true

-- the note tells the end of the row's process
pub record EndsProcess (x : Note) (row : Row) : Type 0 where
  pub p : ℕ
  pub ends : end_number x ≡ Some p
  pub has : has_process p row.state ≡ true

-- the child was at home before the event, or the event takes the note of its process's end
abbrev pub ComesHome : State → Kind → Row → Type 0
ComesHome s k row = (is_home s.waiting row.state ≡ true) ⊎ ((x : Note) × (k ≡ kind.Took (item.Note x)) × EndsProcess x row)

-- the row with this slot was there, and its child was or comes home
pub record WasThere (s : State) (k : Kind) (slot : ℕ) : Type 0 where
  pub row : Row
  pub among : Contains s.rows row
  pub same : row.slot ≡ slot
  pub home : ComesHome s k row

-- the row is new: a start call that the event takes makes it, in the least slot that no row had
pub record IsAdded (s : State) (k : Kind) (slot : ℕ) : Type 0 where
  pub c : ℕ
  pub x : Call
  pub start : is_start_call x ≡ true
  pub brought : Brings k s.waiting (item.Call c x)
  pub free : slot ≡ free_slot s.rows

-- the row is new: the opening makes it, in the slot that is the place of its specification
pub record IsOpened (s : State) (k : Kind) (row : Row) : Type 0 where
  pub own : ℕ
  pub opening : k ≡ kind.Opened own
  pub over : is_over s.phase ≡ true
  pub place : slice_get s.specs row.slot ≡ Some row.spec

-- the row has the process that the event starts
abbrev pub is_started : Option ℕ → RowState → Bool
is_started None state = false
is_started (Some n) state = has_process n state

-- no row has the process that the event starts
abbrev pub IsNewNumber : Option ℕ → List Row → Type 0
IsNewNumber number rows = (row : Row) → Contains rows row → is_started number row.state ≡ false

-- each child that is at home after an event, or that the event starts, was at home before it, or is brought home
-- by the note of its process's end that the event takes, or is new
abbrev pub KeepsHomes : State → Event → Type 0
KeepsHomes s e =
    (row : Row) → Contains (step s e).state.rows row
    → (is_home (step s e).state.waiting row.state ≡ true) ⊎ (is_started e.number row.state ≡ true)
    → WasThere s e.kind row.slot ⊎ (IsAdded s e.kind row.slot ⊎ IsOpened s e.kind row)

-- each event whose number is no row's does so, from any state
abbrev pub HomesKeptFrom : Type 0
HomesKeptFrom = (s : State) (e : Event) → IsNewNumber e.number s.rows → KeepsHomes s e

-- after a lawful history each event does so with a number above all earlier ones, or with none
abbrev pub HomesKept : Type 0
HomesKept =
    (flags : SupFlags) (specs : List ChildSpec) (events : List Event) (e : Event) → IsLawfulHistory (empty_state flags specs) events
    → ((n : ℕ) → e.number ≡ Some n → All (λ m. m < n) (numbers_of events))
    → KeepsHomes (state_after (empty_state flags specs) events) e
