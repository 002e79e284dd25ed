-- What an event does with the bodies of a supervisor's children: which comes home, which a new child gets, which are let go
-- (own). A body comes home with the note of its process's end.
use Rattle.std.specs.Prelude.{◌≡◌, ℕ, Bool, false, true, not, ◌&&◌, List, [], ◌∷◌, ◌++◌, Option, Some, None, is_some, slice_get, if◌then◌else◌}
use Rattle.std.specs.List.{list_any}
use Rattle.otp_reason.specs.declared.note.Note.{Note}
use Rattle.otp_reason.specs.declared.note.Note.TheVariants as note
use Rattle.otp_table.specs.declared.row.Row.{Row}
use Rattle.otp_table.specs.Rows.{free_slot, has_slot}
use Rattle.otp_rules.specs.declared.event.Item.{Item}
use Rattle.otp_rules.specs.declared.event.Item.TheVariants as item
use Rattle.otp_rules.specs.declared.event.Kind.{Kind}
use Rattle.otp_rules.specs.declared.event.Kind.TheVariants as kind
use Rattle.otp_rules.specs.declared.event.Waiting.{Waiting}
use Rattle.otp_rules.specs.declared.event.Waiting.TheVariants as waiting
use Rattle.otp_rules.specs.Alive.{is_told_by}
use Rattle.otp_rules.specs.Homes.{is_start_call}
use Rattle.otp_rules.specs.State.{State, is_over}
use Rattle.otp_laws.specs.Stays.{keeps_row}
use Rattle.otp_bodies.specs.declared.bodies.Kept.{Kept}
use Rattle.otp_bodies.specs.declared.bodies.Origin.TheVariants as origin
use Rattle.otp_bodies.specs.Letters.{carries_body, is_end_note}
use Rattle.otp_bodies.specs.Loose.{is_with_call}
use Rattle.otp_sup.specs.declared.plans.BodiesPlan.{BodiesPlan}
use Rattle.otp_bodies.specs.Bodies.{came_for, opened, place_of_call, settled, taken_up}
use Rattle.otp_bodies.specs.Events.{is_any_waiting}

-- the note tells the end of the row's process, and changes the row or waits
abbrev pub is_heeded : Note → Row → Bool
is_heeded x row = is_told_by x row.state

abbrev pub slot_heeding : Note → List Row → Option ℕ
slot_heeding x [] = None
slot_heeding x (row ∷ rows) = if is_heeded x row then Some row.slot else slot_heeding x rows

-- the slot of the child whose body an end note brings home; after the supervisor's end a note changes nothing
abbrev pub home_of : State → Note → Option ℕ
home_of s x = if is_over s.phase then None else slot_heeding x s.rows

-- the slot, where a row has it
abbrev pub given_in : ℕ → List Row → Option ℕ
given_in slot rows = if list_any (has_slot slot) rows then Some slot else None

-- the slot, where there is one and a row has it
abbrev pub given_among : Option ℕ → List Row → Option ℕ
given_among None rows = None
given_among (Some slot) rows = given_in slot rows

-- the least slot that no row had, where a row has it now
abbrev pub slot_given : List Row → List Row → Option ℕ
slot_given before rows = given_in (free_slot before) rows

-- a call waits while work is open
abbrev pub is_waited_for : State → Bool
is_waited_for s = is_some s.follows && not (is_over s.phase)

-- the body that an item brings: an end note's comes home, a start call's waits or goes to its child
abbrev pub received : State → List Row → Item → List Kept → List Kept
received s rows (item.Note x) kept = if is_end_note x then came_for (home_of s x) kept else kept
received s rows (item.Call c call) kept = if is_start_call call then kept ++ record { origin = origin.Call c; place = place_of_call (is_waited_for s) (slot_given s.rows rows) } ∷ [] else kept

abbrev pub is_start_item : Item → Bool
is_start_item (item.Note _) = false
is_start_item (item.Call _ call) = is_start_call call

abbrev pub is_start_waiting : Option Waiting → Bool
is_start_waiting None = false
is_start_waiting (Some (waiting.Item x)) = is_start_item x
is_start_waiting (Some (waiting.Retry _)) = false

-- a start call is the first that waits, and no work is open: it is taken up when the supervisor resumes
abbrev pub is_taken_up : State → Bool
is_taken_up s = (not (is_some s.follows) && not (is_over s.phase)) && is_start_waiting (slice_get s.waiting 0)

abbrev pub home_by : State → Kind → Option ℕ
home_by s (kind.Opened _) = None
home_by s (kind.Took (item.Note x)) = home_of s x
home_by s (kind.Took (item.Call _ _)) = None
home_by s kind.Resumed = None
home_by s kind.Ticked = None
home_by s kind.Stopped = None

-- the event may make a child for a call that brought a body
abbrev pub may_seat : State → Kind → Bool
may_seat s (kind.Opened _) = false
may_seat s (kind.Took x) = is_start_item x
may_seat s kind.Resumed = is_taken_up s
may_seat s kind.Ticked = false
may_seat s kind.Stopped = false

-- the slot that such a child gets
abbrev pub free_for : State → Kind → Option ℕ
free_for s k = if may_seat s k then Some (free_slot s.rows) else None

-- no child goes with the note, where nothing waits: a process is up, or one has ended whose child was told to stop, and the row stays.
-- Only while work is open is a child told to stop
abbrev pub is_kept_at : State → Note → Bool
is_kept_at s (note.Up _) = true
is_kept_at s (note.Ignored _) = false
is_kept_at s (note.Failed _ _) = false
is_kept_at s (note.Exit p _) = is_some s.follows && keeps_row p s.rows

-- no child goes at the event, unless the supervisor ends: it takes such a note, and nothing waits
abbrev pub keeps_children : State → Kind → Bool
keeps_children s (kind.Took (item.Note x)) = is_kept_at s x && not (is_any_waiting s)
keeps_children s _ = false

-- where nothing waits, no body waits with its call
abbrev pub NoneWaits : State → List Kept → Type 0
NoneWaits s kept = is_any_waiting s ≡ false → list_any is_with_call kept ≡ false

-- what an event of this kind is about to do with bodies, as far as it can be known before it
pub record IsPlan (s : State) (k : Kind) (plan : BodiesPlan) : Type 0 where
  pub home : plan.home ≡ home_by s k
  pub free : plan.free ≡ free_for s k
  pub waits : plan.waits ≡ is_waited_for s
  pub taken_up : plan.is_taken_up ≡ is_taken_up s
  pub stays : plan.keeps_children ≡ keeps_children s k

-- the bodies after an event from one state to another, before those of children that are gone are let go
abbrev pub moved : State → List Row → Kind → List Kept → List Kept
moved s rows (kind.Opened _) kept = kept
moved s rows (kind.Took x) kept = received s rows x kept
moved s rows kind.Resumed kept = taken_up (is_taken_up s) (slot_given s.rows rows) kept
moved s rows kind.Ticked kept = kept
moved s rows kind.Stopped kept = kept

-- at an opening all children are new
abbrev pub let_go : State → Kind → List Kept → List Kept
let_go later (kind.Opened _) kept = opened later.rows (settled [] (is_any_waiting later) kept)
let_go later (kind.Took _) kept = settled later.rows (is_any_waiting later) kept
let_go later kind.Resumed kept = settled later.rows (is_any_waiting later) kept
let_go later kind.Ticked kept = settled later.rows (is_any_waiting later) kept
let_go later kind.Stopped kept = settled later.rows (is_any_waiting later) kept

-- the bodies after an event from one state to another
abbrev pub bodies_after : State → State → Kind → List Kept → List Kept
bodies_after s later k kept = let_go later k (moved s later.rows k kept)

-- the event brings a body
abbrev pub brings_body : Kind → Bool
brings_body (kind.Opened _) = false
brings_body (kind.Took x) = carries_body x
brings_body kind.Resumed = false
brings_body kind.Ticked = false
brings_body kind.Stopped = false
