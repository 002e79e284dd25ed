-- The open work seen from outside: what opened it, the supervisor as it was then, the children that the work is about, and
-- what has happened since. Nothing here reads the lists by which the rules stop and start, nor how they find a row.
use Rattle.std.specs.Prelude.{◌≡◌, ◌⊎◌, ℕ, ◌+◌, ◌<◌, ◌==◌, ◌&&◌, ◌||◌, Bool, true, false, List, [], ◌∷◌, ◌++◌, Option, Some, None, map, filter, drop, slice_get, slice_range, slice_set, count_by, is_some, if◌then◌else◌}
use Rattle.std.specs.List.{filter_map}
use Rattle.otp_reason.specs.declared.name.Name.{Name}
use Rattle.otp_reason.specs.Names.{name_bytes}
use Rattle.otp_reason.specs.declared.note.Note.{Note}
use Rattle.otp_reason.specs.declared.note.Note.TheVariants as note
use Rattle.otp_reason.specs.declared.reason.Reason.{Reason}
use Rattle.otp_reason.specs.Quiet.{is_quiet}
use Rattle.otp_spec.specs.declared.child.ChildSpec.{ChildSpec}
use Rattle.otp_spec.specs.declared.child.Restart.{Restart}
use Rattle.otp_spec.specs.declared.child.Restart.TheVariants.{Permanent, Transient, Temporary}
use Rattle.otp_spec.specs.declared.flags.Strategy.{Strategy}
use Rattle.otp_spec.specs.declared.flags.Strategy.TheVariants.{OneForOne, OneForAll, RestForOne, SimpleOneForOne}
use Rattle.otp_table.specs.declared.row.Row.{Row}
use Rattle.otp_table.specs.declared.row.RowState.{RowState}
use Rattle.otp_table.specs.declared.row.RowState.TheVariants.{Undefined, Starting, Up, Asked, Killed, Restarting}
use Rattle.otp_table.specs.Rows.{calm_rows, with_state}
use Rattle.otp_rules.specs.declared.call.Call.{Call}
use Rattle.otp_rules.specs.declared.call.Call.TheVariants as call
use Rattle.otp_rules.specs.declared.event.Effect.{Effect}
use Rattle.otp_rules.specs.declared.event.Effect.TheVariants as effect
use Rattle.otp_rules.specs.declared.event.Event.{Event}
use Rattle.otp_rules.specs.declared.event.Item.{Item}
use Rattle.otp_rules.specs.declared.event.Item.TheVariants as item
use Rattle.otp_rules.specs.declared.event.Kind.{Kind}
use Rattle.otp_rules.specs.declared.event.Kind.TheVariants as kind
use Rattle.otp_rules.specs.declared.event.Waiting.{Waiting}
use Rattle.otp_rules.specs.declared.event.Waiting.TheVariants as waiting
use Rattle.otp_rules.specs.declared.work.Sequel.{Sequel}
use Rattle.otp_rules.specs.declared.work.Sequel.TheVariants as sequel
use Rattle.otp_spec.specs.Flags.{is_simple}
use Rattle.otp_rules.specs.State.{State}
use Rattle.otp_rules.specs.Step.{decide, stamped, step}

-- a start that was ordered: the child's id, the number that it was given, and whether an answer came since
pub record Ordered : Type 0 where
  pub id : Option Name
  pub number : ℕ
  pub answered : Bool

-- the work that was opened last
pub record Progress : Type 0 where
  -- the supervisor when the event came that opened it, and what this event took
  pub before : State
  pub took : Option Waiting
  -- the supervisor when it was opened: its children in start order, and what was to follow
  pub opened : State
  -- the processes whose Exit waited then, or was taken since
  pub ended : List ℕ
  -- the starts ordered since, in their order
  pub ordered : List Ordered

-- no work was opened yet, and this is the supervisor
abbrev pub no_progress : State → Progress
no_progress s = record { before = s; took = None; opened = s; ended = []; ordered = [] }

-- the work ends the supervisor
abbrev pub is_end : Option Sequel → Bool
is_end (Some (sequel.End _)) = true
is_end _ = false

-- work opens where none was open, and where a supervisor's opening fails and it ends
abbrev pub is_opened : Option Sequel → Option Sequel → Bool
is_opened None f = is_some f
is_opened (Some sequel.Ready) f = is_end f
is_opened _ f = false

-- all dynamic children are told to stop together (supervisor, Supervision Principles)
abbrev pub ends_together : State → Bool
ends_together s = is_end s.follows && is_simple s.flags.strategy

abbrev pub exit_number : Note → Option ℕ
exit_number (note.Exit p _) = Some p
exit_number _ = None

abbrev pub exit_of_item : Item → Option ℕ
exit_of_item (item.Note x) = exit_number x
exit_of_item (item.Call _ _) = None

-- the process whose Exit waits
abbrev pub exit_of_waiting : Waiting → Option ℕ
exit_of_waiting (waiting.Item x) = exit_of_item x
exit_of_waiting (waiting.Retry _) = None

-- the note answers the start of this process: it runs, or the child stays without a process
abbrev pub is_answer_note : ℕ → Note → Bool
is_answer_note n (note.Up p) = p == n
is_answer_note n (note.Ignored p) = p == n
is_answer_note n _ = false

abbrev pub is_answer_item : ℕ → Item → Bool
is_answer_item n (item.Note x) = is_answer_note n x
is_answer_item n (item.Call _ _) = false

-- the event brings the answer to the start of this process
abbrev pub is_answer : ℕ → Kind → Bool
is_answer n (kind.Took x) = is_answer_item n x
is_answer n _ = false

abbrev pub at_most_one : Option ℕ → List ℕ
at_most_one None = []
at_most_one (Some p) = p ∷ []

-- the process whose Exit the event brings
abbrev pub ended_by : Kind → List ℕ
ended_by (kind.Took x) = at_most_one (exit_of_item x)
ended_by _ = []

-- an answer counts for a start that was ordered before it
abbrev pub heard : Kind → Ordered → Ordered
heard k x = record x { answered = x.answered || is_answer x.number k }

abbrev pub started : Effect → Option Ordered
started (effect.Start id n) = Some (record { id = id; number = n; answered = false })
started _ = None

-- what the event decides, before the work goes on
abbrev pub decided : State → Event → State
decided s e = (decide e.kind (record { state = stamped e.reading s; orders = [] })).state

-- what an event takes: an item of the inbox, or the first that waits
abbrev pub taken : Kind → List Waiting → Option Waiting
taken (kind.Took x) ws = Some (waiting.Item x)
taken kind.Resumed ws = slice_get ws 0
taken _ ws = None

-- the work of the state t has just been opened, by an event that took this in the state s
abbrev pub opened_now : State → Option Waiting → State → Progress
opened_now s took t = record { before = s; took = took; opened = t; ended = filter_map exit_of_waiting t.waiting; ordered = [] }

-- the work goes on, and the event is taken
abbrev pub went_on : Kind → Progress → Progress
went_on k g = record g { ended = g.ended ++ ended_by k; ordered = map (heard k) g.ordered }

-- the progress when the event's orders are given
abbrev pub seen : State → Event → Progress → Progress
seen s e g = if is_opened s.follows (decided s e).follows then opened_now s (taken e.kind s.waiting) (decided s e) else went_on e.kind g

-- the orders have been given
abbrev pub gave : List Effect → Progress → Progress
gave orders g = record g { ordered = g.ordered ++ filter_map started orders }

-- the progress after these events
abbrev pub progress : State → Progress → List Event → Progress
progress s g [] = g
progress s g (e ∷ es) = progress (step s e).state (gave (step s e).orders (seen s e g)) es

-- the bytes of an id, by which children are told apart; a dynamic child has none
abbrev pub id_bytes : Option Name → Option (List ℕ)
id_bytes None = None
id_bytes (Some name) = Some (name_bytes name)

-- the number stands in the list
abbrev pub IsIn : ℕ → List ℕ → Type 0
IsIn p ps = 0 < count_by (λ q. q == p) ps

-- the process of a child
abbrev pub process_number : RowState → Option ℕ
process_number Undefined = None
process_number (Starting p _) = Some p
process_number (Up p) = Some p
process_number (Asked p _) = Some p
process_number (Killed p) = Some p
process_number (Restarting _) = None

-- the processes of these children, in start order
abbrev pub processes : List Row → List ℕ
processes rows = filter_map (λ row. process_number row.state) rows

-- the children that the restart of the one at a place affects: itself, all, or itself and those after it
-- (Restart Strategy)
abbrev pub affected : Strategy → ℕ → List Row → List Row
affected OneForOne place rows = slice_range rows place (place + 1)
affected OneForAll place rows = rows
affected RestForOne place rows = drop place rows
affected SimpleOneForOne place rows = slice_range rows place (place + 1)

-- what was taken is this call, under this number
abbrev pub IsCall : Option Waiting → ℕ → Call → Type 0
IsCall took c x = took ≡ Some (waiting.Item (item.Call c x))

-- it is the note that this process ended, for this reason
abbrev pub IsExit : Option Waiting → ℕ → Reason → Type 0
IsExit took p r = took ≡ Some (waiting.Item (item.Note (note.Exit p r)))

-- this row stands at this place, and is the first of which it holds
pub record IsFirstRow (Holds : Row → Type 0) (rows : List Row) (place : ℕ) (row : Row) : Type 0 where
  pub at : slice_get rows place ≡ Some row
  pub holds : Holds row
  pub first : (i : ℕ) (other : Row) → i < place → slice_get rows i ≡ Some other → Holds other → ⊥

-- the row's child has this id: the same bytes
abbrev pub HasId : Name → Row → Type 0
HasId id row = id_bytes row.id ≡ Some (name_bytes id)

-- the row's child has this process
abbrev pub HasProcess : ℕ → Row → Type 0
HasProcess p row = process_number row.state ≡ Some p

-- the row's child waits for its next restart, under this number
abbrev pub WaitsRetry : ℕ → Row → Type 0
WaitsRetry n row = row.state ≡ Restarting n

-- a child of this type is restarted when it ends by itself for this reason (Child Specification, restart)
abbrev pub ComesBackAfter : Reason → Restart → Type 0
ComesBackAfter r Permanent = Unit {0}
ComesBackAfter r Transient = is_quiet r ≡ false
ComesBackAfter r Temporary = ⊥

-- the process of the child at this place ran, and what was taken is the note that it ended, after which it is restarted
abbrev pub HasDied : Option Waiting → List Row → ℕ → Row → Type 0
HasDied took rows place row = (p : ℕ) × (r : Reason) × IsExit took p r × IsFirstRow (HasProcess p) rows place row × (row.state ≡ Up p) × ComesBackAfter r row.spec.restart

-- the child at this place waited for its next restart, and what was taken is the next try
abbrev pub IsTriedAgain : Option Waiting → List Row → ℕ → Row → Type 0
IsTriedAgain took rows place row = (n : ℕ) × (took ≡ Some (waiting.Retry n)) × IsFirstRow (WaitsRetry n) rows place row

-- the call is to terminate the child in this row, which it names by its id or, under simple_one_for_one, by its process
abbrev pub Terminates : Call → List Row → Row → Type 0
Terminates (call.TerminateChild id) rows row = (place : ℕ) × IsFirstRow (HasId id) rows place row
Terminates (call.TerminateProcess p) rows row = (place : ℕ) × IsFirstRow (HasProcess p) rows place row
Terminates _ rows row = ⊥

-- the call asks for a child of this id and specification, of which supervisors of dynamic children have one
abbrev pub AsksForChild : Call → List ChildSpec → Row → Type 0
AsksForChild (call.StartChild spec) specs row = (row.id ≡ Some spec.id) × (row.spec ≡ spec)
AsksForChild call.StartDynamic specs row = (row.id ≡ None) × (slice_get specs 0 ≡ Some row.spec)
AsksForChild _ specs row = ⊥

-- a restart is about the children that the restart of this one affects: it died, or its restart is tried again. It has no
-- process any more, and but for this and for retries that waited all children are as they were
pub record IsRestarted (took : Option Waiting) (s t : State) (part : List Row) : Type 0 where
  pub place : ℕ
  pub row : Row
  pub why : HasDied took s.rows place row ⊎ IsTriedAgain took s.rows place row
  pub down : slice_get t.rows place ≡ Some (with_state Undefined row)
  pub same : calm_rows t.rows ≡ calm_rows (slice_set s.rows place (with_state Undefined row))
  pub is : part ≡ affected t.flags.strategy place t.rows

-- start_child is about the child that it asks for, which is added last
pub record IsAddedByCall (took : Option Waiting) (c : ℕ) (s t : State) (part : List Row) : Type 0 where
  pub asked : Call
  pub row : Row
  pub takes : IsCall took c asked
  pub asks : AsksForChild asked s.specs row
  pub last : t.rows ≡ s.rows ++ row ∷ []
  pub is : part ≡ row ∷ []

-- restart_child is about the first child with the id, which has no process
pub record IsStartedByCall (took : Option Waiting) (c : ℕ) (s t : State) (part : List Row) : Type 0 where
  pub id : Name
  pub place : ℕ
  pub row : Row
  pub takes : IsCall took c (call.RestartChild id)
  pub named : IsFirstRow (HasId id) s.rows place row
  pub down : row.state ≡ Undefined
  pub same : t.rows ≡ s.rows
  pub is : part ≡ row ∷ []

-- terminate_child is about the child that the call names, by its process: the child in a row with that process
pub record IsStoppedByCall (took : Option Waiting) (c : ℕ) (s t : State) (part : List Row) : Type 0 where
  pub asked : Call
  pub row : Row
  pub takes : IsCall took c asked
  pub named : Terminates asked s.rows row
  pub same : t.rows ≡ s.rows
  pub place : ℕ
  pub other : Row
  pub at : slice_get t.rows place ≡ Some other
  pub one : process_number other.state ≡ process_number row.state
  pub is : part ≡ other ∷ []

-- the children that work is about which was opened in the state t, by an event that came in the state s and took this; by
-- what is to follow the work: all at the opening and at the end of the supervisor, those that a restart affects, the one
-- that was added, or the one that the call names
abbrev pub IsAbout : Option Waiting → State → Option Sequel → State → List Row → Type 0
IsAbout took s None t part = part ≡ []
IsAbout took s (Some sequel.Ready) t part = part ≡ t.rows
IsAbout took s (Some sequel.Nothing) t part = IsRestarted took s t part
IsAbout took s (Some (sequel.Added c)) t part = IsAddedByCall took c s t part
IsAbout took s (Some (sequel.Restarted c)) t part = IsStartedByCall took c s t part
IsAbout took s (Some (sequel.Stopped c)) t part = IsStoppedByCall took c s t part
IsAbout took s (Some (sequel.End _)) t part = part ≡ t.rows

-- a child of this type is started again when it was stopped by a restart (Child Specification, restart)
abbrev pub comes_back : Restart → Bool
comes_back Permanent = true
comes_back Transient = true
comes_back Temporary = false

-- which of the children that the work is about are to be started, in start order
abbrev pub start_list : Option Sequel → List Row → List Row
start_list None part = []
start_list (Some sequel.Ready) part = part
start_list (Some sequel.Nothing) part = filter (λ row. comes_back row.spec.restart) part
start_list (Some (sequel.Added _)) part = part
start_list (Some (sequel.Restarted _)) part = part
start_list (Some (sequel.Stopped _)) part = []
start_list (Some (sequel.End _)) part = []

-- these are the children that the open work is about
abbrev pub IsPart : Progress → List Row → Type 0
IsPart g part = IsAbout g.took g.before g.opened.follows g.opened part
