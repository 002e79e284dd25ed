-- A tree that is tried: its supervisors, each with its events so far, and how calls of a trial add to them (own).
use Rattle.std.specs.Prelude.{◌≡◌, ℕ, ◌<◌, ◌≤◌, ◌+◌, ◌==◌, Bool, true, false, not, List, [], ◌∷◌, ◌++◌, Option, Some, None, count_by, if◌then◌else◌, is_some, length, map, position, slice_index_or, slice_set}
use Rattle.std.specs.List.{flat_map, list_any}
use Rattle.otp_file.specs.Trees.{Table, Tree, tables_of}
use Rattle.otp_reason.specs.declared.name.Name.{Name}
use Rattle.otp_reason.specs.declared.note.Note.TheVariants as note
use Rattle.otp_reason.specs.declared.reason.Reason.{Reason}
use Rattle.otp_rules.specs.declared.event.Event.{Event}
use Rattle.otp_rules.specs.declared.event.Item.TheVariants as item
use Rattle.otp_rules.specs.declared.event.Kind.{Kind}
use Rattle.otp_rules.specs.declared.event.Kind.TheVariants as kind
use Rattle.otp_rules.specs.Next.{idle_kind}
use Rattle.otp_rules.specs.Run.{empty_state, state_after}
use Rattle.otp_rules.specs.State.{State, is_over}
use Rattle.otp_rules.specs.Step.{step}
use Rattle.otp_rules.specs.Stops.{is_exit}
use Rattle.otp_spec.specs.declared.child.ChildSpec.{ChildSpec}
use Rattle.otp_spec.specs.declared.flags.SupFlags.{SupFlags}
use Rattle.otp_spec.specs.Flags.{is_simple}
use Rattle.otp_table.specs.declared.row.RowState.{RowState}
use Rattle.otp_table.specs.declared.row.RowState.TheVariants.{Undefined, Starting, Up, Asked, Killed, Restarting}
use Rattle.otp_script.specs.declared.step.Action.{Action}
use Rattle.otp_script.specs.declared.step.Action.TheVariants as action
use Rattle.otp_script.specs.declared.step.Child.{Child}
use Rattle.otp_script.specs.declared.step.Expected.{Expected}
use Rattle.otp_script.specs.declared.step.Expected.TheVariants as expected
use Rattle.otp_trial.specs.declared.story.strain.Strain.{Strain}
use Rattle.otp_trial.specs.Strains.{strained_by, unstrained}
use Rattle.otp_trial.specs.Finding.{found_for, state_for}
use Rattle.otp_trial.specs.declared.processes.finding.Found.{Found}
use Rattle.otp_trial.specs.declared.processes.finding.Found.TheVariants as found
use Rattle.otp_trial.specs.Clocks.{shown}
use Rattle.otp_trial.specs.declared.clock.Clock.{Clock}
use Rattle.otp_trial.specs.Paths.{paths_of}
use Rattle.otp_trial.specs.declared.planting.Change.{Change}
use Rattle.otp_trial.specs.declared.trial.ActionEnd.{ActionEnd}
use Rattle.otp_trial.specs.declared.trial.ActionEnd.TheVariants as taken
use Rattle.otp_trial.specs.Aways.{aways_by, presence_of}
use Rattle.otp_trial.specs.Starts.{is_of_id, is_start_of, started_by}
use Rattle.otp_trial.specs.Story.{event_text}
use Rattle.otp_trial.specs.declared.story.away.Away.{Away}
use Rattle.otp_trial.specs.declared.story.starts.Started.{Started}

-- a supervisor of the tree: what stands in front of the names of its children, as `sub/`, whether all its orders are told or
-- its ends alone, its events since it was last started, and over the whole run how it bore up, and which of its children are away
pub record Seated : Type 0 where
  pub path : List ℕ
  pub tells : Bool
  pub base : State
  pub history : List Event
  pub strain : Strain
  pub aways : List Away

-- the supervisor after them: nothing else is known of it
abbrev pub state_in : Seated → State
state_in p = state_after p.base p.history

-- the starts that it ordered
abbrev pub starts_of : Seated → List Started
starts_of p = started_by p.base p.history

-- a supervisor that was never opened
abbrev pub unplayed : Bool → List ℕ → SupFlags → List ChildSpec → Seated
unplayed tells path flags specs = record { path = path; tells = tells; base = empty_state flags specs; history = []; strain = unstrained; aways = [] }

-- a supervisor as it is at the beginning of a run: it was never opened
abbrev pub fresh : Seated → Seated
fresh p = record p { history = []; strain = unstrained; aways = [] }

-- how it bears up after an event
abbrev pub strain_with : Event → Seated → Strain
strain_with e p = strained_by p.base.flags p.strain e.reading e.kind (step (state_in p) e)

-- which of its children are away after an event
abbrev pub aways_with : Event → Seated → List Away
aways_with e p = aways_by (presence_of (state_in p).rows e.kind) e.reading p.aways

-- the supervisor after an event
abbrev pub seat_with : Event → Seated → Seated
seat_with e p = record p { history = p.history ++ e ∷ []; strain = strain_with e p; aways = aways_with e p }

-- an event of this kind happened to a supervisor at this reading, and the text tells those of its orders that are told, and how long
-- a child was down that is up by it
abbrev pub Happens : ℕ → Kind → Seated → Seated → List ℕ → List ℕ → Type 0
Happens reading k old new before after =
    (e : Event) × (e.kind ≡ k) × (e.reading ≡ reading) × (new ≡ seat_with e old) × (after ≡ before ++ event_text old.tells old.path (starts_of old) old.aways (state_in old) e)

-- what happens to the supervisor at a place, which stood so, and when: an event, or it is there anew and was never opened
pub record Move : Type 0 where
  pub time : ℕ
  pub place : ℕ
  pub seat : Seated
  pub event : Option Event

-- the supervisor after an event, or anew; how it bore up before, and which children are away, stays known
abbrev pub seat_by : Option Event → Seated → Seated
seat_by None seat = record seat { history = [] }
seat_by (Some e) seat = seat_with e seat

abbrev pub seat_after : Move → Seated
seat_after m = seat_by m.event m.seat

abbrev pub text_of_event : Option Event → Seated → List ℕ
text_of_event None seat = []
text_of_event (Some e) seat = event_text seat.tells seat.path (starts_of seat) seat.aways (state_in seat) e

-- the lines of those orders of a move that are told, and how long a child was down that is up by it
unfoldable pub move_text : Move → List ℕ
move_text m = text_of_event m.event m.seat

-- at this place stands this supervisor
pub record IsAt (seats : List Seated) (place : ℕ) (seat : Seated) : Type 0 where
  pub inside : place < length seats
  pub is : seat ≡ slice_index_or seats place seat

-- the moves lead from these supervisors to those
abbrev pub Lead : List Seated → List Move → List Seated → Type 0
Lead seats [] after = after ≡ seats
Lead seats (m ∷ ms) after = IsAt seats m.place m.seat × Lead (slice_set seats m.place (seat_after m)) ms after

-- how a trial stands: its supervisors, by which clock it is played, and the time since the beginning, in milliseconds
pub record Stand : Type 0 where
  pub seats : List Seated
  pub clock : Clock
  pub time : ℕ

-- what its clock shows
abbrev pub now_of : Stand → ℕ
now_of s = shown s.clock s.time

-- one of these supervisors, before anything happens
abbrev pub at_start : Clock → List Seated → Stand
at_start clock seats = record { seats = seats; clock = clock; time = 0 }

-- the reading of an event is what the clock shows at this time
abbrev pub IsRead : Clock → ℕ → Option Event → Type 0
IsRead clock time None = Unit {0}
IsRead clock time (Some e) = e.reading ≡ shown clock time

-- the moves are made one after the other from one time to another, and each event is read off the clock
abbrev pub ArePassed : Clock → ℕ → List Move → ℕ → Type 0
ArePassed clock from [] to = from ≤ to
ArePassed clock from (m ∷ ms) to = (from ≤ m.time) × (IsRead clock m.time m.event × ArePassed clock m.time ms to)

-- by these moves a trial stands so that stood so
pub record Makes (old : Stand) (ms : List Move) (new : Stand) : Type 0 where
  pub lead : Lead old.seats ms new.seats
  pub clock : new.clock ≡ old.clock
  pub passed : ArePassed old.clock old.time ms new.time

-- what is told of these moves, in order
abbrev pub story : List Move → List ℕ
story ms = flat_map move_text ms

-- moves were made, and of them the text tells all orders of the supervisors that are told, and the ends of the others, in
-- order, and nothing else
abbrev pub Tells : Stand → Stand → List ℕ → List ℕ → Type 0
Tells old new before after = (ms : List Move) × Makes old ms new × (after ≡ before ++ story ms)

-- the first move is an event of this kind at this place, at once
abbrev pub Begins : ℕ → Kind → Stand → Stand → Type 0
Begins place k old new = (seat : Seated) × (e : Event) × (ms : List Move)
    × Makes old (record { time = old.time; place = place; seat = seat; event = Some e } ∷ ms) new × (e.kind ≡ k)

-- the first move is such an event, and the text tells its orders, and then those of the moves after it
abbrev pub TellsFirst : ℕ → Kind → Stand → Stand → List ℕ → List ℕ → Type 0
TellsFirst place k old new before after = (seat : Seated) × (e : Event) × (ms : List Move)
    × Makes old (record { time = old.time; place = place; seat = seat; event = Some e } ∷ ms) new × (e.kind ≡ k)
    × (after ≡ before ++ story (record { time = old.time; place = place; seat = seat; event = Some e } ∷ ms))

-- the end of this process was told, and waits until no work is open
abbrev pub has_end_waiting : Seated → ℕ → Bool
has_end_waiting seat p = is_some (position (is_exit p) (state_in seat).waiting)

-- a child in this state starts as this process
unfoldable pub is_start : ℕ → RowState → Bool
is_start p (Starting q _) = q == p
is_start p Undefined = false
is_start p (Up _) = false
is_start p (Asked _ _) = false
is_start p (Killed _) = false
is_start p (Restarting _) = false

-- the start of this process was ordered, and isn't answered
abbrev pub is_starting : Seated → ℕ → Bool
is_starting seat p = list_any (λ row. is_start p row.state) (state_in seat).rows

-- the end of this process is told; where its start isn't answered, the answer is that it failed
unfoldable pub EndsBy : Bool → ℕ → ℕ → Reason → Stand → Stand → Type 0
EndsBy true place p r old new = Begins place (kind.Took (item.Note (note.Failed p r))) old new
EndsBy false place p r old new = Begins place (kind.Took (item.Note (note.Exit p r))) old new

abbrev pub EndsByAt : ℕ → ℕ → Reason → Stand → Stand → Type 0
EndsByAt place p r old new = (seat : Seated) → IsAt old.seats place seat → EndsBy (is_starting seat p) place p r old new

-- that is what happens first, unless its end waits already; then nothing happens
unfoldable pub EndsUnless : Bool → Seated → ℕ → ℕ → Reason → Stand → ActionEnd → Stand → Type 0
EndsUnless true seat place p r old answer new = (answer ≡ taken.EndWaits) × (new ≡ old)
EndsUnless false seat place p r old answer new = (answer ≡ taken.Done) × EndsBy (is_starting seat p) place p r old new

-- the end of that process is what happens first; or nothing happens, and the answer says why
unfoldable pub Ends : ℕ → Reason → Seated → Found → Stand → ActionEnd → Stand → Type 0
Ends place r seat (found.Process p) old answer new = EndsUnless (has_end_waiting seat p) seat place p r old answer new
Ends place r seat found.NoProcess old answer new = (answer ≡ taken.NoProcess) × (new ≡ old)
Ends place r seat found.NoChild old answer new = (answer ≡ taken.NoChild) × (new ≡ old)

-- the root has ended, or was never opened
unfoldable pub is_root_over : List Seated → Bool
is_root_over [] = true
is_root_over (root ∷ seats) = is_over (state_in root).phase

-- what becomes of a start that is planned: none comes once the root has ended, and under simple_one_for_one no child has an id
unfoldable pub end_of_plan : List Seated → Seated → ActionEnd
end_of_plan seats seat = if is_root_over seats then taken.Ended else if is_simple seat.base.flags.strategy then taken.NoIds else taken.Done

-- what a supervisor does first that is asked to shut down: what it does by itself where its parent wants that, which is to
-- begin with it; or nothing where it has ended, or work is open, which comes first
unfoldable pub StopsBy : Option Kind → ℕ → Stand → Stand → Type 0
StopsBy None place old new = new ≡ old
StopsBy (Some k) place old new = Begins place k old new

-- the supervisor at this place is stopped first, if it can be
abbrev pub StopsFirst : ℕ → Stand → Stand → Type 0
StopsFirst place old new = (seat : Seated) → IsAt old.seats place seat → StopsBy (idle_kind (state_in seat) true) place old new

-- what becomes of a request to shut down, where the root has ended or not
unfoldable pub Stops : Bool → ℕ → Stand → ActionEnd → Stand → Type 0
Stops true place old answer new = (answer ≡ taken.Ended) × (new ≡ old)
Stops false place old answer new = (answer ≡ taken.Done) × StopsFirst place old new

-- how many starts of it its supervisor ordered since it was started itself
abbrev pub starts_for : Name → Seated → ℕ
starts_for id seat = count_by (is_of_id id) (starts_of seat)

-- the child is there no more, but its supervisor has started it: what becomes of what is expected then, or of what nobody
-- could mean
unfoldable pub end_if_started : Bool → ActionEnd → ActionEnd
end_if_started true known = known
end_if_started false known = taken.NoChild

unfoldable pub was_started : Child → Seated → Bool
was_started c seat = list_any (is_start_of c) (starts_of seat)

-- it is expected that a child in this state runs
unfoldable pub end_of_up : Bool → Option RowState → ActionEnd
end_of_up started None = end_if_started started taken.Unmet
end_of_up started (Some Undefined) = taken.Unmet
end_of_up started (Some (Starting _ _)) = taken.Unmet
end_of_up started (Some (Up _)) = taken.Done
end_of_up started (Some (Asked _ _)) = taken.Unmet
end_of_up started (Some (Killed _)) = taken.Unmet
end_of_up started (Some (Restarting _)) = taken.Unmet

-- it is expected that a child in this state has no process
unfoldable pub end_of_ended : Bool → Option RowState → ActionEnd
end_of_ended started None = end_if_started started taken.Done
end_of_ended started (Some Undefined) = taken.Done
end_of_ended started (Some (Starting _ _)) = taken.Unmet
end_of_ended started (Some (Up _)) = taken.Unmet
end_of_ended started (Some (Asked _ _)) = taken.Unmet
end_of_ended started (Some (Killed _)) = taken.Unmet
end_of_ended started (Some (Restarting _)) = taken.Done

-- it is expected that a child was started again so often, which has started so often
unfoldable pub end_of_restarts : ℕ → ℕ → ActionEnd
end_of_restarts starts restarts = if starts == 0 then taken.NoChild else if starts == restarts + 1 then taken.Done else taken.Unmet

-- what is expected is so, or not
unfoldable pub end_of_test : Bool → ActionEnd
end_of_test true = taken.Done
end_of_test false = taken.Unmet

-- whether what is expected of a supervisor that has a process, or of a child of it, is so
unfoldable pub end_of_expected : Expected → Seated → ActionEnd
end_of_expected (expected.Up c) seat = end_of_up (was_started c seat) (state_for c (state_in seat).rows)
end_of_expected (expected.Ended c) seat = end_of_ended (was_started c seat) (state_for c (state_in seat).rows)
end_of_expected (expected.Restarts id n) seat = end_of_restarts (starts_for id seat) n
end_of_expected expected.Alive seat = end_of_test (not (is_over (state_in seat).phase))
end_of_expected expected.Over seat = end_of_test (is_over (state_in seat).phase)

-- what an action of a script, which is said to the supervisor at this place, does first
unfoldable pub Acts : Action → ℕ → Seated → Stand → ActionEnd → Stand → Type 0
Acts action.Nothing place seat old answer new = (answer ≡ taken.Done) × (new ≡ old)
Acts (action.Exit c r) place seat old answer new = Ends place r seat (found_for c (state_in seat).rows) old answer new
Acts (action.Start _ _) place seat old answer new = (answer ≡ end_of_plan old.seats seat) × (new ≡ old)
Acts (action.Init _ _) place seat old answer new = (answer ≡ end_of_plan old.seats seat) × (new ≡ old)
Acts (action.Hang c) place seat old answer new = new ≡ old
Acts (action.Slow c time) place seat old answer new = new ≡ old
Acts (action.Expect x) place seat old answer new = (answer ≡ end_of_expected x seat) × (new ≡ old)
Acts action.Stop place seat old answer new = Stops (is_root_over old.seats) place old answer new
Acts (action.Call c) place seat old answer new = (answer ≡ taken.Done) × ((n : ℕ) × Begins place (kind.Took (item.Call n c)) old new)

-- the supervisor that a script means stands at this place, and its own children are meant
abbrev pub ActsAt : Action → ℕ → Stand → ActionEnd → Stand → Type 0
ActsAt a place old answer new = (seat : Seated) → IsAt old.seats place seat → Acts a place seat old answer new

-- the start of a child of the supervisor at this place is planned, or the answer says why it isn't
abbrev pub PlansAt : ℕ → List Seated → ActionEnd → Type 0
PlansAt place seats answer = (seat : Seated) → IsAt seats place seat → answer ≡ end_of_plan seats seat

-- whether what is expected of the supervisor at this place, or of a child of it, is so
abbrev pub ExpectsAt : ℕ → Expected → List Seated → ActionEnd → Type 0
ExpectsAt place x seats answer = (seat : Seated) → IsAt seats place seat → answer ≡ end_of_expected x seat

-- the process that is meant is that of this child of the supervisor at this place
abbrev pub EndsAt : ℕ → Reason → Child → Stand → ActionEnd → Stand → Type 0
EndsAt place r c old answer new = (seat : Seated) → IsAt old.seats place seat → Ends place r seat (found_for c (state_in seat).rows) old answer new

-- it is this process
abbrev pub EndsProcessAt : ℕ → ℕ → Reason → Stand → ActionEnd → Stand → Type 0
EndsProcessAt place p r old answer new = (seat : Seated) → IsAt old.seats place seat → EndsUnless (has_end_waiting seat p) seat place p r old answer new

-- what stands in front of the names of each one's children
abbrev pub paths_in : List Seated → List (List ℕ)
paths_in seats = map (λ seat. seat.path) seats

-- a supervisor for each of these tables, in their order, that was never opened, and is told or not
abbrev pub ArePlanted : Bool → List Table → List Seated → Type 0
ArePlanted tells [] [] = Unit {0}
ArePlanted tells [] (seat ∷ seats) = ⊥
ArePlanted tells (table ∷ tables) [] = ⊥
ArePlanted tells (table ∷ tables) (seat ∷ seats) = (seat ≡ unplayed tells seat.path table.flags table.specs) × ArePlanted tells tables seats

-- those were put behind the supervisors that were there
abbrev pub AddsTables : Bool → List Table → List Seated → List Seated → Type 0
AddsTables tells tables old new = (more : List Seated) × (new ≡ old ++ more) × ArePlanted tells tables more

-- the supervisors of a tree are put behind the others, and the root's children have this in front of their names
abbrev pub AddsTree : Bool → List ℕ → Tree → List Seated → List Seated → Type 0
AddsTree tells path tree old new =
    (more : List Seated) × (new ≡ old ++ unplayed tells path tree.flags tree.specs ∷ more) × ArePlanted tells tree.below more

-- the supervisors of a tree, of which none was ever opened: one for each table, by their numbers, with the paths of the tree's
-- walk; all are told, or of each its ends alone
abbrev pub IsPlanted : Bool → Tree → List Seated → Type 0
IsPlanted tells tree seats = AddsTree tells [] tree [] seats × (paths_in seats ≡ paths_of [] (tables_of tree))

-- a supervisor with another intensity: it was never opened
abbrev pub with_intensity : ℕ → Seated → Seated
with_intensity intensity p = unplayed p.tells p.path (record p.base.flags { intensity = intensity }) p.base.specs

-- the one at this place has another intensity now, and the others are as they were
abbrev pub IsChanged : Change → List Seated → List Seated → Type 0
IsChanged change old new =
    (seat : Seated) × IsAt old change.place seat × (new ≡ slice_set old change.place (with_intensity change.intensity seat))

-- the supervisors of a tree, of which none was ever opened, as its file says them, or with another intensity of one of them
abbrev pub IsPlantedAs : Option Change → Bool → Tree → List Seated → Type 0
IsPlantedAs None tells tree seats = IsPlanted tells tree seats
IsPlantedAs (Some change) tells tree seats = (planted : List Seated) × IsPlanted tells tree planted × IsChanged change planted seats
