-- A line of a script, done on a trial (own).
use Prim.Native.Nat.{zero, suc}
use Rattle.std.specs.Prelude.{◌≡◌, ◌≤◌, ◌<◌, ◌⊎◌, ℕ, ◌+◌, ◌-◌, ◌^◌, Bool, true, false, not, ◌&&◌, List, [], ◌++◌, max, Option, Some, None, Ok, if◌then◌else◌, is_some, length, min, nat_eq, nat_lt, position, slice_get}
use Rattle.std.specs.Str.{bytes_eq}
use Rattle.otp_reason.specs.declared.name.Name.{Name}
use Rattle.otp_script.specs.Lines.{Saying, saying_in}
use Rattle.otp_script.specs.declared.step.Action.{Action}
use Rattle.otp_script.specs.declared.step.Action.TheVariants as action
use Rattle.otp_script.specs.declared.step.Child.{Child}
use Rattle.otp_script.specs.declared.step.Child.TheVariants as child
use Rattle.otp_script.specs.declared.step.Expected.TheVariants as expected
use Rattle.otp_script.specs.declared.step.When.{When}
use Rattle.otp_script.specs.declared.step.When.TheVariants as when
use Rattle.otp_spec.specs.declared.limits.TheConstants.{MAX_READING}
use Rattle.otp_table.specs.Rows.{has_id}
use Rattle.otp_trial.specs.Played.{ActsAt, Makes, Move, Seated, Stand, is_root_over, state_in, story}
use Rattle.otp_trial.specs.declared.trial.ActionEnd.{ActionEnd}
use Rattle.otp_trial.specs.declared.trial.ActionEnd.TheVariants as taken

-- the number by which a child is meant
unfoldable pub number_of : Child → Option ℕ
number_of (child.Named id) = None
number_of (child.Numbered process) = Some process

-- the process by whose number alone a line means a child: numbers are given in turn over the whole tree
unfoldable pub number_meant : Action → Option ℕ
number_meant (action.Exit c why) = number_of c
number_meant (action.Hang c) = number_of c
number_meant (action.Slow c time) = number_of c
number_meant (action.Expect (expected.Up c)) = number_of c
number_meant (action.Expect (expected.Ended c)) = number_of c
number_meant _ = None

-- the time that a line says now, where it has not gone by
unfoldable pub time_at : ℕ → When → Option ℕ
time_at now when.Now = Some now
time_at now (when.At time) = if nat_lt time now then None else Some (min time MAX_READING)
time_at now (when.After time) = Some (min (min (now + time) (2 ^ 64 - 1)) MAX_READING)

unfoldable pub knows_in : Name → Option Seated → Bool
knows_in id None = false
knows_in id (Some seat) = is_some (position (has_id id) (state_in seat).rows)

-- the supervisor at this place has a child with this id
unfoldable pub knows : Name → ℕ → List Seated → Bool
knows id place seats = knows_in id (slice_get seats place)

unfoldable pub is_nobody : Name → Option ℕ → List Seated → Bool
is_nobody id None seats = false
is_nobody id (Some place) seats = not (is_root_over seats) && not (knows id place seats)

-- a line names a child which the supervisor at this place doesn't have
unfoldable pub means_nobody : Option Name → Option ℕ → List Seated → Bool
means_nobody None place seats = false
means_nobody (Some id) place seats = is_nobody id place seats

-- before all else it is told that the root has ended
unfoldable pub unless_ended : Bool → ActionEnd → ActionEnd
unless_ended true why = taken.Ended
unless_ended false why = why

-- what becomes of an action at a supervisor that has no process, as none of its children has
unfoldable pub without_process : Bool → Action → ActionEnd
without_process has_ended (action.Expect (expected.Ended c)) = taken.Done
without_process has_ended (action.Expect expected.Over) = taken.Done
without_process has_ended (action.Expect _) = taken.Unmet
without_process has_ended _ = unless_ended has_ended taken.NotRunning

-- once a line came to this, and the root has ended or not, it is done again where it says so
unfoldable pub goes_on : ActionEnd → Bool → Bool
goes_on taken.Done has_ended = not has_ended
goes_on _ has_ended = false

-- what is told of an action at the supervisor that a line means: of one that names a child which isn't there before all else that
-- the root has ended
unfoldable pub told_end : Bool → ActionEnd → ActionEnd
told_end has_ended taken.NoChild = unless_ended has_ended taken.NoChild
told_end has_ended why = why

-- whose children's names have this path before them
abbrev pub has_path : List ℕ → Seated → Bool
has_path path seat = bytes_eq seat.path path

-- a line means a child by the number of its process alone
unfoldable pub is_by_number : List ℕ → Action → Bool
is_by_number path deed = is_some (number_meant deed) && nat_eq (length path) 0

-- the supervisor at this place is the one that a line means: the first with its path, unless it means a child by its number alone
unfoldable pub IsMeant : Bool → List ℕ → List Seated → ℕ → Type 0
IsMeant true path seats place = place < length seats
IsMeant false path seats place = position (has_path path) seats ≡ Some place

-- nothing happens, since there is no such supervisor, or since it has no process
abbrev pub IsIdle : Action → Stand → ActionEnd → Stand → Type 0
IsIdle deed old end new =
    (new ≡ old) × ((end ≡ unless_ended (is_root_over old.seats) taken.NoSupervisor) ⊎ (end ≡ without_process (is_root_over old.seats) deed))

-- the action happens at this place
abbrev pub HappensAt : List ℕ → Action → ℕ → Stand → ActionEnd → Stand → Type 0
HappensAt path deed place old end new =
    IsMeant (is_by_number path deed) path old.seats place
    × ((known : ActionEnd) × (ActsAt deed place old known new × (end ≡ told_end (is_root_over new.seats) known)))

-- the action that a line says is what happens first at the supervisor that it means, and this is told of it; or nothing happens
abbrev pub DoesDeed : List ℕ → Action → Stand → ActionEnd → Stand → Type 0
DoesDeed path deed old end new = IsIdle deed old end new ⊎ ((place : ℕ) × HappensAt path deed place old end new)

-- the clock goes to this time, unless it is past it, with what comes until then; and then what a line says is done, all of it at one
-- time, and comes to this
pub record DoesAt (said : Saying) (time : ℕ) (end : ActionEnd) (old : Stand) (ms : List Move) (new : Stand) : Type 0 where
  pub before : List Move
  pub mid : Stand
  pub goes : Makes old before mid
  pub time_is : mid.time ≡ max old.time time
  pub acts : List Move
  pub does : Makes mid acts new
  pub stays : new.time ≡ mid.time
  pub all : ms ≡ before ++ acts
  pub deed : DoesDeed said.path said.action mid end new

-- a line is done at its time where that has not gone by; else nothing is
abbrev pub DoesWhen : Saying → Option ℕ → ActionEnd → Stand → List Move → Stand → Type 0
DoesWhen said None end old ms new = (end ≡ taken.TooLate) × ((new ≡ old) × (ms ≡ []))
DoesWhen said (Some time) end old ms new = DoesAt said time end old ms new

-- a line is done so often, each time when it says, and comes to this in the end
abbrev pub DoesOften : Saying → ℕ → ActionEnd → Stand → List Move → Stand → Type 0
DoesOften said zero end old ms new = (new ≡ old) × (ms ≡ [])
DoesOften said (suc n) end old ms new =
    (first : ActionEnd) × ((mid : Stand) × ((before : List Move) × ((more : List Move)
    × (DoesOften said n first old before mid × (DoesWhen said (time_at mid.time said.when) end mid more new × (ms ≡ before ++ more))))))

-- by these moves a line is done as often as it says, and once at least; less often only where it came to something else in the end,
-- or the root has ended
pub record DoesTimes (said : Saying) (end : ActionEnd) (old : Stand) (ms : List Move) (new : Stand) : Type 0 where
  pub makes : Makes old ms new
  pub done : ℕ
  pub does : DoesOften said done end old ms new
  pub once : 1 ≤ done
  pub most : done ≤ max 1 said.times
  pub all : goes_on end (is_root_over new.seats) ≡ true → done ≡ max 1 said.times

-- the same, and the text tells the orders of these moves
abbrev pub TellsAt : Saying → ℕ → ActionEnd → Stand → Stand → List ℕ → List ℕ → Type 0
TellsAt said time end old new before after = (ms : List Move) × DoesAt said time end old ms new × (after ≡ before ++ story ms)

abbrev pub TellsWhen : Saying → Option ℕ → ActionEnd → Stand → Stand → List ℕ → List ℕ → Type 0
TellsWhen said when end old new before after = (ms : List Move) × DoesWhen said when end old ms new × (after ≡ before ++ story ms)

abbrev pub TellsOften : Saying → ℕ → ActionEnd → Stand → Stand → List ℕ → List ℕ → Type 0
TellsOften said times end old new before after = (ms : List Move) × DoesOften said times end old ms new × (after ≡ before ++ story ms)

abbrev pub TellsTimes : Saying → ActionEnd → Stand → Stand → List ℕ → List ℕ → Type 0
TellsTimes said end old new before after = (ms : List Move) × DoesTimes said end old ms new × (after ≡ before ++ story ms)

-- a text says what is done so
abbrev pub TellsLine : List ℕ → ActionEnd → Stand → Stand → List ℕ → List ℕ → Type 0
TellsLine line end old new before after = (said : Saying) × ((saying_in line ≡ Ok said) × TellsTimes said end old new before after)
