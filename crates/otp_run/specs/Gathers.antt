-- A run queue is taken apart. (own)
use Rattle.std.specs.Prelude.{◌≡◌, ℕ, ◌+◌, ◌-◌, ◌*◌, ◌<◌, ◌≤◌, List, [], ◌∷◌, ◌++◌, length, map, sum_by, vec_capacity}
use Rattle.otp_job.specs.declared.process.Ticket.{Ticket}
use Rattle.otp_job.specs.Processes.{ProcessState}
use Rattle.otp_run.specs.declared.rule.RunView.{RunView}
use Rattle.otp_run.specs.declared.gathering.GatherFault.{GatherFault}
use Rattle.otp_run.specs.declared.gathering.GatherFault.TheVariants as fault
use Rattle.otp_run.specs.declared.gathering.Room.{Room}
use Rattle.otp_run.specs.Lists.{AllAt}
use Rattle.otp_run.specs.Rule.{all_parts, ticket_of, AsOften}
use Rattle.otp_run.specs.Deques.{OwnState, VictimState}
use Rattle.otp_run.specs.Schedulers.{SchedulerState, IsScheduler, IsPlaced, puts, finds, out}

-- each scheduler stands at the place of its index, and knows that there are so many
abbrev pub AreInOrder : List SchedulerState → Type 0
AreInOrder schedulers = AllAt (λ index s. (s.own.index ≡ index) × (s.count ≡ length schedulers)) schedulers

-- these are all schedulers of a run queue, in the order of their indexes; each run queue has some
abbrev pub IsAll : List SchedulerState → Type 0
IsAll schedulers = (0 < length schedulers) × AreInOrder schedulers

abbrev pub begun_of : SchedulerState → ℕ
begun_of s = s.begun

abbrev pub ended_of : SchedulerState → ℕ
ended_of s = s.ended

-- the ledger of all schedulers together: `left` is what is left in the deques
pub record IsLiveTotal (schedulers : List SchedulerState) (live : ℕ) (left : List Ticket) : Type 0 where
  -- each process that was put was found or is left, as often as it was put
  pub as_often : (weight : Ticket → ℕ) → sum_by (λ (s : SchedulerState). sum_by weight (puts s)) schedulers ≡ sum_by (λ (s : SchedulerState). sum_by weight (finds s)) schedulers + sum_by weight left
  -- begun less ended
  pub balance : sum_by begun_of schedulers ≡ sum_by ended_of schedulers + live
  -- which is what is left and what is out
  pub live_is : live ≡ length left + sum_by out schedulers

abbrev pub own_of : SchedulerState → OwnState
own_of s = s.own

-- the ways of all schedulers
abbrev pub all_ways : List SchedulerState → List VictimState
all_ways [] = []
all_ways (s ∷ ss) = s.others ++ all_ways ss

-- how many of the ways lead to this deque
abbrev pub visits : ℕ → List VictimState → ℕ
visits index [] = 0
visits index (v ∷ vs) = (1 - ((v.index - index) + (index - v.index))) + visits index vs

-- a deque at its place, to which the rest of its parts comes by these ways
abbrev pub IsAwaiting : List VictimState → ℕ → OwnState → Type 0
IsAwaiting ways index o = (o.index ≡ index) × (o.parts + visits index ways ≡ all_parts)

-- a deque all of whose parts are home
abbrev pub IsHome : ℕ → OwnState → Type 0
IsHome index o = o.parts ≡ all_parts

-- a deque all of whose parts are home, from which no more was taken than put
abbrev pub IsCounted : ℕ → OwnState → Type 0
IsCounted index o = (o.parts ≡ all_parts) × (length o.taken ≤ length o.puts)

abbrev pub puts_of : (Ticket → ℕ) → OwnState → ℕ
puts_of weight o = sum_by weight o.puts

abbrev pub taken_of : (Ticket → ℕ) → OwnState → ℕ
taken_of weight o = sum_by weight o.taken

abbrev pub stolen_of : (Ticket → ℕ) → VictimState → ℕ
stolen_of weight v = sum_by weight v.taken

-- ways came home: what was stolen by them counts as taken
pub record Absorbed (old : List OwnState) (ways : List VictimState) (new : List OwnState) : Type 0 where
  pub taken : (weight : Ticket → ℕ) → sum_by (taken_of weight) new ≡ sum_by (taken_of weight) old + sum_by (stolen_of weight) ways
  pub put : (weight : Ticket → ℕ) → sum_by (puts_of weight) new ≡ sum_by (puts_of weight) old
  pub many : length new ≡ length old

-- what was popped stands at the end of the list, and is all that was left
pub record Popped {J S : Type 0} (v : RunView) (old new : List (ProcessState J S)) : Type 0 where
  pub popped : List (ProcessState J S)
  pub listed : new ≡ old ++ popped
  pub as_often : AsOften v.put (v.taken ++ map ticket_of popped)

-- several deques were drained into the list
pub record DrainedInto {J S : Type 0} (homes : List OwnState) (old new : List (ProcessState J S)) : Type 0 where
  pub left : List (ProcessState J S)
  pub listed : new ≡ old ++ left
  pub as_often : (weight : Ticket → ℕ) → sum_by (puts_of weight) homes ≡ sum_by (taken_of weight) homes + sum_by weight (map ticket_of left)

abbrev pub put_count : List OwnState → ℕ
put_count homes = sum_by (λ (o : OwnState). length o.puts) homes

abbrev pub taken_count : List OwnState → ℕ
taken_count homes = sum_by (λ (o : OwnState). length o.taken) homes

-- what a scheduler that is all there tells when it is taken apart
abbrev pub IsKept : SchedulerState → Type 0
IsKept s = IsScheduler s × IsPlaced s

-- room for all that is taken apart, and for what is left
abbrev pub IsRoomFor : {N J S : Type 0} → List SchedulerState → Room N J S → Type 0
IsRoomFor schedulers room =
    (room.homes.items ≡ []) × (all_parts ≤ vec_capacity room.homes)
    × (room.ways.items ≡ []) × (all_parts * all_parts ≤ vec_capacity room.ways)
    × (room.left.items ≡ []) × (sum_by begun_of schedulers - sum_by ended_of schedulers ≤ vec_capacity room.left)
    × (room.share.begun ≡ sum_by begun_of schedulers) × (room.share.ended ≡ sum_by ended_of schedulers)

-- why nothing was taken apart; the schedulers come back as they were
abbrev pub IsRefused : {N J S : Type 0} → List SchedulerState → GatherFault N J S → Type 0
IsRefused schedulers (fault.Missing back) = ¬ (IsAll schedulers) × (back.items ≡ schedulers)
IsRefused schedulers (fault.OutOfMemory back) = IsAll schedulers × (back.items ≡ schedulers)
