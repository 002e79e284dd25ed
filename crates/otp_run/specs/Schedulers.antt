-- What contracts see of a scheduler, and the ledger of begun and ended processes. (own)
use Rattle.std.specs.Prelude.{◌≡◌, ℕ, zero, suc, ◌+◌, ◌-◌, ◌<◌, ◌≤◌, map, ◌⊎◌, List, [], ◌∷◌, ◌++◌, length}
use Rattle.otp_job.specs.declared.process.Ticket.{Ticket}
use Rattle.otp_run.specs.declared.scheduler.TheConstants.{SHARE_LIMIT}
use Rattle.otp_run.specs.Rule.{all_parts}
use Rattle.otp_run.specs.Deques.{OwnState, VictimState, index_of, stolen, missed, TakenFrom}

-- its deque, those of the others in the order in which it tries them, how many schedulers there are (0 until it has its
-- ways to all others), how many processes began and ended here, and how often it found nothing anywhere
pub record SchedulerState : Type 0 where
  pub own : OwnState
  pub others : List VictimState
  pub count : ℕ
  pub begun : ℕ
  pub ended : ℕ
  pub empty_finds : ℕ

-- what it put: processes that began here, and those that it gave back
abbrev pub puts : SchedulerState → List Ticket
puts s = s.own.puts

-- what it found, in its own deque and in others
abbrev pub finds : SchedulerState → List Ticket
finds s = s.own.taken ++ stolen s.others

-- how many processes it gave back
abbrev pub given_back : SchedulerState → ℕ
given_back s = length (puts s) - s.begun

-- how many processes it has out: found here, and neither given back nor ended here
unfoldable pub out : SchedulerState → ℕ
out s = length (finds s) - given_back s - s.ended

-- so many numbers, from one on
abbrev pub numbers_from : ℕ → ℕ → List ℕ
numbers_from first zero = []
numbers_from first (suc k) = first ∷ numbers_from (first + 1) k

-- of so many schedulers all but one: in rising order from that one on, wrapping round
abbrev pub order_of : ℕ → ℕ → List ℕ
order_of index count = numbers_from (index + 1) (count - 1 - index) ++ numbers_from 0 index

-- it has its ways to all others, in their order, and each of them has a part of its deque
pub record IsPlaced (s : SchedulerState) : Type 0 where
  pub few : s.count ≤ all_parts
  pub inside : s.own.index < s.count
  pub shared : s.own.parts + s.count ≡ all_parts + 1
  pub ordered : map index_of s.others ≡ order_of s.own.index s.count

-- what holds of each scheduler at all times
pub record IsScheduler (s : SchedulerState) : Type 0 where
  pub placed : 0 < s.count → IsPlaced s
  pub begun_is_put : s.begun ≤ length (puts s)
  -- what it gave back and what ended here was found here
  pub found_first : given_back s + s.ended ≤ length (finds s)
  pub begun_bounded : s.begun ≤ SHARE_LIMIT
  pub ended_bounded : s.ended ≤ SHARE_LIMIT

-- its own deque gave the process
abbrev pub found_own : SchedulerState → Ticket → SchedulerState
found_own s ticket = record s { own = record s.own { taken = s.own.taken ++ ticket ∷ [] } }

-- its own deque gave nothing
abbrev pub own_missed : SchedulerState → OwnState
own_missed s = record s.own { misses = s.own.misses + 1 }

-- the process was found: in its own deque, or else in one of the others, after all those before it gave nothing
abbrev pub Found : SchedulerState → Ticket → SchedulerState → Type 0
Found old ticket new = (new ≡ found_own old ticket) ⊎ (TakenFrom old.others ticket new.others × (new ≡ record old { own = own_missed old; others = new.others }))

-- each deque was tried once and gave nothing
abbrev pub nothing_found : SchedulerState → SchedulerState
nothing_found old = record old { own = own_missed old; others = missed (length old.others) old.others; empty_finds = old.empty_finds + 1 }
