-- Which slots of signal words whose they are, and what schedulers are before hands are made of them. (own)
use Rattle.std.specs.Prelude.{◌≡◌, ℕ, zero, suc, ◌+◌, ◌*◌, false, List, [], ◌∷◌, None, length}
use Rattle.otp_job.specs.declared.process.Ticket.{Ticket}
use Rattle.otp_run.specs.Lists.{AllAt}
use Rattle.otp_run.specs.Opens.{opened}
use Rattle.otp_spec.specs.declared.limits.TheConstants.{MAX_CHILDREN}
use Rattle.otp_run.specs.Schedulers.{SchedulerState, out}
use Rattle.otp_hand.specs.declared.client.TheConstants.{ROOT_NUMBER, ROOT_SLOT}
use Rattle.otp_hand.specs.Begun.{root_at}
use Rattle.otp_hand.specs.Hands.{HandView}

-- the first slot of the supervisor of this number: ROOT_SLOT is the root's own
abbrev pub first_slot : ℕ → ℕ
first_slot number = 1 + MAX_CHILDREN * number

-- the slots of so many supervisors, and the root's own
abbrev pub slots_of : ℕ → ℕ
slots_of tables = first_slot tables

-- the schedulers of a tree that was just opened for so many hands: the first has put the root's process
abbrev pub opened_for : Ticket → ℕ → ℕ → SchedulerState
opened_for root count zero = record (opened count 0) { begun = 1; own = record (opened count 0).own { puts = root ∷ [] } }
opened_for root count (suc place) = opened count (suc place)

-- the scheduler of this place, of so many, has done nothing
pub record IsIdle (count place : ℕ) (s : SchedulerState) : Type 0 where
  pub is : s ≡ opened count place
  pub index : s.own.index ≡ place
  pub none_out : out s ≡ 0
  pub none_begun : s.begun ≡ 0
  pub none_ended : s.ended ≡ 0

-- nothing is out, nothing has ended, and nothing began but the root's process, at the first scheduler
pub record HasRootOnly (s : SchedulerState) : Type 0 where
  pub none_out : out s ≡ 0
  pub begun : s.begun ≡ root_at s.own.index
  pub none_ended : s.ended ≡ 0

-- it has done nothing, but that the first has put the root's process
pub record IsOpened (root : Ticket) (count place : ℕ) (s : SchedulerState) : Type 0 where
  pub is : s ≡ opened_for root count place
  pub only : HasRootOnly s

-- the root's process: it has the root's number and slot, and tells whoever opened a tree of so many supervisors
abbrev pub root_ticket : ℕ → Ticket
root_ticket tables = record { number = ROOT_NUMBER; slot = ROOT_SLOT; table = tables; id = None; again = false }

module _ {J S : Type 0} where
  -- the hands of a tree that was just opened, in the order of their schedulers: so many as there are, and the first has put
  -- the process with this ticket
  pub record AreOpened (root : Ticket) (count : ℕ) (hands : List (HandView J S)) : Type 0 where
    pub many : length hands ≡ count
    pub each : AllAt (λ k (h : HandView J S). h.scheduler ≡ opened_for root count k) hands
