-- What contracts see of a scheduler's own deque, and of its ways to the others. (own)
use Rattle.std.specs.Prelude.{◌≡◌, ℕ, zero, suc, ◌+◌, ◌<◌, List, [], ◌∷◌, ◌++◌, length}
use Rattle.otp_job.specs.declared.process.Ticket.{Ticket}

-- its own: whose it is, its parts of the right to know the whole, what was put and taken, and how often nothing was there
pub record OwnState : Type 0 where
  pub index : ℕ
  pub parts : ℕ
  pub puts : List Ticket
  pub taken : List Ticket
  pub misses : ℕ

-- another's: whose it is, what was stolen from it, and how often a try at it gave nothing
pub record VictimState : Type 0 where
  pub index : ℕ
  pub taken : List Ticket
  pub misses : ℕ

abbrev pub fresh_victim : ℕ → VictimState
fresh_victim index = record { index = index; taken = []; misses = 0 }

abbrev pub index_of : VictimState → ℕ
index_of v = v.index

-- all that was stolen, victim by victim
abbrev pub stolen : List VictimState → List Ticket
stolen [] = []
stolen (v ∷ vs) = v.taken ++ stolen vs

-- the first so many were tried, and gave nothing
abbrev pub missed : ℕ → List VictimState → List VictimState
missed zero vs = vs
missed (suc k) [] = []
missed (suc k) (v ∷ vs) = record v { misses = v.misses + 1 } ∷ missed k vs

-- the first so many were tried and gave nothing, and the next gave this process
abbrev pub robbed : ℕ → Ticket → List VictimState → List VictimState
robbed k ticket [] = []
robbed zero ticket (v ∷ vs) = record v { taken = v.taken ++ ticket ∷ [] } ∷ vs
robbed (suc k) ticket (v ∷ vs) = record v { misses = v.misses + 1 } ∷ robbed k ticket vs

-- one of them gave the process, after those before it gave nothing
pub record TakenFrom (old : List VictimState) (ticket : Ticket) (new : List VictimState) : Type 0 where
  pub at : ℕ
  pub there : at < length old
  pub changed : new ≡ robbed at ticket old
