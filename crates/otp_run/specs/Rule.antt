-- The rule of one deque: each process that was put is inside or was taken, as often as it was put. (own)
use Rattle.std.specs.Prelude.{◌≡◌, ℕ, ◌+◌, ◌-◌, ◌≤◌, List, [], ◌++◌, length, sum_by}
use mathlib.Core.Option.{some}
use lib.ListN.{get_elem?}
use Rattle.otp_job.specs.declared.process.Ticket.{Ticket}
use Rattle.otp_job.specs.Processes.{ProcessState}
use Rattle.otp_run.specs.declared.rule.RunView.{RunView}

-- the passes of a deque share so many parts
abbrev pub all_parts : ℕ
all_parts = 8

-- each process stands in the one list as often as in the other: however they are weighed, both weigh the same
abbrev pub AsOften : List Ticket → List Ticket → Type 0
AsOften xs ys = (weight : Ticket → ℕ) → sum_by weight xs ≡ sum_by weight ys

abbrev pub ticket_of : {J S : Type 0} → ProcessState J S → Ticket
ticket_of p = p.ticket

-- `items` are inside, front first, and each of the deque's passes has one of the views
pub record IsDeque (items : List Ticket) (views : List RunView) : Type 0 where
  pub whole : sum_by (λ (v : RunView). v.parts) views ≡ all_parts
  pub as_often : (weight : Ticket → ℕ) → sum_by (λ (v : RunView). sum_by weight v.put) views ≡ sum_by (λ (v : RunView). sum_by weight v.taken) views + sum_by weight items
  -- a pass without parts has put and taken nothing
  pub idle : (id : ℕ) (v : RunView) → get_elem? views id ≡ some v → v.parts ≡ 0 → (v.put ≡ []) × (v.taken ≡ [])

abbrev pub view_of : ℕ → List Ticket → List Ticket → RunView
view_of parts put taken = record { parts = parts; put = put; taken = taken }

abbrev pub whole_view : RunView
whole_view = view_of all_parts [] []

abbrev pub blank_view : RunView
blank_view = view_of 0 [] []

abbrev pub thief_view : RunView
thief_view = view_of 1 [] []

abbrev pub kept_view : RunView → RunView
kept_view v = view_of (v.parts - 1) v.put v.taken

abbrev pub joined_view : RunView → RunView → RunView
joined_view v w = view_of (v.parts + w.parts) (v.put ++ w.put) (v.taken ++ w.taken)

abbrev pub Puts : RunView → List Ticket → RunView → Type 0
Puts v xs w = w ≡ view_of v.parts (v.put ++ xs) v.taken

abbrev pub Takes : RunView → List Ticket → RunView → Type 0
Takes v xs w = w ≡ view_of v.parts v.put (v.taken ++ xs)

-- who has all parts never takes more than was put
abbrev pub TakesLeft : RunView → List Ticket → RunView → Type 0
TakesLeft v xs w = Takes v xs w × (v.parts ≡ all_parts → length w.taken ≤ length w.put)

-- who has all parts knows how many are left
abbrev pub Counts : RunView → ℕ → Type 0
Counts v left = v.parts ≡ all_parts → length v.put ≡ length v.taken + left

-- who has all parts and finds nothing left knows that all was taken
abbrev pub IsEmptied : RunView → Type 0
IsEmptied v = v.parts ≡ all_parts → AsOften v.put v.taken
