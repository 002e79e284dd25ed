-- Numbers of rows.
use Rattle.std.specs.Prelude.{◌≡◌, ◌<◌, ◌+◌, ◌-◌, ◌==◌, ℕ, Bool, List, Some, None, cond, count_by, get_or}
use Rattle.otp_table.specs.declared.counts.ChildCounts.{ChildCounts}
use Rattle.otp_table.specs.declared.counts.TheConstants.{KINDS}
use Rattle.otp_table.specs.declared.row.Row.{Row}
use Rattle.otp_table.specs.declared.row.RowState.{RowState}
use Rattle.otp_table.specs.declared.row.RowState.TheVariants.{Undefined, Starting, Up, Asked, Killed, Restarting}
use Rattle.otp_table.specs.Rows.{is_left, is_supervisor, is_worker}

-- the kind of a state: one for each, but two for a child that was asked, without a deadline or with one (own)
abbrev pub kind_of : RowState → ℕ
kind_of Undefined = 0
kind_of (Starting _ _) = 1
kind_of (Up _) = 2
kind_of (Asked _ None) = 3
kind_of (Asked _ (Some _)) = 4
kind_of (Killed _) = 5
kind_of (Restarting _) = 6

-- the row's state is of this kind
abbrev pub is_of : ℕ → Row → Bool
is_of kind row = kind_of row.state == kind

-- so many rows are of each kind
abbrev pub AreOfKinds : List ℕ → List Row → Type 0
AreOfKinds by_kind rows = (kind : ℕ) → kind < KINDS → get_or by_kind kind 0 ≡ count_by (is_of kind) rows

-- these are the numbers of these rows
pub record AreCounted (counts : ChildCounts) (rows : List Row) : Type 0 where
  pub kinds : AreOfKinds counts.by_kind rows
  pub left : counts.left ≡ count_by is_left rows
  pub supervisors : counts.supervisors ≡ count_by is_supervisor rows
  pub workers : counts.workers ≡ count_by is_worker rows

-- one less of a kind, one more
abbrev pub HasOneLess : ℕ → List ℕ → List ℕ → Type 0
HasOneLess one old new = (kind : ℕ) → kind < KINDS → get_or new kind 0 ≡ get_or old kind 0 - cond (one == kind) 1 0

abbrev pub HasOneMore : ℕ → List ℕ → List ℕ → Type 0
HasOneMore one old new = (kind : ℕ) → kind < KINDS → get_or new kind 0 ≡ get_or old kind 0 + cond (one == kind) 1 0
