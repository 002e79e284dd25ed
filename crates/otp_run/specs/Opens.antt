-- A run queue that was just opened. (own)
use Rattle.std.specs.Prelude.{◌≡◌, ℕ, ◌+◌, ◌-◌, ◌≤◌, ◌<◌, List, [], map, min}
use Rattle.crossbeam_deque.specs.Handles.{worker_flavor, worker_view}
use Rattle.crossbeam_deque.specs.declared.handles.Worker.{Worker}
use Rattle.otp_run.specs.declared.rule.RunView.{RunView}
use Rattle.otp_run.specs.Rule.{whole_view, all_parts}
use Rattle.otp_run.specs.Deques.{VictimState, fresh_victim}
use Rattle.otp_run.specs.Schedulers.{SchedulerState, order_of}

-- a scheduler that has done nothing
abbrev pub unused : ℕ → ℕ → List VictimState → SchedulerState
unused index parts others = record {
  own = record { index = index; parts = parts; puts = []; taken = []; misses = 0 };
  others = others;
  count = 0;
  begun = 0;
  ended = 0;
  empty_finds = 0;
}

-- one of so many schedulers at the opening: each other has a part of its deque, and it has a way into each other's
abbrev pub opened : ℕ → ℕ → SchedulerState
opened count index = record (unused index (all_parts + 1 - count) (map fresh_victim (order_of index count))) { count = count }

-- the worker of a deque into which nothing was put
abbrev pub IsFresh : {T A P : Type 0} → Worker T A RunView P → Type 0
IsFresh w = (worker_flavor w ≡ 0) × (worker_view w ≡ whole_view)

-- while ways are shared out: those before the thief have theirs, and each has lent so many parts beside those to them
pub record HasLent (count thief : ℕ) (lent : ℕ → ℕ) (index : ℕ) (s : SchedulerState) : Type 0 where
  pub parts : ℕ
  pub others : List VictimState
  pub is : s ≡ unused index parts others
  pub left : parts + thief + lent index ≡ all_parts + min 1 (thief - index)
  pub ways : index < thief → others ≡ map fresh_victim (order_of index count)

-- to the thief: nothing yet; those above it have lent one part; those below it too
abbrev pub none_yet : ℕ → ℕ
none_yet k = 0

abbrev pub from_above : ℕ → ℕ → ℕ
from_above thief k = min 1 (k - thief)

abbrev pub from_all : ℕ → ℕ → ℕ
from_all thief k = min 1 (k - thief) + min 1 (thief - k)

-- the first so many know how many there are; only the loop that tells them speaks of it, as its invariant
abbrev pub CompleteUpTo : ℕ → ℕ → ℕ → SchedulerState → Type 0
CompleteUpTo count done index s = (index < done → s ≡ opened count index) × (done ≤ index → HasLent count count none_yet index s)
