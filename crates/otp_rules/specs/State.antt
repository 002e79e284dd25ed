-- A supervisor between two events, and small changes of it.
use Rattle.std.specs.Prelude.{ℕ, Bool, true, false, List, [], ◌∷◌, ◌++◌, Option, None, is_some}
use Rattle.otp_spec.specs.declared.flags.SupFlags.{SupFlags}
use Rattle.otp_spec.specs.declared.child.ChildSpec.{ChildSpec}
use Rattle.otp_table.specs.declared.row.Row.{Row}
use Rattle.otp_rules.specs.declared.call.Answered.{Answered}
use Rattle.otp_rules.specs.declared.call.Reply.{Reply}
use Rattle.otp_rules.specs.declared.ending.SupEnd.{SupEnd}
use Rattle.otp_rules.specs.declared.event.Waiting.{Waiting}
use Rattle.otp_rules.specs.declared.event.Effect.{Effect}
use Rattle.otp_rules.specs.declared.event.Effect.TheVariants as effect
use Rattle.otp_rules.specs.declared.work.Due.{Due}
use Rattle.otp_rules.specs.declared.work.Sequel.{Sequel}
use Rattle.otp_rules.specs.declared.work.Phase.{Phase}
use Rattle.otp_rules.specs.declared.work.Phase.TheVariants.{Unopened, Open, Ended}

-- a supervisor between two events
pub record State : Type 0 where
  pub flags : SupFlags
  -- the specifications given; under simple_one_for_one the one that all children share
  pub specs : List ChildSpec
  -- the children in start order
  pub rows : List Row
  -- the times of all restarts since the last opening, in milliseconds
  pub stamps : List ℕ
  -- the process numbers of the children still to be stopped, in reverse start order
  pub to_stop : List ℕ
  -- the children still to be started, in start order
  pub to_start : List Due
  -- what follows the open work, if there is open work
  pub follows : Option Sequel
  -- what waits until no work is open
  pub waiting : List Waiting
  -- the answers to calls, in the order in which they were given
  pub replies : List Answered
  -- the end of each opening that ended, under the supervisor's own number, in their order
  pub ends : List (ℕ × SupEnd)
  -- the stamp of the last event, in milliseconds
  pub last : ℕ
  pub phase : Phase

-- a state, and the orders given on the way to it
pub record Outcome : Type 0 where
  pub state : State
  pub orders : List Effect

-- work is open
abbrev pub is_busy : Outcome → Bool
is_busy o = is_some o.state.follows

-- the supervisor was never opened, or has ended
abbrev pub is_over : Phase → Bool
is_over (Open _) = false
is_over _ = true

-- the supervisor's own process number
abbrev pub own_number : Phase → ℕ
own_number Unopened = 0
own_number (Open own) = own
own_number (Ended own _) = own

abbrev pub emit : Effect → Outcome → Outcome
emit e o = record o { orders = o.orders ++ e ∷ [] }

abbrev pub with_rows : List Row → Outcome → Outcome
with_rows rows o = record o { state = record o.state { rows = rows } }

abbrev pub with_waiting : List Waiting → Outcome → Outcome
with_waiting items o = record o { state = record o.state { waiting = items } }

abbrev pub with_stamps : List ℕ → Outcome → Outcome
with_stamps stamps o = record o { state = record o.state { stamps = stamps } }

abbrev pub with_phase : Phase → Outcome → Outcome
with_phase phase o = record o { state = record o.state { phase = phase } }

-- the children still to stop and to start, and what follows
abbrev pub with_work : List ℕ → List Due → Option Sequel → Outcome → Outcome
with_work to_stop to_start follows o =
    record o { state = record o.state { to_stop = to_stop; to_start = to_start; follows = follows } }

abbrev pub with_end : ℕ → SupEnd → Outcome → Outcome
with_end own end o = record o { state = record o.state { ends = o.state.ends ++ (own, end) ∷ [] } }

-- no work is open
abbrev pub closed : Outcome → Outcome
closed o = with_work [] [] None o

-- the item waits until no work is open
abbrev pub put_last : Waiting → Outcome → Outcome
put_last item o = with_waiting (o.state.waiting ++ item ∷ []) o

-- the call with this number is answered
unfoldable pub answer : ℕ → Reply → Outcome → Outcome
answer call reply o =
    record {
      state = record o.state { replies = o.state.replies ++ record { call = call; reply = reply } ∷ [] };
      orders = o.orders ++ effect.Reply call ∷ [];
    }
