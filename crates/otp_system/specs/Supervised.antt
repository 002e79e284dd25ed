-- The turn that a hand gives to the process that it has out: which reading, which number and which signal that process gets. (own)
use Rattle.std.specs.Prelude.{◌≡◌, ◌⊎◌, ℕ, ◌<◌, Bool, true, false, List, Option, Some, Result, is_some, length, map, MatchOption}
use Rattle.otp_bodies.specs.declared.port.Launched.{Launched}
use Rattle.otp_bodies.specs.declared.port.ToldNote.{ToldNote}
use Rattle.otp_hand.specs.Begun.{NoneBegan}
use Rattle.otp_hand.specs.Hands.{HandView, RunnerView, launched_of, unsent_notes}
use Rattle.otp_hand.specs.Turns.{IsTold, WorkedAsTold}
use Rattle.otp_hand.specs.declared.runner.Unsent.{Unsent}
use Rattle.otp_job.specs.Places.{PlaceView}
use Rattle.otp_job.specs.Processes.{ProcessState, nested_table_of}
use Rattle.otp_job.specs.declared.job.Told.{Told}
use Rattle.otp_job.specs.declared.job.Turn.{Turn}
use Rattle.otp_job.specs.declared.process.Ticket.{Ticket}
use Rattle.otp_bodies.specs.declared.office.turns.TurnAnswer.{TurnAnswer}
use Rattle.otp_bodies.specs.declared.office.turns.TurnFault.{TurnFault}
use Rattle.otp_reason.specs.declared.note.Started.{Started}
use Rattle.otp_reason.specs.declared.reason.Reason.{Reason}
use Rattle.otp_signals.specs.declared.signal.Signal.{Signal}
use Rattle.otp_spec.specs.Supervisor.{Supervisor}
use Rattle.otp_sup.specs.Turns.{HadTurn}
use Rattle.otp_system.specs.Servings.{WentOrStayed, is_served}

-- the supervisor with this number was planned, the tree has its place, and the hand a sender to it
pub record MayServe (plans : ℕ → Option Supervisor) (table tables senders : ℕ) : Type 0 where
  pub planned : is_some (plans table) ≡ true
  pub there : table < tables
  pub reached : table < senders

-- this is what the word of its slot says for a process with this ticket, in some load of it
pub record WasTold (slots : ℕ) (ticket : Ticket) (told : Signal) : Type 0 where
  pub looks : List (ℕ × ℕ)
  pub more : List (ℕ × ℕ)
  pub looked : IsTold slots ticket told looks more

module _ {J S : Type 0} where
  -- the processes that the hand's runner took, and the notes that it is to send
  abbrev pub processes_of : HandView J S → List Launched
  processes_of h = map launched_of h.scheduler.own.puts

  abbrev pub notes_of : HandView J S → List ToldNote
  notes_of h = unsent_notes h.unsent

  -- a table of this inbox had a turn, under this process number, at this reading, told this; what it ordered went to the hand
  abbrev pub GaveTurn : (ℕ → Option Supervisor) → ℕ → ℕ → ℕ → Signal → Result TurnAnswer TurnFault → HandView J S → HandView J S → Type 0
  GaveTurn plans inbox number reading told result old new =
      HadTurn plans inbox number reading told result (processes_of old) (notes_of old) old.refusals (processes_of new) (notes_of new) new.refusals

  -- what the hand took of processes and notes stays, and what was refused to it
  pub record KeptAll (old new : HandView J S) : Type 0 where
    pub scheduler : new.scheduler ≡ old.scheduler
    pub unsent : new.unsent ≡ old.unsent
    pub refusals : new.refusals ≡ old.refusals

  pub record HadItsTurn (plans : ℕ → Option Supervisor) (table number reading : ℕ) (told : Signal) (served : Bool) (old new : HandView J S) : Type 0 where
    pub result : Result TurnAnswer TurnFault
    pub turn : GaveTurn plans table number reading told result old new
    pub is : served ≡ true → is_served result ≡ true

  -- it had one, where it may have one; and else nothing happened
  abbrev pub IsServed : (ℕ → Option Supervisor) → ℕ → ℕ → ℕ → ℕ → Signal → Bool → HandView J S → HandView J S → Type 0
  IsServed plans tables table number reading told served old new =
      HadItsTurn plans table number reading told served old new ⊎ ((MayServe plans table tables (length old.senders) → ⊥) × (served ≡ false) × (new ≡ old))

  -- the supervisor in the process with this ticket and number had its turn, told what the word of its slot says
  pub record IsSupervised (plans : ℕ → Option Supervisor) (slots tables reading : ℕ) (ticket : Ticket) (table number : ℕ) (served : Bool) (old new : HandView J S) : Type 0 where
    pub told : Signal
    pub looked : WasTold slots ticket told
    pub turn : IsServed plans tables table number reading told served old new

  -- the hand's runner, once its viewer has loaded these words
  abbrev pub runner_in : HandView J S → List (ℕ × ℕ) → RunnerView J S
  runner_in h looks = record { scheduler = h.scheduler; turning = h.turning; waiting = h.waiting; resting = h.resting; unsent = h.unsent; refusals = h.refusals; looks = looks }

  -- the worker or the bridge had its turn, and what it told its supervisor was sent, or is kept
  pub record IsWorked (started : J → PlaceView → Started → J → Type 0) (inited : S → Started → S → Type 0) (traps : J → Bool) (turned : J → Told → Turn → J → Type 0) (polled : S → Option Reason → S → Type 0) (terminated : S → Reason → S → Type 0)
      (slots tables reading : ℕ) (p : ProcessState J S) (old new : HandView J S) : Type 0 where
    pub looks : List (ℕ × ℕ)
    pub more : List (ℕ × ℕ)
    -- what it told
    pub told : Option (Unsent J S)
    pub turn : WorkedAsTold started inited traps turned polled terminated slots reading p (runner_in old looks) (record (runner_in new more) { unsent = told })
    pub sent : Bool
    pub letter : WentOrStayed sent tables told old.senders new.senders new.unsent

  -- what the turn at this reading did, of the process that was out: a supervisor's is under the number of its process
  abbrev pub HadTurnOut : (J → PlaceView → Started → J → Type 0) → (S → Started → S → Type 0) → (J → Bool) → (J → Told → Turn → J → Type 0) → (S → Option Reason → S → Type 0) → (S → Reason → S → Type 0)
      → (ℕ → Option Supervisor) → ℕ → ℕ → ℕ → ProcessState J S → Bool → HandView J S → HandView J S → Type 0
  HadTurnOut started inited traps turned polled terminated plans slots tables reading p served old new =
      MatchOption (nested_table_of p.body)
      (IsWorked started inited traps turned polled terminated slots tables reading p old new)
      (λ table. IsSupervised plans slots tables reading p.ticket table p.ticket.number served old new)

  -- a process was out, and had such a turn; no process began in the hand before it and after it
  pub record TookTurn (started : J → PlaceView → Started → J → Type 0) (inited : S → Started → S → Type 0) (traps : J → Bool) (turned : J → Told → Turn → J → Type 0) (polled : S → Option Reason → S → Type 0) (terminated : S → Reason → S → Type 0)
      (plans : ℕ → Option Supervisor) (slots tables reading : ℕ) (served : Bool) (old new : HandView J S) : Type 0 where
    pub before : HandView J S
    pub after : HandView J S
    pub out : ProcessState J S
    pub is_out : before.turning ≡ Some out
    pub had : HadTurnOut started inited traps turned polled terminated plans slots tables reading out served before after
    pub until : NoneBegan old.scheduler before.scheduler
    pub since : NoneBegan after.scheduler new.scheduler

  -- no process was found, or a letter is still to be sent: none had a turn
  pub record FoundNone (served : Bool) (old new : HandView J S) : Type 0 where
    pub none : served ≡ false
    pub begun : NoneBegan old.scheduler new.scheduler

  -- what a turn of a hand at this reading did
  abbrev pub IsTurned : (J → PlaceView → Started → J → Type 0) → (S → Started → S → Type 0) → (J → Bool) → (J → Told → Turn → J → Type 0) → (S → Option Reason → S → Type 0) → (S → Reason → S → Type 0)
      → (ℕ → Option Supervisor) → ℕ → ℕ → ℕ → Bool → HandView J S → HandView J S → Type 0
  IsTurned started inited traps turned polled terminated plans slots tables reading served old new =
      TookTurn started inited traps turned polled terminated plans slots tables reading served old new ⊎ FoundNone served old new
