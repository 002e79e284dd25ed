-- What a turn of a hand does with the process that it has out. (own)
use Rattle.std.specs.Prelude.{◌≡◌, ◌⊎◌, ◌≢◌, ℕ, ◌-◌, ◌^◌, ◌<◌, ◌≤◌, Bool, List, [], ◌∷◌, ◌++◌, Option, Some, None, MatchOption}
use Rattle.otp_job.specs.Places.{PlaceView}
use Rattle.otp_job.specs.Processes.{IsRunnable, ProcessState, nested_table_of}
use Rattle.otp_job.specs.Turns.{FirstTurn, LaterTurn}
use Rattle.otp_job.specs.declared.body.Body.{Body}
use Rattle.otp_job.specs.declared.job.Told.{Told}
use Rattle.otp_job.specs.declared.job.Turn.{Turn}
use Rattle.otp_job.specs.declared.process.ProcessPhase.TheVariants.{Fresh}
use Rattle.otp_job.specs.declared.process.Ticket.{Ticket}
use Rattle.otp_job.specs.declared.turn.After.{After}
use Rattle.otp_job.specs.declared.turn.After.TheVariants as after
use Rattle.otp_reason.specs.declared.note.Note.{Note}
use Rattle.otp_reason.specs.declared.reason.Reason.{Reason}
use Rattle.otp_reason.specs.declared.note.Started.{Started}
use Rattle.otp_rules.specs.declared.event.Item.TheVariants as item
use Rattle.otp_run.specs.declared.scheduler.TheConstants.{SHARE_LIMIT}
use Rattle.otp_signals.specs.Signals.{Looked}
use Rattle.otp_hand.specs.declared.waiting.resting.Rested.{Rested}
use Rattle.otp_signals.specs.declared.signal.Signal.{Signal}
use Rattle.otp_signals.specs.declared.signal.Signal.TheVariants as signal
use Rattle.otp_hand.specs.Hands.{RunnerView}
use Rattle.otp_hand.specs.declared.runner.Unsent.{Unsent}

-- the number of a supervisor, and one that none has where there is none
abbrev pub own_table : Option ℕ → ℕ
own_table (Some table) = table
own_table None = 2 ^ 64 - 1

-- a supervisor, and the number of the process in which it runs
abbrev pub nested_as : ℕ → Option ℕ → Option (ℕ × ℕ)
nested_as number (Some table) = Some (table, number)
nested_as number None = None

-- what a process with this ticket is told: what its slot's word says for its number; nothing where it has no slot
pub record IsTold (slots : ℕ) (ticket : Ticket) (told : Signal) (old new : List (ℕ × ℕ)) : Type 0 where
  pub looked : ticket.slot < slots → Looked old new ticket.slot ticket.number told
  pub none : slots ≤ ticket.slot → (told ≡ signal.None) × (new ≡ old)

module _ {J S : Type 0} where
  -- the number of the supervisor that runs in the process that is out: the processes which it starts belong to that one, and
  -- tell it their notes
  abbrev pub table_nested : Option (ProcessState J S) → ℕ
  table_nested (Some p) = own_table (nested_table_of p.body)
  table_nested None = own_table None

  -- the number of the supervisor to which the process that is out belongs
  abbrev pub table_above : Option (ProcessState J S) → ℕ
  table_above (Some p) = p.ticket.table
  table_above None = own_table None

  -- the supervisor that runs in the process that is out, and that process's number
  abbrev pub nested_by : Option (ProcessState J S) → Option (ℕ × ℕ)
  nested_by (Some p) = nested_as p.ticket.number (nested_table_of p.body)
  nested_by None = None

  -- the letter in which a process tells its supervisor a note, with the body that goes home
  abbrev pub unsent_by : Ticket → Note → Option (Body J S) → Unsent J S
  unsent_by ticket note body = record {
    ticket = ticket;
    letter = record { item = item.Note note; body = body; end = None };
    note = note;
  }

  -- after a turn the process goes on, or waits (unless it was woken meanwhile, or memory is refused), or has ended; what it
  -- tells is to be sent to the supervisor to which it belongs
  abbrev pub IsAfter : Ticket → After J S → RunnerView J S → RunnerView J S → Type 0
  IsAfter ticket (after.Again p) old new = (new.turning ≡ Some p) × (new.waiting ≡ old.waiting) × (new.unsent ≡ None)
  IsAfter ticket (after.Waits p) old new = MatchOption new.turning (new.waiting ≡ old.waiting ++ p ∷ []) (λ q. (q ≡ p) × (new.waiting ≡ old.waiting)) × (new.unsent ≡ None)
  IsAfter ticket (after.Begun p note) old new = (new.turning ≡ Some p) × (new.waiting ≡ old.waiting) × (new.unsent ≡ Some (unsent_by ticket note None))
  IsAfter ticket (after.Done end spent) old new = (new.turning ≡ None) × (new.waiting ≡ old.waiting) × (new.unsent ≡ Some (unsent_by ticket end.note (Some end.body)))

  -- the supervisor's process waits from now on, with what it waits for; or memory was refused, and it is still out
  abbrev pub Rests : Rested J S → RunnerView J S → RunnerView J S → Type 0
  Rests r old new = MatchOption new.turning (new.resting ≡ old.resting ++ r ∷ []) (λ p. (p ≡ r.process) × (new.resting ≡ old.resting))

  -- a worker or a bridge has a turn, unless the hand has counted as many ends as it can
  pub record MayWork (p : ProcessState J S) (r : RunnerView J S) : Type 0 where
    pub runs : IsRunnable p.body
    pub room : r.scheduler.ended < SHARE_LIMIT

  -- the process had one turn, at this reading of the clock, in which it was told this, and what is there now is what that left
  pub record HadOneTurn (started : J → PlaceView → Started → J → Type 0) (inited : S → Started → S → Type 0) (traps : J → Bool) (turned : J → Told → Turn → J → Type 0) (polled : S → Option Reason → S → Type 0) (terminated : S → Reason → S → Type 0)
      (told : Signal) (reading : ℕ) (p : ProcessState J S) (old new : RunnerView J S) : Type 0 where
    pub after : After J S
    pub first : p.phase ≡ Fresh → FirstTurn started inited p.ticket reading p.body after
    pub later : p.phase ≢ Fresh → LaterTurn traps turned polled terminated p.ticket p.phase told p.body after
    pub gives : IsAfter p.ticket after old new

  -- it had one, where it may have one; and else it is still out
  abbrev pub Worked : (J → PlaceView → Started → J → Type 0) → (S → Started → S → Type 0) → (J → Bool) → (J → Told → Turn → J → Type 0) → (S → Option Reason → S → Type 0) → (S → Reason → S → Type 0) → Signal → ℕ → ProcessState J S → RunnerView J S → RunnerView J S → Type 0
  Worked started inited traps turned polled terminated told reading p old new =
      HadOneTurn started inited traps turned polled terminated told reading p old new ⊎ ((MayWork p old → ⊥) × (new.turning ≡ Some p) × (new.unsent ≡ None))

  -- the same, told what its supervisor posted for it
  pub record WorkedAsTold (started : J → PlaceView → Started → J → Type 0) (inited : S → Started → S → Type 0) (traps : J → Bool) (turned : J → Told → Turn → J → Type 0) (polled : S → Option Reason → S → Type 0) (terminated : S → Reason → S → Type 0)
      (slots reading : ℕ) (p : ProcessState J S) (old new : RunnerView J S) : Type 0 where
    pub told : Signal
    pub mid : RunnerView J S
    pub looked : IsTold slots p.ticket told old.looks mid.looks
    pub turn : Worked started inited traps turned polled terminated told reading p mid new
