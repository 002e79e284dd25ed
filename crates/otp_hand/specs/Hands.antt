-- What contracts see of a hand. (own)
use Rattle.std.specs.Prelude.{◌≡◌, MatchOption, ℕ, Bool, true, false, List, [], ◌∷◌, ◌++◌, Option, Some, None}
use Rattle.otp_signals.specs.Counts.{Reading}
use Rattle.otp_inbox.specs.Tokens.{SenderState, TakerState}
use Rattle.otp_job.specs.Processes.{ProcessState}
use Rattle.otp_job.specs.declared.process.Ticket.{Ticket}
use Rattle.otp_reason.specs.declared.note.Note.{Note}
use Rattle.otp_rules.specs.declared.ending.SupEnd.{SupEnd}
use Rattle.otp_rules.specs.declared.event.Item.{Item}
use Rattle.otp_bodies.specs.declared.letter.Message.{Message}
use Rattle.otp_bodies.specs.Messages.{message}
use Rattle.otp_rules.specs.declared.event.Item.TheVariants as item
use Rattle.otp_run.specs.Schedulers.{SchedulerState}
use Rattle.otp_signals.specs.declared.view.Holding.{Holding}
use Rattle.otp_bodies.specs.Ports.{launched, told}
use Rattle.otp_bodies.specs.declared.port.Launched.{Launched}
use Rattle.otp_bodies.specs.declared.port.ToldNote.{ToldNote}
use Rattle.otp_hand.specs.declared.runner.Unsent.{Unsent}
use Rattle.otp_hand.specs.declared.waiting.resting.Rested.{Rested}

pub record HandView (J S : Type 0) : Type 0 where
  pub scheduler : SchedulerState
  pub senders : List (SenderState Message)
  -- the process that it has out, whose turn it is
  pub turning : Option (ProcessState J S)
  -- those that it has out and that wait until they are told something
  pub waiting : List (ProcessState J S)
  -- those of supervisors, which it has out too and which wait until something comes for them
  pub resting : List (Rested J S)
  -- the letter that was refused
  pub unsent : Option (Unsent J S)
  pub refusals : ℕ
  -- by which it reads the counts of each supervisor
  pub passes : List Reading

-- what contracts see of what a hand runs processes with
pub record RunnerView (J S : Type 0) : Type 0 where
  pub scheduler : SchedulerState
  pub turning : Option (ProcessState J S)
  pub waiting : List (ProcessState J S)
  pub resting : List (Rested J S)
  pub unsent : Option (Unsent J S)
  pub refusals : ℕ
  -- the words that its viewer loaded, each with its slot
  pub looks : List (ℕ × ℕ)

abbrev pub senders_of : {J S : Type 0} → HandView J S → List (SenderState Message)
senders_of h = h.senders

abbrev pub one_if : Bool → ℕ
one_if true = 1
one_if false = 0

-- a process that was put, as a port tells it
abbrev pub launched_of : Ticket → Launched
launched_of t = launched t.number t.slot t.id t.again true

-- the note that a letter brings, with the end that it tells
abbrev pub notes_in : Item → Option SupEnd → List ToldNote
notes_in (item.Note n) end = told n end ∷ []
notes_in (item.Call _ _) end = []

module _ {J S : Type 0} where
  -- the note that a hand still has to send
  abbrev pub unsent_notes : Option (Unsent J S) → List ToldNote
  unsent_notes (Some u) = notes_in u.letter.item u.letter.end
  unsent_notes None = []

  -- the notes that a hand took and that are still to go: while a supervisor has its turn it sends none
  abbrev pub notes_by : RunnerView J S → List ToldNote
  notes_by r = unsent_notes r.unsent

-- what contracts see of a client
pub record TreeClientView : Type 0 where
  pub owner : Holding
  pub senders : List (SenderState Message)
  -- what the first client takes the root's notes by
  pub waiter : Option (TakerState Message)

-- what contracts see of a tree: how many slots of signal words there are, and how many supervisors
pub record SystemView : Type 0 where
  pub slots : ℕ
  pub tables : ℕ

-- a note of the root came, with its end if it told that, and nothing else of the client changed
pub record HeardBy (note : Note) (w : TakerState Message) (old new : TreeClientView) : Type 0 where
  pub end : Option SupEnd
  pub took : new ≡ record old { waiter = Some (record w { taken = w.taken ++ message (item.Note note) end ∷ [] }) }

abbrev pub Heard : Note → TreeClientView → TreeClientView → Type 0
Heard note old new = MatchOption old.waiter ⊥ (λ w. HeardBy note w old new)
