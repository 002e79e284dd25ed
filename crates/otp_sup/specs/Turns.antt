-- What a turn of a table does.
use Rattle.otp_rules.specs.declared.ending.SupEnd.{SupEnd}
use Rattle.std.specs.Prelude.{◌≡◌, ◌⊎◌, ◌<◌, ℕ, ◌+◌, Bool, true, false, is_some, List, [], ◌∷◌, ◌++◌, Option, None, Result, Ok, length, MatchOption, MatchResult, OnOk}
use Rattle.std.specs.List.{list_any}
use Rattle.otp_rules.specs.declared.event.Item.{Item}
use Rattle.otp_rules.specs.declared.event.Kind.{Kind}
use Rattle.otp_rules.specs.declared.event.Kind.TheVariants as kind
use Rattle.otp_rules.specs.State.{is_over}
use Rattle.otp_rules.specs.declared.call.Reply.{Reply}
use Rattle.otp_core.specs.declared.reply.ReplyAnswer.{ReplyAnswer}
use Rattle.otp_core.specs.Replies.{IsReplyAnswer}
use Rattle.otp_rules.specs.Run.{reply_of}
use Rattle.otp_rules.specs.Next.{next_deadline}
use Rattle.otp_core.specs.View.{state_of, stored_of, stored_state}
use Rattle.otp_spec.specs.Supervisor.{Supervisor}
use Rattle.otp_rules.specs.Counts.{counts_of}
use Rattle.otp_signals.specs.Counts.{after_publish}
use Rattle.otp_signals.specs.declared.signal.Signal.{Signal}
use Rattle.otp_bodies.specs.declared.port.Launched.{Launched}
use Rattle.otp_bodies.specs.declared.port.ToldNote.{ToldNote}
use Rattle.otp_bodies.specs.declared.office.turns.TurnAnswer.{TurnAnswer}
use Rattle.otp_bodies.specs.declared.office.turns.TurnAnswer.TheVariants as answer
use Rattle.otp_bodies.specs.declared.office.turns.TurnFault.{TurnFault}
use Rattle.otp_bodies.specs.Ends.{told_with}
use Rattle.otp_bodies.specs.Letters.{Comes, carries_body, one_if}
use Rattle.otp_bodies.specs.Messages.{message}
use Rattle.otp_bodies.specs.declared.bodies.Kept.{Kept}
use Rattle.otp_sup.specs.Moves.{bodies_after}
use Rattle.otp_bodies.specs.Bodies.{bodies_in}
use Rattle.otp_sup.specs.Cuts.{CutWhereFull}
use Rattle.otp_bodies.specs.Cuts.{HasTooManyEvents}
use Rattle.otp_sup.specs.Facts.{KeepsRules, TableView}
use Rattle.otp_bodies.specs.Flushes.{SentOrders}
use Rattle.otp_bodies.specs.Ports.{Taken, carried, taken_by}
use Rattle.otp_sup.specs.Shares.{HasStarted, gave, one_turn}
use Rattle.otp_bodies.specs.Events.{Happened, IsRefusal, Readied, due_kind}
use Rattle.otp_bodies.specs.Answers.{answer_of, early_answer}

-- what count_children would answer after the event was published, once
abbrev pub Published : TableView → TableView → Type 0
Published old new = new.counts ≡ after_publish (counts_of (state_of new.office.core)) old.counts

-- what was asked of the inbox: the item that came is the event, or it was found empty
pub record Took (reading : ℕ) (old new : TableView) : Type 0 where
  pub item : Item
  -- the end that came with it, if one did
  pub end : Option SupEnd
  pub happened : Happened reading (kind.Took item) old.office new.office
  -- it was taken, and then a turn was credited
  pub taken : new.taker ≡ gave one_turn (record old.taker { taken = old.taker.taken ++ message item end ∷ [] })
  -- each body is where the event puts it
  pub bodies : new.bodies ≡ bodies_after (state_of old.office.core) (state_of new.office.core) (kind.Took item) old.bodies
  -- exactly the body that came with the item is more
  pub count : bodies_in new.bodies ≡ bodies_in old.bodies + one_if (carries_body item)
  pub counts : Published old new
  -- that end is the last that was told
  pub comes : Comes item end
  pub ends : new.ends_told ≡ old.ends_told ++ told_with (length (stored_of old.office.core)) item end

pub record FoundEmpty (old new : TableView) : Type 0 where
  pub office : Readied old.office new.office
  pub taker : new.taker ≡ gave one_turn (record old.taker { empty_finds = old.taker.empty_finds + 1 })
  pub bodies : new.bodies ≡ old.bodies
  pub counts : new.counts ≡ old.counts
  pub ends : new.ends_told ≡ old.ends_told

abbrev pub TookOrEmpty : ℕ → TableView → TableView → TurnAnswer → Type 0
TookOrEmpty reading old new answer.Took = Took reading old new
TookOrEmpty reading old new answer.Quiet = FoundEmpty old new × (is_over (state_of old.office.core).phase ≡ false)
TookOrEmpty reading old new answer.Ended = FoundEmpty old new × (is_over (state_of old.office.core).phase ≡ true)
TookOrEmpty reading old new answer.Opened = ⊥
TookOrEmpty reading old new answer.Ticked = ⊥
TookOrEmpty reading old new answer.Stopped = ⊥
TookOrEmpty reading old new answer.Resumed = ⊥
TookOrEmpty reading old new answer.Pending = ⊥
TookOrEmpty reading old new answer.Full = ⊥

pub record Did (reading : ℕ) (kind : Kind) (old new : TableView) (said : TurnAnswer) : Type 0 where
  pub answer : said ≡ answer_of kind
  pub happened : Happened reading kind old.office new.office
  pub taker : new.taker ≡ gave one_turn old.taker
  pub bodies : new.bodies ≡ bodies_after (state_of old.office.core) (state_of new.office.core) kind old.bodies
  pub count : bodies_in new.bodies ≡ bodies_in old.bodies
  pub counts : Published old new
  pub ends : new.ends_told ≡ old.ends_told

pub record Refused (old new : TableView) : Type 0 where
  pub office : Readied old.office new.office
  pub taker : new.taker ≡ old.taker
  pub bodies : new.bodies ≡ old.bodies
  pub counts : new.counts ≡ old.counts
  pub ends : new.ends_told ≡ old.ends_told

-- the first of the eleven cases that applies
abbrev pub Turned : ℕ → ℕ → Signal → TableView → TableView → Result TurnAnswer TurnFault → Type 0
Turned number reading told old new result =
    MatchOption (early_answer old.office number)
    (MatchResult result
    (λ said. MatchOption (due_kind (state_of old.office.core) number reading told) (TookOrEmpty reading old new said) (λ kind. Did reading kind old new said))
    (λ why. Refused old new × IsRefusal old.office why))
    (λ early. (result ≡ early) × (new ≡ old))

-- a table that kept the rules was of another inbox
pub record IsOfAnother (plans : ℕ → Option Supervisor) (inbox : ℕ) : Type 0 where
  pub table : TableView
  pub rules : KeepsRules plans table
  pub other : table.taker.inbox ≡ inbox → ⊥

-- a table of this inbox, which kept the rules, had such a turn
pub record TurnedUnder (plans : ℕ → Option Supervisor) (inbox number reading : ℕ) (told : Signal) (result : Result TurnAnswer TurnFault) : Type 0 where
  pub old : TableView
  pub new : TableView
  pub rules : KeepsRules plans old
  pub of_inbox : old.taker.inbox ≡ inbox
  pub turned : Turned number reading told old new result

-- a table that kept the rules has no order left to be sent, or the port refused one
pub record IsFlushed (plans : ℕ → Option Supervisor) (refusals later : ℕ) : Type 0 where
  pub table : TableView
  pub rules : KeepsRules plans table
  pub sent : (table.office.outbox ≡ []) ⊎ (refusals < later)

-- one table of this inbox, which kept the rules, had such a turn; then a checkpoint was made where that was Full; then its
-- first orders were sent, until none was left or the port refused: the port took exactly what those put and tell. What is
-- left under the lock keeps the rules
pub record LockedTurn (plans : ℕ → Option Supervisor) (inbox number reading : ℕ) (told : Signal) (result : Result TurnAnswer TurnFault) (before after : Taken) (refusals later : ℕ) : Type 0 where
  pub old : TableView
  pub turned : TableView
  pub new : TableView
  pub rules : KeepsRules plans old
  pub of_inbox : old.taker.inbox ≡ inbox
  pub turn : Turned number reading told old turned result
  -- where the core was full, a checkpoint was made
  pub cut : TableView
  pub was_cut : CutWhereFull result turned cut
  -- so the next turn under this number isn't Full: it does what is due, a stop too
  pub next : result ≡ Ok answer.Full → (early_answer new.office number ≡ None) ⊎ HasTooManyEvents new.office.core
  -- beyond the early answers nothing is done without a number for the next start
  pub quota : early_answer old.office number ≡ None → OnOk result (0 < old.office.owner.quota)
  pub sent : SentOrders cut.office new.office before after
  pub left : (new.office.outbox ≡ []) ⊎ (refusals < later)
  -- a start was credited for each process that the port took
  pub taker : new.taker ≡ record cut.taker { given = new.taker.given }
  pub started : HasStarted (length before.processes) (length after.processes) cut.taker.given new.taker.given
  pub counts : new.counts ≡ cut.counts
  pub ends : new.ends_told ≡ cut.ends_told
  -- each body that the table has no more went with a process that the port took
  pub count : bodies_in new.bodies + carried after.processes ≡ bodies_in cut.bodies + carried before.processes
  pub kept : KeepsRules plans new

-- what a turn under the lock did: one table of this inbox had it; or what is there is of another inbox, and the port took nothing
abbrev pub HadTurn : (ℕ → Option Supervisor) → ℕ → ℕ → ℕ → Signal → Result TurnAnswer TurnFault → List Launched → List ToldNote → ℕ → List Launched → List ToldNote → ℕ → Type 0
HadTurn plans inbox number reading told result processes notes refusals more_processes more_notes later =
    LockedTurn plans inbox number reading told result (taken_by processes notes) (taken_by more_processes more_notes) refusals later
    ⊎ ((result ≡ Ok answer.Pending) × IsOfAnother plans inbox × (taken_by more_processes more_notes ≡ taken_by processes notes))

-- this is what a table that keeps the rules knows of the answer to the call
pub record HasReply (plans : ℕ → Option Supervisor) (call : ℕ) (found : ReplyAnswer Reply) : Type 0 where
  pub table : TableView
  pub rules : KeepsRules plans table
  pub is : IsReplyAnswer (λ r. r) call table.office.core found

-- a table that keeps the rules has an answer to the call
pub record KeepsReply (plans : ℕ → Option Supervisor) (call : ℕ) : Type 0 where
  pub table : TableView
  pub rules : KeepsRules plans table
  pub kept : is_some (reply_of call (stored_state table.office.core).replies) ≡ true

-- this is the least deadline of the children of a table that keeps the rules
pub record HasDeadline (plans : ℕ → Option Supervisor) (found : Option ℕ) : Type 0 where
  pub table : TableView
  pub rules : KeepsRules plans table
  pub is : found ≡ next_deadline (state_of table.office.core).rows

-- a turn under this process number, at this reading, so told, has nothing to do but for an item of the inbox
pub record IsSettled (number reading : ℕ) (told : Signal) (t : TableView) : Type 0 where
  pub early : early_answer t.office number ≡ None
  pub due : due_kind (state_of t.office.core) number reading told ≡ None
  pub lives : is_over (state_of t.office.core).phase ≡ false

-- so it is with a table that keeps the rules, and this is the least deadline of its children
pub record MayRest (plans : ℕ → Option Supervisor) (number reading : ℕ) (told : Signal) (found : Option ℕ) : Type 0 where
  pub table : TableView
  pub rules : KeepsRules plans table
  pub settled : IsSettled number reading told table
  pub is : found ≡ next_deadline (state_of table.office.core).rows

-- a body was found exactly where a table that kept the rules had such a one
pub record HadBody (plans : ℕ → Option Supervisor) (test : Kept → Bool) (found : Bool) : Type 0 where
  pub table : TableView
  pub rules : KeepsRules plans table
  pub is : found ≡ list_any test table.bodies
