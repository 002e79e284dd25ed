-- What a table stands for, and what it keeps.
use Rattle.std.specs.Prelude.{◌≡◌, ◌==◌, ⊤, Bool, ◌∷◌, ℕ, ◌+◌, ◌<◌, ◌≤◌, true, false, ◌||◌, List, [], Option, length, All, Contains}
use Rattle.std.specs.List.{list_any}
use Rattle.otp_bodies.specs.declared.letter.Message.{Message}
use Rattle.otp_rules.specs.Counts.{counts_of}
use Rattle.otp_rules.specs.Alive.{LivesIn}
use Rattle.otp_rules.specs.Homes.{is_ended, is_home}
use Rattle.otp_rules.specs.State.{State}
use Rattle.otp_table.specs.declared.row.Row.{Row}
use Rattle.otp_table.specs.declared.row.RowState.{RowState}
use Rattle.otp_table.specs.Rows.{has_process, has_slot}
use Rattle.otp_core.specs.View.{state_of, stored_of}
use Rattle.otp_signals.specs.Counts.{EndsWith, Publishing}
use Rattle.otp_inbox.specs.Tokens.{TakerState}
use Rattle.otp_rules.specs.Waits.{starts_waiting}
use Rattle.otp_spec.specs.Supervisor.{Supervisor}
use Rattle.otp_bodies.specs.declared.bodies.Kept.{Kept}
use Rattle.otp_bodies.specs.Bodies.{are_given, calls_waiting, count_away, count_given, count_home, has_body, is_own, count_opened}
use Rattle.otp_bodies.specs.Orders.{starts_in}
use Rattle.otp_bodies.specs.declared.told.ToldEnd.{ToldEnd}
use Rattle.otp_bodies.specs.Ends.{AreTold}
use Rattle.otp_bodies.specs.Messages.{items_in}
use Rattle.otp_sup.specs.Told.{ends_told_in}
use Rattle.otp_bodies.specs.Events.{items_of}
use Rattle.otp_bodies.specs.Offices.{KeepsOffice, OfficeView, starts_sent}
use Rattle.otp_sup.specs.Plans.{IsBegunBy}
use Rattle.otp_sup.specs.Published.{AreCounted, counts_along}

-- what contracts see of a table
pub record TableView : Type 0 where
  pub office : OfficeView
  pub taker : TakerState Message
  -- whose each of its bodies is, and where
  pub bodies : List Kept
  -- its counts as they were published
  pub counts : Publishing
  -- the ends of supervisors that it was told, in their order
  pub ends_told : List ToldEnd

-- a child has this process, and no note of the process's end waits
pub record IsRunning (s : State) (p : ℕ) (row : Row) : Type 0 where
  pub among : Contains s.rows row
  pub has : has_process p row.state ≡ true
  pub lives : list_any (is_ended p) s.waiting ≡ false

-- one order at most starts a child: it has the process that is to be started
abbrev pub AreToStart : State → List ℕ → Type 0
AreToStart s [] = ⊤
AreToStart s (p ∷ []) = (row : Row) × IsRunning s p row
AreToStart s (p ∷ q ∷ ps) = ⊥

-- the start of this child is still to be sent
abbrev pub is_unsent : List ℕ → RowState → Bool
is_unsent starts state = list_any (λ p. has_process p state) starts

-- the start of this process is still to be sent
abbrev pub is_to_start : ℕ → List ℕ → Bool
is_to_start p starts = list_any (λ q. q == p) starts

-- a child in this slot has a process whose start was sent, and no note of whose end waits
pub record IsOut (s : State) (starts : List ℕ) (slot : ℕ) : Type 0 where
  pub row : Row
  pub p : ℕ
  pub runs : IsRunning s p row
  pub same : row.slot ≡ slot
  pub sent : is_unsent starts row.state ≡ false

-- where the bodies of a supervisor's children are, by its state and the starts that are still to be sent
pub record KeepsBodies (s : State) (starts : List ℕ) (kept : List Kept) : Type 0 where
  -- a child that is undefined or restarting has its body at home, and so has one whose process's end was taken and waits
  pub home : (row : Row) → Contains s.rows row → is_home s.waiting row.state ≡ true → has_body row.slot kept ≡ true
  -- one whose start is still to be sent has its body, which goes with that order
  pub unsent : (row : Row) → Contains s.rows row → is_unsent starts row.state ≡ true → has_body row.slot kept ≡ true
  pub one_start : AreToStart s starts
  -- a body that is away is with a child's process, whose start was sent, and no note of whose end waits
  pub away : (slot : ℕ) → 0 < count_away slot kept → IsOut s starts slot
  -- the body of each child whose process runs is away with it: its start was sent, and no Exit of it waits
  pub out : (slot p : ℕ) → LivesIn s slot p → is_to_start p starts ≡ false → 0 < count_away slot kept
  -- a body at home is that of a child that there is
  pub there : (slot : ℕ) → has_body slot kept ≡ true → list_any (has_slot slot) s.rows ≡ true
  -- no child has two bodies, at home and away together
  pub one_body : (slot : ℕ) → count_home slot kept + count_away slot kept ≤ 1
  -- for each child of an opening a body was handed in, and is kept
  pub given : are_given (count_opened s.flags s.specs) kept ≡ true
  -- of no specification two bodies are kept
  pub one_given : (k : ℕ) → count_given k kept ≤ 1
  -- a specification's body is no other child's than that in the slot of its place, at home or away; and no body waits with a call but
  -- one that a call brought
  pub own : All (λ (b : Kept). is_own b ≡ true) kept

-- a child has one body. It is at home where the child has no process, where a note of its process's end was taken and waits,
-- and where its start is still to be sent; else it is away with the process
pub record HasOneBody (s : State) (starts : List ℕ) (kept : List Kept) (row : Row) : Type 0 where
  pub one : count_home row.slot kept + count_away row.slot kept ≡ 1
  pub home : has_body row.slot kept ≡ (is_home s.waiting row.state || is_unsent starts row.state)

-- each child of an office has its body, by its state and its orders
abbrev pub HasBodies : OfficeView → List Kept → Type 0
HasBodies o kept = KeepsBodies (state_of o.core) (starts_in o.outbox) kept

-- each child has one body
abbrev pub HaveOneBody : OfficeView → List Kept → Type 0
HaveOneBody o kept = (row : Row) → Contains (state_of o.core).rows row → HasOneBody (state_of o.core) (starts_in o.outbox) kept row

-- of the plans that all supervisors have, by the numbers of their inboxes
pub record IsTable (plans : ℕ → Option Supervisor) (t : TableView) : Type 0 where
  -- its history begins with the supervisor of its plan, never opened
  pub plan : IsBegunBy (plans t.taker.inbox) t.office.core.base
  pub taken : items_in t.taker.taken ≡ items_of t.office.core.history
  -- each start call that waits has its body with it, in their order
  pub calls : calls_waiting t.bodies ≡ starts_waiting (state_of t.office.core).waiting
  pub bodies : HasBodies t.office t.bodies
  -- what it counted was published at first and after each event
  pub counts : AreCounted (plans t.taker.inbox) (counts_along t.office.core.base t.office.core.history) t.counts.published
  pub told : AreTold (stored_of t.office.core) t.ends_told
  -- they are those that came with what it took since the last checkpoint, and no other
  pub ends : t.ends_told ≡ ends_told_in t.office.core t.taker.taken
  -- it gave senders a share for each start that it sent
  pub starts : t.taker.given.starts ≡ length (starts_sent t.office)
  -- it gave them one for each event, and for each time that it found its inbox empty
  pub turns : t.taker.given.turns ≡ length t.office.core.history + t.taker.empty_finds

-- what holds whenever the lock is free, where the supervisors have these plans by the numbers of their inboxes
pub record KeepsRules (plans : ℕ → Option Supervisor) (t : TableView) : Type 0 where
  -- its history begins with the supervisor of its plan, never opened: the flags and the specifications are that plan's. One that
  -- got its plan later began as some supervisor that was never opened (the office says so)
  pub plan : IsBegunBy (plans t.taker.inbox) t.office.core.base
  pub office : KeepsOffice t.office
  -- the items taken from the inbox are those of the history, each once and in order
  pub taken : items_in t.taker.taken ≡ items_of t.office.core.history
  -- each start call that waits has its body with it, in their order
  pub calls : calls_waiting t.bodies ≡ starts_waiting (state_of t.office.core).waiting
  -- each body is where its child is: at home, with the start that is to be sent, or with the process
  pub bodies : HasBodies t.office t.bodies
  -- so each child has one body, and that is at home exactly where neither its process nor the note of that one's end has it
  pub each_body : HaveOneBody t.office t.bodies
  -- the counts that were published last are those of its children (count_children)
  pub counts : EndsWith (counts_of (state_of t.office.core)) t.counts.published
  -- all that were published are those before its first event and after each one, in their order, each once; of one that got its
  -- plan later they come behind what its place counted before
  pub published : AreCounted (plans t.taker.inbox) (counts_along t.office.core.base t.office.core.history) t.counts.published
  -- the ends that it was told came with notes of its history: each is for the note's reason, and shown
  pub told : AreTold (stored_of t.office.core) t.ends_told
  -- they are the ends that came with what it took from its inbox since the last checkpoint, and no other
  pub ends : t.ends_told ≡ ends_told_in t.office.core t.taker.taken
  -- it gave senders a share for each start that it sent
  pub starts : t.taker.given.starts ≡ length (starts_sent t.office)
  -- it gave them one for each event, and for each time that it found its inbox empty
  pub turns : t.taker.given.turns ≡ length t.office.core.history + t.taker.empty_finds

-- what contracts see of a supervisor that is out of its lock
pub record UnlockedView : Type 0 where
  pub inbox : ℕ
  pub table : TableView
