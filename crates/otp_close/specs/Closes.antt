-- When all parts of a tree are there, and what it leaves. (own)
use Rattle.otp_core.specs.View.{stored_of}
use Rattle.std.specs.Prelude.{◌≡◌, ℕ, ◌+◌, ◌<◌, ◌≤◌, ⊤, List, ◌∷◌, Option, Some, None, Result, Ok, Err, MatchOption, All, AllPairs, is_some, length, map, true}
use Rattle.otp_inbox.specs.Tokens.{SenderState, all_parts}
use Rattle.otp_bodies.specs.declared.letter.Message.{Message}
use Rattle.otp_rules.specs.Needs.{numbers_of}
use Rattle.otp_run.specs.Gathers.{IsAll}
use Rattle.otp_run.specs.Lists.{AllAt}
use Rattle.otp_signals.specs.Lists.{NoneInBoth}
use Rattle.otp_spec.specs.Supervisor.{Supervisor}
use Rattle.otp_sup.specs.Plans.{IsBegunBy}
use Rattle.otp_bodies.specs.Ends.{AreTold}
use Rattle.otp_bodies.specs.Offices.{Begins}
use Rattle.otp_close.specs.declared.closing.CloseFault.{CloseFault}
use Rattle.otp_close.specs.declared.closing.CloseFault.TheVariants as fault
use Rattle.otp_close.specs.declared.closing.Refusal.{Refusal}
use Rattle.otp_close.specs.declared.closing.Refusal.TheVariants as refusal
use Rattle.otp_close.specs.declared.closing.Intact.{Intact}
use Rattle.otp_close.specs.declared.report.report.Report.{Report}
use Rattle.otp_close.specs.declared.report.report.TableReport.{TableReport}
use Rattle.otp_close.specs.Totals.{HasAllStarts, HasAllEnds}
use Rattle.otp_hand.specs.Hands.{HandView, TreeClientView, SystemView, senders_of}
use Rattle.otp_close.specs.Leavings.{HasUnsent}
use Rattle.otp_close.specs.Partings.{schedulers_of}
use Rattle.otp_hand.specs.Sendings.{parts_to}
use Rattle.otp_close.specs.Tellings.{AreSo, IsMismatch}

-- the senders of the client and of each hand
abbrev pub all_senders : {J S : Type 0} → TreeClientView → List (HandView J S) → List (List (SenderState Message))
all_senders client hands = client.senders ∷ map senders_of hands

-- the client is the one that a tree of so many supervisors was opened with, and all senders together have the whole right
-- to send to each of them, and to whoever opened the tree
pub record IsReached (tables : ℕ) (client : TreeClientView) (all : List (List (SenderState Message))) : Type 0 where
  pub waits : MatchOption client.waiter ⊥ (λ w. w.inbox ≡ tables)
  pub reach : length client.senders ≡ tables + 1
  pub whole : (place : ℕ) → place < length client.senders → parts_to place all ≡ all_parts
  -- none of these senders reaches further
  pub as_far : AllAt (λ _ senders. length senders ≡ tables + 1) all

-- all parts of a tree are there
abbrev pub IsComplete : {J S : Type 0} → SystemView → List (HandView J S) → TreeClientView → Type 0
IsComplete shared hands client = IsAll (schedulers_of hands) × IsReached shared.tables client (all_senders client hands)

-- each core began as a supervisor that was never opened
abbrev pub HasBegun : TableReport → Type 0
HasBegun t = Begins t.core.base

-- each core began as the supervisor that these plans have under its number, which was never opened: with the flags and the
-- specifications of that plan. Of one that was added later they have none
abbrev pub HaveBegun : (ℕ → Option Supervisor) → List TableReport → Type 0
HaveBegun plans tables = AllAt (λ k (t : TableReport). IsBegunBy (plans k) t.core.base) tables

-- none of so many places from this one on had a plan when the tree got its name
abbrev pub IsFreeFrom : (ℕ → Option Supervisor) → ℕ → ℕ → Type 0
IsFreeFrom plans places from = (k : ℕ) → from ≤ k → k < places → plans k ≡ None

-- of so many places so many have a supervisor: each that had a plan when the tree got its name has
pub record HasTables (plans : ℕ → Option Supervisor) (places tables : ℕ) : Type 0 where
  pub few : tables ≤ places
  pub planned : (k : ℕ) → k < places → is_some (plans k) ≡ true → k < tables

-- each end of another supervisor that the history was told is for the note's reason, and shown
abbrev pub HasTold : TableReport → Type 0
HasTold t = AreTold (stored_of t.core) t.ends_told.items

-- no process number is in the histories of two of these supervisors
abbrev pub AreApart : List TableReport → Type 0
AreApart tables = AllPairs (λ one other. NoneInBoth (numbers_of one.core.history) (numbers_of other.core.history)) tables

module _ {J S K : Type 0} where
  -- the report, which is there too where a mismatch was found
  abbrev pub report_in : Result (Report J S) (CloseFault J S K) → Option (Report J S)
  report_in (Ok report) = Some report
  report_in (Err (fault.OutOfMemory k)) = None
  report_in (Err (fault.Missing k)) = None
  report_in (Err (fault.Misplaced k d)) = None
  report_in (Err (fault.Mismatch m report)) = Some report

  -- what comes back where nothing was taken apart
  abbrev pub kept_in : CloseFault J S K → Option K
  kept_in (fault.OutOfMemory k) = Some k
  kept_in (fault.Missing k) = Some k
  kept_in (fault.Misplaced k d) = Some k
  kept_in (fault.Mismatch m report) = None

  -- a part is said to be missing only where one is
  abbrev pub IsMissingOnly : Type 0 → CloseFault J S K → Type 0
  IsMissingOnly complete (fault.OutOfMemory k) = ⊤
  IsMissingOnly complete (fault.Missing k) = ¬ complete
  IsMissingOnly complete (fault.Misplaced k d) = ⊤
  IsMissingOnly complete (fault.Mismatch m report) = ⊤

  -- no part is said to be missing
  abbrev pub NoneMissing : CloseFault J S K → Type 0
  NoneMissing (fault.OutOfMemory k) = ⊤
  NoneMissing (fault.Missing k) = ⊥
  NoneMissing (fault.Misplaced k d) = ⊤
  NoneMissing (fault.Mismatch m report) = ⊤

  -- a mismatch is that of an event of the report
  abbrev pub IsMismatchOnly : CloseFault J S K → Type 0
  IsMismatchOnly (fault.OutOfMemory k) = ⊤
  IsMismatchOnly (fault.Missing k) = ⊤
  IsMismatchOnly (fault.Misplaced k d) = ⊤
  IsMismatchOnly (fault.Mismatch m report) = IsMismatch report.tables.items m

module _ {J S : Type 0} where
  -- the processes of a report: what began has ended or is live, and what is left is live
  pub record IsBalanced (report : Report J S) : Type 0 where
    pub balance : report.begun ≡ report.ended + report.live
    pub left : length report.processes.items ≤ report.live

  -- a report of so many supervisors
  pub record IsReportOf (tables : ℕ) (report : Report J S) : Type 0 where
    pub count : length report.tables.items ≡ tables
    pub begins : All HasBegun report.tables.items
    pub shown : All HasTold report.tables.items
    -- no process number is in the histories of two of them
    pub apart : AreApart report.tables.items
    -- of the orders of each history all were sent, but those that were still to be sent
    pub unsent : All HasUnsent report.tables.items
    -- each end that one was told of another is one that the other's history gives
    pub told : AreSo report.tables.items
    pub processes : IsBalanced report
    -- what began is the root's process, and those whose starts were sent
    pub starts : HasAllStarts report
    -- as many ended as end notes are among what the supervisors took and left, were told whoever opened the tree, or were still
    -- to be sent
    pub ends : HasAllEnds report

-- the tree, as it was, as far as contracts see it
pub record IsIntact {N J S : Type 0} (shared : SystemView) (hands : List (HandView J S)) (client : TreeClientView) (k : Intact N J S) : Type 0 where
  -- it has as many slots of signal words, and as many supervisors; what lies under a lock is known by its type alone
  pub shared_is : k.shared ≡ shared
  -- each hand has its scheduler, its senders, its processes, its letter and its passes; of what its viewer saw nothing is said
  pub hands_are : k.hands.items ≡ hands
  -- it has its numbers and posts, its senders, and what it took of the root's notes
  pub client_is : k.client ≡ client

-- nothing was taken apart for this cause, and all comes back
abbrev pub IsRefusalOf : {N J S : Type 0} → Refusal → SystemView → List (HandView J S) → TreeClientView → CloseFault J S (Intact N J S) → Type 0
IsRefusalOf refusal.OutOfMemory shared hands client (fault.OutOfMemory k) = IsIntact shared hands client k
IsRefusalOf refusal.Missing shared hands client (fault.Missing k) = IsIntact shared hands client k
IsRefusalOf (refusal.Misplaced e) shared hands client (fault.Misplaced k d) = IsIntact shared hands client k
IsRefusalOf _ shared hands client _ = ⊥
