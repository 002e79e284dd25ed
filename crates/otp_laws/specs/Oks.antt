-- What an answer to a call says of what it asked for (supervisor, start_child/2, restart_child/2, delete_child/2,
-- terminate_child/2).
use Rattle.std.specs.Prelude.{◌≡◌, ◌⊎◌, ℕ, ◌++◌, Bool, true, false, List, [], ◌∷◌, Option, None, Some, All, Contains, is_some}
use Rattle.otp_reason.specs.declared.note.Note.TheVariants as note
use Rattle.otp_spec.specs.declared.child.ChildSpec.{ChildSpec}
use Rattle.otp_spec.specs.declared.flags.SupFlags.{SupFlags}
use Rattle.otp_table.specs.declared.row.Row.{Row}
use Rattle.otp_table.specs.declared.row.RowState.TheVariants.{Up}
use Rattle.otp_table.specs.Rows.{has_id, has_number}
use Rattle.otp_rules.specs.declared.call.Answered.{Answered}
use Rattle.otp_rules.specs.declared.call.Call.{Call}
use Rattle.otp_rules.specs.declared.call.Call.TheVariants as call
use Rattle.otp_rules.specs.declared.call.Reply.{Reply}
use Rattle.otp_rules.specs.declared.call.Reply.TheVariants as reply
use Rattle.otp_rules.specs.declared.event.Event.{Event}
use Rattle.otp_rules.specs.declared.event.Item.TheVariants as item
use Rattle.otp_rules.specs.declared.event.Kind.{Kind}
use Rattle.otp_rules.specs.declared.work.Sequel.{Sequel}
use Rattle.otp_rules.specs.declared.work.Sequel.TheVariants as sequel
use Rattle.otp_rules.specs.State.{State}
use Rattle.otp_rules.specs.Step.{step}
use Rattle.otp_rules.specs.Run.{empty_state, state_after}
use Rattle.otp_rules.specs.Needs.{IsLawfulHistory}
use Rattle.otp_rules.specs.Homes.{Brings}
use Rattle.otp_rules.specs.Progress.{Ordered, Progress, decided, id_bytes, no_progress, process_number, processes, IsFirstRow, IsIn, IsPart}
use Rattle.otp_rules.specs.Fit.{is_starting, IsLawfulFrom}
use Rattle.otp_rules.specs.Order.{progress_at}
use Rattle.otp_laws.specs.Basis.{IsBasis}

-- the call is to delete or to terminate the child in this row, which it names by its id or, under simple_one_for_one, by
-- the number of its process
abbrev pub Names : Call → List Row → ℕ → Row → Type 0
Names (call.DeleteChild id) rows place row = IsFirstRow (λ other. has_id id other ≡ true) rows place row
Names (call.TerminateChild id) rows place row = IsFirstRow (λ other. has_id id other ≡ true) rows place row
Names (call.TerminateProcess p) rows place row = IsFirstRow (λ other. has_number p other.state ≡ true) rows place row
Names _ rows place row = ⊥

-- the event takes this call, and the child that it names has no process
pub record IsDownAlready (s : State) (k : Kind) (c : ℕ) : Type 0 where
  pub asked : Call
  pub takes : Brings k s.waiting (item.Call c asked)
  pub place : ℕ
  pub row : Row
  pub named : Names asked s.rows place row
  pub down : process_number row.state ≡ None

-- the open work, before it goes on, is that of this call to terminate a child, and the child's process has ended: the note
-- Exit was taken
pub record HasStopped (s : State) (e : Event) (g : Progress) (c : ℕ) : Type 0 where
  pub follows : g.opened.follows ≡ Some (sequel.Stopped c)
  pub now : (decided s e).follows ≡ Some (sequel.Stopped c)
  pub part : List Row
  pub is : IsPart g part
  pub ended : (q : ℕ) → IsIn q (processes part) → IsIn q g.ended

-- the open work is that of this call to start a child, or to start it again; the event takes the note that the process
-- came up, whose start this work has ordered; and after it a child with the id that the call asks for has it, and is up
pub record HasComeUp (s : State) (e : Event) (g : Progress) (c p : ℕ) : Type 0 where
  pub follows : (g.opened.follows ≡ Some (sequel.Added c)) ⊎ (g.opened.follows ≡ Some (sequel.Restarted c))
  pub now : s.follows ≡ g.opened.follows
  pub child : Row
  pub is : IsPart g (child ∷ [])
  pub takes : Brings e.kind s.waiting (item.Note (note.Up p))
  pub start : Ordered
  pub since : Contains g.ordered start
  pub number : start.number ≡ p
  pub row : Row
  pub among : Contains (step s e).state.rows row
  pub up : row.state ≡ Up p
  pub same : id_bytes row.id ≡ id_bytes child.id

-- what an answer says
abbrev pub IsTrue : State → Event → Progress → ℕ → Reply → Type 0
IsTrue s e g c reply.Ok = IsDownAlready s e.kind c ⊎ HasStopped s e g c
IsTrue s e g c (reply.OkProcess p) = HasComeUp s e g c p
IsTrue s e g c _ = Unit {0}

-- the answers that the event gives are true
abbrev pub TellsTruth : State → Event → Progress → Type 0
TellsTruth s e g = (given : List Answered) × ((step s e).state.replies ≡ s.replies ++ given) × All (λ (a : Answered). IsTrue s e g a.call a.reply) given

-- a child is started for a call
abbrev pub is_call_start : Option Sequel → Bool
is_call_start (Some (sequel.Added _)) = true
is_call_start (Some (sequel.Restarted _)) = true
is_call_start _ = false

-- open work is the one that was opened last
abbrev pub IsOfOpened : State → Progress → Type 0
IsOfOpened s g = is_some s.follows ≡ true → g.opened.follows ≡ s.follows

-- a start that is awaited for a call is among those that the work has ordered, of the same id and under its number
abbrev pub StartsAreOrdered : State → Progress → Type 0
StartsAreOrdered s g = is_call_start s.follows ≡ true → (row : Row) (q : ℕ) → Contains s.rows row → is_starting q row.state ≡ true → (x : Ordered) × Contains g.ordered x × (id_bytes x.id ≡ id_bytes row.id) × (x.number ≡ q)

-- so it is after each lawful history from such a basis
abbrev pub AnswersTrueFrom : Type 0
AnswersTrueFrom =
    (m : ℕ) (s : State) (g : Progress) (events : List Event) (e : Event) → IsBasis m s g → IsOfOpened s g → StartsAreOrdered s g → IsLawfulFrom m s events
    → TellsTruth (state_after s events) e (progress_at s g events e)

-- it is so from the state that was never opened on
abbrev pub AnswersTrue : Type 0
AnswersTrue =
    (flags : SupFlags) (specs : List ChildSpec) (events : List Event) (e : Event) → IsLawfulHistory (empty_state flags specs) events
    → TellsTruth (state_after (empty_state flags specs) events) e (progress_at (empty_state flags specs) (no_progress (empty_state flags specs)) events e)
