-- In which order children are stopped and started (Supervisor Behaviour, Supervision Principles, Starting a Supervisor,
-- Stopping, and Restart Strategy).
use Rattle.std.specs.Prelude.{◌≡◌, ◌⊎◌, ℕ, ◌≤◌, true, false, List, [], ◌∷◌, ◌++◌, Option, Some, All, map, max, slice_get}
use Rattle.std.specs.List.{list_any}
use Rattle.otp_reason.specs.declared.name.Name.{Name}
use Rattle.otp_spec.specs.declared.child.ChildSpec.{ChildSpec}
use Rattle.otp_spec.specs.declared.flags.SupFlags.{SupFlags}
use Rattle.otp_table.specs.declared.row.Row.{Row}
use Rattle.otp_table.specs.declared.row.RowState.TheVariants.{Asked}
use Rattle.otp_table.specs.Rows.{is_awaited, row_has}
use Rattle.otp_rules.specs.declared.event.Effect.{Effect}
use Rattle.otp_rules.specs.declared.event.Effect.TheVariants as effect
use Rattle.otp_rules.specs.declared.event.Event.{Event}
use Rattle.otp_rules.specs.declared.event.Kind.TheVariants as kind
use Rattle.otp_rules.specs.State.{State}
use Rattle.otp_rules.specs.Step.{step}
use Rattle.otp_rules.specs.Run.{empty_state, state_after}
use Rattle.otp_rules.specs.Needs.{IsLawfulHistory}
use Rattle.otp_rules.specs.Progress.{Progress, no_progress, decided, ends_together, id_bytes, is_opened, processes, progress, seen, start_list, IsIn, IsPart}
use Rattle.otp_rules.specs.Fit.{IsFit, IsInStep, IsLawfulFrom}

-- the process is that of a child that the work is about, and each other that stands after it in start order has ended
abbrev pub StopsInTurn : Progress → ℕ → Type 0
StopsInTurn g p =
    (part : List Row) × IsPart g part
    × IsIn p (processes part)
    × (earlier : List ℕ) × (later : List ℕ)
    × (processes g.opened.rows ≡ earlier ++ p ∷ later)
    × ((q : ℕ) → IsIn q later → IsIn q (processes part) → IsIn q g.ended)

-- the child is the next to start: all processes of children that the work is about have ended, and for each child that
-- comes before it in the start list a start was ordered since, in the same order, and then answered by Up or Ignored
abbrev pub StartsInTurn : Progress → Option Name → Type 0
StartsInTurn g id =
    (part : List Row) × IsPart g part
    × (before : List Row) × (row : Row) × (rest : List Row)
    × (start_list g.opened.follows part ≡ before ++ row ∷ rest)
    × (id_bytes row.id ≡ id_bytes id)
    × (map (λ x. id_bytes x.id) g.ordered ≡ map (λ (x : Row). id_bytes x.id) before)
    × All (λ x. x.answered ≡ true) g.ordered
    × ((p : ℕ) → IsIn p (processes part) → IsIn p g.ended)

-- a child is told to stop in its turn, while no answer of a child is awaited
abbrev pub IsFirstStop : State → Event → Progress → ℕ → Type 0
IsFirstStop s e g p = (list_any (row_has is_awaited) (decided s e).rows ≡ false) × StopsInTurn g p

-- the event ends a supervisor of dynamic children, which are all told together
abbrev pub IsToldTogether : State → Event → Type 0
IsToldTogether s e = (is_opened s.follows (decided s e).follows ≡ true) × (ends_together (decided s e) ≡ true)

-- the child was asked to shut down until a time that has come, and the event ticks
abbrev pub IsLate : State → Event → ℕ → Type 0
IsLate s e p =
    (e.kind ≡ kind.Ticked)
    × (place : ℕ) × (row : Row) × (deadline : ℕ)
    × (slice_get s.rows place ≡ Some row)
    × (row.state ≡ Asked p (Some deadline))
    × (deadline ≤ max e.reading s.last)

abbrev pub IsStopInTurn : State → Event → Progress → Effect → Type 0
IsStopInTurn s e g (effect.Ask _ p) = IsFirstStop s e g p ⊎ IsToldTogether s e
IsStopInTurn s e g (effect.Kill _ p) = IsFirstStop s e g p ⊎ (IsToldTogether s e ⊎ IsLate s e p)
IsStopInTurn s e g _ = Unit {0}

abbrev pub IsStartInTurn : Progress → Effect → Type 0
IsStartInTurn g (effect.Start id _) = StartsInTurn g id
IsStartInTurn g _ = Unit {0}

-- the progress after these events, when the orders of one more are given
abbrev pub progress_at : State → Progress → List Event → Event → Progress
progress_at s g events e = seen (state_after s events) e (progress s g events)

-- whatever happens from this state on: a child is told to stop only in its turn, but for a kill at a deadline, and for
-- dynamic children, which are told together
abbrev pub StopsInOrder : State → Progress → Type 0
StopsInOrder s g = (events : List Event) (e : Event) → All (IsStopInTurn (state_after s events) e (progress_at s g events e)) (step (state_after s events) e).orders

-- in a lawful history from this state on a child is started only in its turn
abbrev pub StartsInOrder : ℕ → State → Progress → Type 0
StartsInOrder m s g =
    (events : List Event) (e : Event) → IsLawfulFrom m s (events ++ e ∷ []) → All (IsStartInTurn (progress_at s g events e)) (step (state_after s events) e).orders

-- from each state whose progress is in step
abbrev pub StopOrder : Type 0
StopOrder = (s : State) (g : Progress) → IsInStep s g → StopsInOrder s g

-- it is so from the state that was never opened on
abbrev pub StopOrderFromEmpty : Type 0
StopOrderFromEmpty = (flags : SupFlags) (specs : List ChildSpec) → StopsInOrder (empty_state flags specs) (no_progress (empty_state flags specs))

-- from each state that is fit
abbrev pub StartOrder : Type 0
StartOrder = (m : ℕ) (s : State) (g : Progress) → IsFit m s g → StartsInOrder m s g

-- it is so from the state that was never opened on
abbrev pub StartOrderFromEmpty : Type 0
StartOrderFromEmpty =
    (flags : SupFlags) (specs : List ChildSpec) (events : List Event) (e : Event)
    → IsLawfulHistory (empty_state flags specs) (events ++ e ∷ [])
    → All (IsStartInTurn (progress_at (empty_state flags specs) (no_progress (empty_state flags specs)) events e)) (step (state_after (empty_state flags specs) events) e).orders
